-- `returned` meets its contract.
-- Assumes nothing.
use native.Mathlib.Omega.{arith}
use borrow.Author.Tests.{eq-eqb, ne_eqb}
use Rattle.old_layout.specs.Layout.{returned_size}
use Rattle.old_layout.proofs.Arguments.{return_known}
use Rattle.old_layout.proofs.Uses.{accepted-typed}
use Rattle.old_types.proofs.Table.{entry-low, entry-extent}
use Rattle.layout.specs.Arguments.{is_void}
use Rattle.old_layout.proofs.described.OldDescribed.returned.Goals as goal

pub byte_at-k-requires : goal.byte_at-k-requires
byte_at-k-requires c = omega (arith, (accepted-typed c.args.self.bytes.now c.args.self.known.right).whole.headed)

pub returns-then-k-eq255 : goal.returns-then-k-eq255
unfolding returned_size is_void
returns-then-k-eq255 c = rw (← c.byte_at-k.ensures.0, eq-eqb _ 255 c.if-k-eq255.true)

pub extent_in-requires : goal.extent_in-requires
extent_in-requires c = entry-low c.args.self.bytes.now c.args.self.table.now _ c.args.self.known.sizes c.byte_at-k.result (return_known c.args.self.bytes.now c.args.self.known.right c.byte_at-k.result c.byte_at-k.ensures.0 c.if-k-eq255.false)

pub returns : goal.returns
unfolding returned_size is_void
returns c = rw (← c.byte_at-k.ensures.0, ne_eqb _ 255 c.if-k-eq255.false) (entry-extent c.args.self.bytes.now c.args.self.table.now _ c.args.self.known.sizes c.byte_at-k.result (return_known c.args.self.bytes.now c.args.self.known.right c.byte_at-k.result c.byte_at-k.ensures.0 c.if-k-eq255.false) c.extent_in.result c.extent_in.ensures).size
