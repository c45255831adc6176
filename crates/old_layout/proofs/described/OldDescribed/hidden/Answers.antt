-- `hidden` meets its contract.
-- Assumes nothing.
use native.Mathlib.Omega.{arith}
use borrow.Author.Tests.{ne_eqb}
use Rattle.old_layout.proofs.Arguments.{return_known}
use Rattle.old_layout.proofs.Uses.{accepted-typed}
use Rattle.layout.specs.Arguments.{is_void}
use Rattle.intel386.specs.Arguments.{hidden}
use Rattle.old_layout.proofs.described.OldDescribed.hidden.Goals as goal

pub byte_at-k-requires : goal.byte_at-k-requires
byte_at-k-requires c = omega (arith, (accepted-typed c.args.self.bytes.now c.args.self.known.right).whole.headed)

pub is_group-requires : goal.is_group-requires
is_group-requires c = ((accepted-typed c.args.self.bytes.now c.args.self.known.right).whole, return_known c.args.self.bytes.now c.args.self.known.right c.byte_at-k.result c.byte_at-k.ensures.0 c.if-k-ne255.true)

pub returns-then-k-ne255 : goal.returns-then-k-ne255
unfolding hidden is_void
returns-then-k-ne255 c = rw (← c.byte_at-k.ensures.0, ne_eqb _ 255 c.if-k-ne255.true, c.is_group.ensures)

pub returns-else-k-ne255 : goal.returns-else-k-ne255
unfolding hidden is_void
returns-else-k-ne255 c = rw (← c.byte_at-k.ensures.0, c.if-k-ne255.false)
