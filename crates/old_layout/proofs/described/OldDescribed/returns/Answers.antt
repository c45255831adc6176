-- `returns` meets its contract.
-- Assumes nothing.
use native.Mathlib.Omega.{arith}
use borrow.Author.Tests.{eq-eqb, ne_eqb}
use Rattle.old_layout.specs.Layout.{return_place}
use Rattle.old_layout.proofs.Arguments.{return_known}
use Rattle.old_layout.proofs.Uses.{accepted-typed}
use Rattle.layout.specs.Arguments.{is_void}
use Rattle.old_layout.proofs.described.OldDescribed.returns.Goals as goal

pub byte_at-k-requires : goal.byte_at-k-requires
byte_at-k-requires c = omega (arith, (accepted-typed c.args.self.bytes.now c.args.self.known.right).whole.headed)

pub returns-then-k-eq255 : goal.returns-then-k-eq255
unfolding return_place is_void
returns-then-k-eq255 c = rw (← c.byte_at-k.ensures.0, eq-eqb _ 255 c.if-k-eq255.true)

pub is_group-requires : goal.is_group-requires
is_group-requires c = ((accepted-typed c.args.self.bytes.now c.args.self.known.right).whole, return_known c.args.self.bytes.now c.args.self.known.right c.byte_at-k.result c.byte_at-k.ensures.0 c.if-k-eq255.false)

pub returns-then-is_group : goal.returns-then-is_group
unfolding return_place is_void
returns-then-is_group c = rw (← c.byte_at-k.ensures.0, ne_eqb _ 255 c.if-k-eq255.false, ← c.is_group.ensures, c.if-is_group.true)

pub a_at-requires : goal.a_at-requires
a_at-requires c = ((accepted-typed c.args.self.bytes.now c.args.self.known.right).whole, return_known c.args.self.bytes.now c.args.self.known.right c.byte_at-k.result c.byte_at-k.ensures.0 c.if-k-eq255.false)

pub returns : goal.returns
unfolding return_place is_void
returns c = rw (← c.byte_at-k.ensures.0, ne_eqb _ 255 c.if-k-eq255.false, ← c.is_group.ensures, c.if-is_group.false, c.result_of.ensures, c.a_at.ensures.0)
