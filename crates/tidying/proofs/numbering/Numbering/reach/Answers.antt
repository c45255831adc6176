use mathlib.Core.Path.{sym, ◌∙◌}
use native.Mathlib.Omega.{arith}
use borrow.Author.Tests.{eqb-true, eqb-false}
use lib.ListN.{get_or}
use Rattle.tidying.proofs.Completing.{reach_same, reach_done}
use Rattle.tidying.proofs.Numbers.{numbers-low}
use Rattle.tidying.proofs.numbering.Numbering.reach.Goals as goal

pub is_new-requires : goal.is_new-requires
is_new-requires c = omega (arith, c.requires, numbers-low c.args.self.now.types.bytes.now c.args.self.now.numbers c.args.self.now.originals c.args.self.now.count c.args.self.now.right)

pub lowest-part-requires : goal.lowest-part-requires
lowest-part-requires c = record { right = c.loop-self.self.right.right; known = rw c.loop-self.invariant.0 c.requires; blank = eqb-true (get_or c.loop-self.self.numbers c.args.k 0) 255 (sym c.loop-self-test.ensures) }

pub complete-requires : goal.complete-requires
complete-requires c = c.lowest-part.ensures.ready

pub loop-self-smaller : goal.loop-self-smaller
loop-self-smaller c = c.complete.ensures.2

pub loop-self-preserved : goal.loop-self-preserved
loop-self-preserved c = (
  c.complete.ensures.0 ∙ c.loop-self.invariant.0,
  rw c.complete.ensures.0
      (reach_same c.loop-self.self.types.bytes.now c.args.self.now.numbers c.args.self.now.originals c.args.self.now.count c.args.k c.loop-self.self.numbers c.loop-self.self.originals c.loop-self.self.count c.loop-self.self.right c.loop-self.invariant.1 c.loop-self.invariant.2 c.lowest-part.result c.lowest-part.ensures c.complete.new.self.numbers c.complete.new.self.originals c.complete.new.self.count c.complete.ensures.1),
  λ i h. c.complete.ensures.1.kept i (c.loop-self.invariant.2 i h),
)

pub returns : goal.returns
returns c = (
  c.loop-self.invariant.0,
  rw (← c.loop-self.invariant.0)
      (reach_done c.loop-self.self.types.bytes.now c.args.self.now.numbers c.args.self.now.originals c.args.self.now.count c.args.k c.loop-self.self.numbers c.loop-self.self.originals c.loop-self.self.count c.loop-self.self.right c.loop-self.invariant.1 c.loop-self.invariant.2 (rw c.loop-self.invariant.0 c.requires) (eqb-false (get_or c.loop-self.self.numbers c.args.k 0) 255 (sym c.loop-self-test.ensures))),
)
