use mathlib.Core.Path.{◌∙◌}
use native.Mathlib.Omega.{arith}
use lib.ListN.{length-set}
use Rattle.tidying.proofs.Marks.{mark-whole, mark-room, marked_more}
use Rattle.tidying.proofs.marking.mark_all.Goals as goal

pub byte_at-types-requires : goal.byte_at-types-requires
byte_at-types-requires c = omega (arith, (mark-whole c.args.d.now c.requires).headed)

pub bounds-marks-k : goal.bounds-marks-k
bounds-marks-k c = omega (arith, c.byte_at-types.ensures, mark-room c.args.d.now c.requires)

pub loop-k-preserved : goal.loop-k-preserved
loop-k-preserved c =
    (marked_more c.args.d.now c.loop-k.marks c.loop-k.k c.mark_of-mark.result c.loop-k.invariant.0 (omega (arith, c.loop-k.invariant.1, c.byte_at-types.ensures, mark-room c.args.d.now c.requires)) c.mark_of-mark.ensures, length-set c.loop-k.marks c.loop-k.k c.mark_of-mark.result ∙ c.loop-k.invariant.1)
