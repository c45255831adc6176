-- `members_wide` meets its contract: what is left is the members from place i on.
-- Assumes nothing.
use mathlib.Core.Path.{◌≡◌, sym, ap, ◌∙◌}
use mathlib.Core.Bool.{Bool, ◌||◌}
use Prim.Native.Nat.{◌+◌, ◌-◌}
use native.Mathlib.Omega.{arith}
use Rattle.classify.specs.Vectors.{fits_vector}
use Rattle.classify.proofs.Known.{classed_less}
use Rattle.classify.proofs.OverTwo.{together-none, together-not, together-next}
use Rattle.classify.proofs.Steps.{run-less}
use Rattle.classify.proofs.wide_aggregates.members_wide.Goals as goal

pub returns-then-not-fits_vector : goal.returns-then-not-fits_vector
returns-then-not-fits_vector c = together-not c.args.known.d.now c.args.known.table.now c.args.k c.loop-i.i (c.args.first + c.args.count - c.loop-i.i) c.loop-i.invariant.0 (classed_less _ _ _ _ c.args.k c.args.known.ready c.requires.1) (omega (arith, c.loop-i-test.true)) c.member_at.result c.member_at.ensures c.loop-i.some _ (sym (c.fits_vector.ensures ∙ ap fits_vector c.packed.ensures.classes) ∙ c.if-not-fits_vector.true) c.loop-i.invariant.1

pub loop-i-preserved : goal.loop-i-preserved
loop-i-preserved c =
    let e : c.args.first + c.args.count - (c.loop-i.i + 1) ≡ c.args.first + c.args.count - c.loop-i.i - 1 = omega arith in
    rw e (run-less c.args.known.d.now c.args.k c.loop-i.i (c.args.first + c.args.count - c.loop-i.i) 0 1 c.loop-i.invariant.0 (omega (arith, c.loop-i-test.true)), together-next c.args.known.d.now c.args.known.table.now c.args.k c.loop-i.i (c.args.first + c.args.count - c.loop-i.i) c.loop-i.invariant.0 (classed_less _ _ _ _ c.args.k c.args.known.ready c.requires.1) (omega (arith, c.loop-i-test.true)) c.member_at.result c.member_at.ensures c.loop-i.some _ _ (sym (c.fits_vector.ensures ∙ ap fits_vector c.packed.ensures.classes) ∙ c.if-not-fits_vector.false) (ap (λ (b : Bool). c.loop-i.some || b) c.is_wide-some.ensures) c.loop-i.invariant.1)

pub returns : goal.returns
returns c = together-none c.args.known.d.now c.loop-i.i (c.args.first + c.args.count - c.loop-i.i) c.loop-i.some _ (omega (arith, c.loop-i-test.false)) c.loop-i.invariant.1
