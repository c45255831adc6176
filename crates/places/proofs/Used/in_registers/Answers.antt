use mathlib.Core.Path.{refl, sym, ◌∙◌}
use Rattle.places.specs.Places.{fits}
use Rattle.places.specs.Recorded.{listed}
use Rattle.places.proofs.Records.{Took, took-one, took-two}
use Rattle.places.proofs.Used.in_registers.Goals as goal
use Rattle.places.proofs.Used.in_registers.Goals.{in-One, in-Two}

pub returns-in-Stack : goal.returns-in-Stack
unfolding fits
returns-in-Stack c = rw c.in-Stack.is (refl, refl)

pub returns-then-not-is_enough : goal.returns-then-not-is_enough
returns-then-not-is_enough c =
    let took : Took c.args.self.now (listed c.args.kinds) c.match-kinds.place c.match-kinds.after =
    elim c.match-kinds.branch [
      | in-One w ↦ rw (w.in-One.is, w.place-is, w.after-is) (took-one _ _ _ _ w.take.ensures.0 w.take.ensures.1)
      | in-Two w ↦ rw (w.in-Two.is, w.place-is, w.after-is) (took-two _ _ _ _ _ _ _ w.take-first.ensures.0 w.take-first.ensures.1 w.take-in-Two.ensures.0 w.take-in-Two.ensures.1)
    ] in
    (took.fit ∙ sym c.is_enough.ensures ∙ c.if-not-is_enough.true, refl)

pub returns : goal.returns
returns c =
    let took : Took c.args.self.now (listed c.args.kinds) c.match-kinds.place c.match-kinds.after =
    elim c.match-kinds.branch [
      | in-One w ↦ rw (w.in-One.is, w.place-is, w.after-is) (took-one _ _ _ _ w.take.ensures.0 w.take.ensures.1)
      | in-Two w ↦ rw (w.in-Two.is, w.place-is, w.after-is) (took-two _ _ _ _ _ _ _ w.take-first.ensures.0 w.take-first.ensures.1 w.take-in-Two.ensures.0 w.take-in-Two.ensures.1)
    ] in
    (took.fit ∙ sym c.is_enough.ensures ∙ c.if-not-is_enough.false, took.place, took.used)
