use mathlib.Core.Path.{sym, ap, ◌∙◌}
use Rattle.std.proofs.Common.{Some, None}
use Rattle.classes.proofs.Laws.{or_left, or_right}
use Rattle.places.specs.Recorded.{at_most_one}
use Rattle.places.proofs.Records.{stack-kinds, pair-kinds}
use Rattle.places.proofs.shapes.kinds_of.Goals as goal
use Rattle.places.proofs.shapes.kinds_of.Goals.{then-goes_on_stack-via-then-goes_on_stack, then-goes_on_stack-via-else-goes_on_stack+then-goes_on_stack-2}

pub returns-then-goes_on_stack : goal.returns-then-goes_on_stack
returns-then-goes_on_stack c =
    elim c.then-goes_on_stack.branch [
      | then-goes_on_stack-via-then-goes_on_stack w ↦ stack-kinds _ _ (or_left _ _ (sym c.goes_on_stack.ensures ∙ w.if-goes_on_stack.true))
      | then-goes_on_stack-via-else-goes_on_stack+then-goes_on_stack-2 w ↦ stack-kinds _ _ (or_right _ _ (sym w.goes_on_stack-else-goes_on_stack.ensures ∙ w.if-goes_on_stack-2.true))
    ]

pub returns-in-Some-Some : goal.returns-in-Some-Some
returns-in-Some-Some c = pair-kinds _ _ (sym c.goes_on_stack.ensures ∙ c.if-goes_on_stack.false) (sym c.goes_on_stack-else-goes_on_stack.ensures ∙ c.if-goes_on_stack-2.false) (Some _) (Some _) (ap at_most_one (sym c.in-Some-Some.is-0) ∙ c.kind_of.ensures) (ap at_most_one (sym c.in-Some-Some.is-1) ∙ c.kind_of-2.ensures)

pub returns-in-Some-None : goal.returns-in-Some-None
returns-in-Some-None c = pair-kinds _ _ (sym c.goes_on_stack.ensures ∙ c.if-goes_on_stack.false) (sym c.goes_on_stack-else-goes_on_stack.ensures ∙ c.if-goes_on_stack-2.false) (Some _) None (ap at_most_one (sym c.in-Some-None.is-0) ∙ c.kind_of.ensures) (ap at_most_one (sym c.in-Some-None.is-1) ∙ c.kind_of-2.ensures)

pub returns-in-None-Some : goal.returns-in-None-Some
returns-in-None-Some c = pair-kinds _ _ (sym c.goes_on_stack.ensures ∙ c.if-goes_on_stack.false) (sym c.goes_on_stack-else-goes_on_stack.ensures ∙ c.if-goes_on_stack-2.false) None (Some _) (ap at_most_one (sym c.in-None-Some.is-0) ∙ c.kind_of.ensures) (ap at_most_one (sym c.in-None-Some.is-1) ∙ c.kind_of-2.ensures)

pub returns-in-None-None : goal.returns-in-None-None
returns-in-None-None c = pair-kinds _ _ (sym c.goes_on_stack.ensures ∙ c.if-goes_on_stack.false) (sym c.goes_on_stack-else-goes_on_stack.ensures ∙ c.if-goes_on_stack-2.false) None None (ap at_most_one (sym c.in-None-None.is-0) ∙ c.kind_of.ensures) (ap at_most_one (sym c.in-None-None.is-1) ∙ c.kind_of-2.ensures)
