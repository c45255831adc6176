-- List by list.
-- Assumes nothing.
use mathlib.Core.Path.{sym, ◌∙◌}
use Rattle.by_plan.specs.Lists.{pairs_of, triples_of}
use Rattle.by_plan.proofs.Lists.{three-fit}
use Rattle.by_plan.proofs.moves.all_fit.Goals as goal
use Rattle.by_plan.proofs.moves.all_fit.Goals.{then-pairs_fit, else-pairs_fit}

pub returns-then-pairs_fit-2 : goal.returns-then-pairs_fit-2
returns-then-pairs_fit-2 c =
    elim c.if-pairs_fit.branch [
      | then-pairs_fit w ↦ c.parts_fit.ensures ∙ sym (three-fit c.args.values c.args.image (pairs_of 8 c.args.lists.eights.now) (pairs_of 4 c.args.lists.fours.now) (triples_of c.args.lists.parts.now) ∙ rw (sym c.pairs_fit.ensures ∙ w.if-pairs_fit.true, sym w.pairs_fit-then-pairs_fit.ensures ∙ sym w.value-is ∙ c.if-pairs_fit-2.true))
      | else-pairs_fit w ↦ absurd (cc)
    ]

pub returns-else-pairs_fit-2 : goal.returns-else-pairs_fit-2
returns-else-pairs_fit-2 c =
    elim c.if-pairs_fit.branch [
      | then-pairs_fit w ↦ c.if-pairs_fit-2.false ∙ sym (three-fit c.args.values c.args.image (pairs_of 8 c.args.lists.eights.now) (pairs_of 4 c.args.lists.fours.now) (triples_of c.args.lists.parts.now) ∙ rw (sym c.pairs_fit.ensures ∙ w.if-pairs_fit.true, sym w.pairs_fit-then-pairs_fit.ensures ∙ sym w.value-is ∙ c.if-pairs_fit-2.false))
      | else-pairs_fit w ↦ c.if-pairs_fit-2.false ∙ sym (three-fit c.args.values c.args.image (pairs_of 8 c.args.lists.eights.now) (pairs_of 4 c.args.lists.fours.now) (triples_of c.args.lists.parts.now) ∙ rw (sym c.pairs_fit.ensures ∙ w.if-pairs_fit.false))
    ]
