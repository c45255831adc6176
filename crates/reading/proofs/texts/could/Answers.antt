-- `could` meets its contract: a number, a name or a fixed token.
use mathlib.Core.Path.{refl, sym, ◌∙◌}
use mathlib.Core.Bool.{true, false, true≢false}
use Rattle.reading.proofs.Digits.{told}
use Rattle.reading.proofs.Spelling.{could_by}
use Rattle.grammar.specs.Prototype.{declarations}
use Rattle.reading.proofs.texts.could.Goals as goal
use Rattle.reading.proofs.texts.could.Goals.{then-number_fits, else-number_fits}

pub returns-then-name_fits : goal.returns-then-name_fits
returns-then-name_fits c =
    elim c.if-number_fits.branch [
      | then-number_fits w ↦ c.if-name_fits.true ∙ could_by declarations _ _ true _ _ (told _ _ _ _ c.requires.1 c.number_fits.ensures ∙ w.if-number_fits.true) refl refl
      | else-number_fits w ↦ c.if-name_fits.true ∙ could_by declarations _ _ false true _ (told _ _ _ _ c.requires.1 c.number_fits.ensures ∙ w.if-number_fits.false) (sym w.name_fits.ensures ∙ sym w.value-is ∙ c.if-name_fits.true) refl
    ]

pub returns-else-name_fits : goal.returns-else-name_fits
returns-else-name_fits c =
    elim c.if-number_fits.branch [
      | then-number_fits w ↦ absurd (true≢false (sym w.if-number_fits.true ∙ sym w.value-is ∙ c.if-name_fits.false))
      | else-number_fits w ↦ could_by declarations _ _ false false _ (told _ _ _ _ c.requires.1 c.number_fits.ensures ∙ w.if-number_fits.false) (sym w.name_fits.ensures ∙ sym w.value-is ∙ c.if-name_fits.false) (sym c.some_fixed.ensures)
    ]
