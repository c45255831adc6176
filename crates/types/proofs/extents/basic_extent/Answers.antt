-- `basic_extent` meets its contract: 15 is the pointer's entry, and no other one changes with the model.
-- Assumes nothing.
use mathlib.Core.Path.{ap, ◌∙◌}
use mathlib.Core.List.{List, [], ◌∷◌}
use Prim.Native.Nat.{ℕ}
use borrow.Author.Rules.{rules}
use lib.ListN.{take}
use Rattle.description.specs.declared.Model.TheVariants.{Lp64}
use Rattle.description.specs.Description.{model_in}
use Rattle.types.specs.Basic.{pointer, sizes, aligns, basic_size, basic_align}
use Rattle.types.proofs.Sizes.{other-entry, part_at}
use Rattle.types.proofs.extents.basic_extent.Goals as goal

pub returns-then-code-eq15 : goal.returns-then-code-eq15
unfolding basic_size basic_align
returns-then-code-eq15 c = (
  c.pointer_extent.ensures.0 ∙ ap pointer c.model_of.ensures ∙ rw c.if-code-eq15.true,
  c.pointer_extent.ensures.1 ∙ ap pointer c.model_of.ensures ∙ rw c.if-code-eq15.true,
)

abbrev pairs : List (ℕ × ℕ)
pairs = (1, 1) ∷ (1, 1) ∷ (2, 2) ∷ (4, 4) ∷ (8, 8) ∷ (16, 16) ∷ (4, 4) ∷ (8, 8) ∷ (16, 16) ∷ (16, 16) ∷ (8, 8) ∷ (16, 16) ∷ (8, 4) ∷ (16, 8) ∷ (32, 16) ∷ (8, 8) ∷ (32, 32) ∷ []

pub returns : goal.returns
unfolding basic_size basic_align
returns c = (
  c.from.ensures ∙ part_at (λ p. p.0) pairs c.args.code (0, 0) ∙ other-entry (take 15 (sizes Lp64)) (32 ∷ []) 8 (pointer (model_in c.args.d.now)) c.args.code 0 1 (search rules) (search rules),
  c.from-2.ensures ∙ part_at (λ p. p.1) pairs c.args.code (0, 0) ∙ other-entry (take 15 (aligns Lp64)) (32 ∷ []) 8 (pointer (model_in c.args.d.now)) c.args.code 0 1 (search rules) (search rules),
)
