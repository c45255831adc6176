-- `wrong_address` meets its contract, by the model.
-- Assumes nothing.
use mathlib.Core.Path.{sym, ap, ap₂, ◌∙◌}
use mathlib.Core.Bool.{Bool}
use Rattle.description.specs.declared.Model.{Model}
use Rattle.moving.specs.Address.{wrong_address}
use Rattle.moving.proofs.refusals.wrong_address.Goals as goal

pub returns-in-Lp64 : goal.returns-in-Lp64
unfolding wrong_address
returns-in-Lp64 c = sym (ap (λ (m : Model). wrong_address m c.args.used c.args.address) (sym c.model_of.ensures ∙ c.in-Lp64.is))

pub returns-then-used : goal.returns-then-used
unfolding wrong_address
returns-then-used c = sym (ap₂ (λ (m : Model) (b : Bool). wrong_address m b c.args.address) (sym c.model_of.ensures ∙ c.in-Ilp32.is) c.if-used.true)

pub returns-else-used : goal.returns-else-used
unfolding wrong_address
returns-else-used c = c.if-used.false ∙ sym (ap₂ (λ (m : Model) (b : Bool). wrong_address m b c.args.address) (sym c.model_of.ensures ∙ c.in-Ilp32.is) c.if-used.false)
