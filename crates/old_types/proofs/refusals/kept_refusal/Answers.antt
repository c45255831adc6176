-- `kept_refusal` meets its contract.
-- Assumes nothing.
use mathlib.Core.Path.{ap}
use Rattle.form.specs.declared.Refusal.{Refusal}
use Rattle.form.specs.Reading.{refusal_at, refusal_by}
use Rattle.form.proofs.Judgment.{refused}
use Rattle.old_types.specs.Conditions.{refusal_for}
use Rattle.old_types.proofs.refusals.kept_refusal.Goals as goal

pub returns-in-Err : goal.returns-in-Err
unfolding refusal_for refusal_by refusal_at
returns-in-Err c = ap (λ (r : Refusal). r.number) (refused _ _ _ c.in-Err.ensures).1
