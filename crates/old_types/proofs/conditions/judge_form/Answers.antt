-- `judge_form` meets its contract: bit 1 is looked at where document 01's 1 to 4 do not refuse.
-- Assumes nothing.
use mathlib.Core.Path.{◌∙◌}
use Rattle.form.proofs.Form.{accepted-headed}
use Rattle.form.proofs.Judgment.{passed}
use Rattle.old_types.proofs.Judged.{form-passed, form-headed, form-refused_early, form-refused_late}
use Rattle.old_types.proofs.conditions.judge_form.Goals as goal

pub with_flags-requires : goal.with_flags-requires
with_flags-requires c = accepted-headed c.args.d.now (passed _ _ c.in-Ok.ensures)

pub returns-in-Ok : goal.returns-in-Ok
returns-in-Ok c = c.with_flags.ensures ∙ form-passed c.args.d.now c.in-Ok.ensures

pub returns-then-refusal-lt5 : goal.returns-then-refusal-lt5
returns-then-refusal-lt5 c = form-refused_early c.args.d.now c.in-Err.refusal c.in-Err.ensures c.if-refusal-lt5.true

pub with_flags-requires-else-refusal-lt5 : goal.with_flags-requires-else-refusal-lt5
with_flags-requires-else-refusal-lt5 c = form-headed c.args.d.now c.in-Err.refusal c.in-Err.ensures c.if-refusal-lt5.false

pub returns-else-refusal-lt5 : goal.returns-else-refusal-lt5
returns-else-refusal-lt5 c = c.with_flags-else-refusal-lt5.ensures ∙ form-refused_late c.args.d.now c.in-Err.refusal c.in-Err.ensures c.if-refusal-lt5.false
