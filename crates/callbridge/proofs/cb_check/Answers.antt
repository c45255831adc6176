-- The verdict's refusal. Assumes nothing.
use Rattle.std.proofs.Common.{ap, ◌∙◌}
use Rattle.form.specs.Reading.{refusal_in}
use Rattle.layout.specs.Layout.{check_answer}
use Rattle.layout.specs.Verdict.{verdict}
use Rattle.callbridge.proofs.Given.{number-told}
use Rattle.callbridge.proofs.cb_check.Goals as goal

pub returns : goal.returns
unfolding check_answer
returns c = c.refusal_in.ensures ∙ ap refusal_in c.check.ensures ∙ number-told c.args.d.now (verdict c.args.d.now)
