use Rattle.form.specs.Reading.{refusal_in}
-- The refusal of the tidy form. Assumes nothing.
use Rattle.std.proofs.Common.{length, ap, ◌∙◌}
use Rattle.tidying.specs.Answers.{tidy_refusal, tidy_answer}
use Rattle.callbridge.proofs.Given.{number-told}
use Rattle.callbridge.proofs.cb_tidy.Goals as goal

pub returns : goal.returns
unfolding tidy_answer
returns c =
    let d = c.args.d.now in
    (c.refusal_in.ensures ∙ ap refusal_in c.tidy.ensures.0 ∙ number-told d (tidy_refusal d (length c.args.out.now)), c.tidy.ensures.1)
