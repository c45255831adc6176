-- What the list is told. Assumes nothing.
use Rattle.std.proofs.Common.{length, ap, ◌∙◌}
use Rattle.questions.specs.Offsets.{offsets_refusal}
use Rattle.form.specs.Reading.{refusal_in}
use Rattle.callbridge.proofs.Given.{number-told}
use Rattle.callbridge.proofs.cb_member_offsets.Goals as goal

pub returns : goal.returns
returns c = (
  c.refusal_in.ensures ∙ ap refusal_in c.member_offsets.ensures.0 ∙ number-told c.args.d.now (offsets_refusal c.args.d.now c.args.asked (length c.args.offsets.now)),
  c.member_offsets.ensures.1,
)
