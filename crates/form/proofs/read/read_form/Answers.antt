-- `read_form` meets its contract.
-- Assumes nothing.
use Rattle.form.proofs.Form.{accepted-headed}
use Rattle.form.proofs.Judgment.{passed}
use Rattle.form.proofs.read.read_form.Goals as goal

pub header_of-requires : goal.header_of-requires
header_of-requires c = accepted-headed _ (passed _ _ c.in_ok-judge.ensures)
