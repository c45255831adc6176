-- The part is the run. Assumes nothing.
use native.Mathlib.Omega.{arith}
use borrow.Rule.Slice.PartMut.{same_len_mid}
use Rattle.collecting.proofs.Adding.{copied-part}
use Rattle.collecting.proofs.interning.copy_run.Goals as goal

pub returns : goal.returns
returns c = (same_len_mid c.args.m _ c.args.members.now _ c.copy_from_slice.ensures.len, rw c.copy_from_slice.ensures.after (copied-part c.args.members.now c.args.run.now _ c.args.m (omega arith)))
