-- `is_group` meets its contract.
-- Assumes nothing.
use borrow.Author.Tests.{le-leb, lt-leb}
use Rattle.description.proofs.Records.{no_group}
use Rattle.old_layout.proofs.laying.is_group.Goals as goal

pub returns-in-Group : goal.returns-in-Group
returns-in-Group c = rw (le-leb 2 _ c.in-Group.ensures.1.0)

pub returns-in_default : goal.returns-in_default
returns-in_default c = rw (lt-leb 2 _ (no_group c.args.d.now c.args.k _ c.record_at.ensures.1 c.in_default.not-Group))
