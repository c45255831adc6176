-- `run_length` meets its contract.
-- Assumes nothing.
use Prim.Native.Nat.{◌<◌}
use native.Mathlib.Omega.{arith}
use borrow.Author.Tests.{lt-ltb, le-ltb}
use Rattle.description.specs.Description.{kind_at}
use Rattle.description.proofs.Records.{no_group}
use Rattle.tidying.specs.Asks.{run_length}
use Rattle.tidying.proofs.writing.run_length.Goals as goal

pub returns-in-Group : goal.returns-in-Group
unfolding run_length
returns-in-Group c = let r = c.in-Group.ensures.1 in (rw (le-ltb (kind_at c.args.d.now c.args.k) 2 r.0) r.2.count, r.2.few)

pub returns-in_default : goal.returns-in_default
unfolding run_length
returns-in_default c =
    let other : kind_at c.args.d.now c.args.k < 2 = no_group c.args.d.now c.args.k _ c.record_at.ensures.1 c.in_default.not-Group in
    (rw (lt-ltb (kind_at c.args.d.now c.args.k) 2 other), omega arith)
