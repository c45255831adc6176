-- `judge_passing` meets its contract.
-- Assumes nothing.
use mathlib.Core.Path.{sym}
use Rattle.uses.proofs.Uses.{right-typed}
use Rattle.uses.proofs.judge_passing.Goals as goal

pub narrow_unnamed-requires : goal.narrow_unnamed-requires
narrow_unnamed-requires c = right-typed c.args.d.now c.requires.0 c.requires.1 (sym c.if-wrong_use.ensures)
