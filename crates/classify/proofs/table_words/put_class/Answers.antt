-- `put_class` meets its contract.
-- Assumes nothing.
use native.Mathlib.Omega.{arith}
use Rattle.classify.specs.Classify.{one_class}
use Rattle.classify.proofs.Steps.{put-past}
use Rattle.classify.proofs.table_words.put_class.Goals as goal

pub returns-then-i-lt2 : goal.returns-then-i-lt2
unfolding one_class
returns-then-i-lt2 c = rw c.eightbyte-i.ensures

pub returns-else-i-lt2 : goal.returns-else-i-lt2
returns-else-i-lt2 c = put-past c.args.at.0 c.args.class (omega (arith, c.eightbyte-i.ensures, c.if-i-lt2.false))
