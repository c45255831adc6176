use mathlib.Core.Path.{sym}
use Rattle.classes.specs.declared.Class.TheVariants.{Memory}
use Rattle.classes.specs.Classes.{same}
use Rattle.places.specs.Returns.{hidden_by}
use Rattle.places.proofs.Records.{differs}
use Rattle.places.proofs.return_places.hidden_for.Goals as goal

pub returns-in-Memory : goal.returns-in-Memory
unfolding hidden_by same
returns-in-Memory c = rw c.in-Memory.is

pub returns-in_default : goal.returns-in_default
unfolding hidden_by
returns-in_default c = sym (differs c.args.first Memory c.in_default.not-Memory)
