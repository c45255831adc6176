use Rattle.classes.specs.declared.Class.TheVariants.{Integer}
use Rattle.classes.specs.Classes.{same}
use Rattle.places.proofs.Records.{differs}
use Rattle.places.proofs.Used.first_of.Goals as goal

pub returns-in-Integer : goal.returns-in-Integer
unfolding same
returns-in-Integer c = rw c.in-Integer.is

pub returns-in_default : goal.returns-in_default
returns-in_default c = rw (differs c.args.class Integer c.in_default.not-Integer)
