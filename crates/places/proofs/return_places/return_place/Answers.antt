use Rattle.classes.specs.Classes.{same, is_x87}
use Rattle.places.specs.Shapes.{kinds_of}
use Rattle.places.specs.Returns.{return_of}
use Rattle.places.proofs.return_places.return_place.Goals as goal

pub returns-then-wide : goal.returns-then-wide
unfolding return_of kinds_of same is_x87
returns-then-wide c = rw c.if-wide.true

pub returns-in-Integer-NoClass : goal.returns-in-Integer-NoClass
unfolding return_of kinds_of same is_x87
returns-in-Integer-NoClass c = rw (c.if-wide.false, c.in-Integer-NoClass.is-0, c.in-Integer-NoClass.is-1)

pub returns-in-Sse-NoClass : goal.returns-in-Sse-NoClass
unfolding return_of kinds_of same is_x87
returns-in-Sse-NoClass c = rw (c.if-wide.false, c.in-Sse-NoClass.is-0, c.in-Sse-NoClass.is-1)
