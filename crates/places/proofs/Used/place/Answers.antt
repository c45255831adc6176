use Rattle.std.proofs.Common.{Some, None}
use Rattle.places.specs.Recorded.{listed}
use Rattle.places.specs.Steps.{IsFound}
use Rattle.places.proofs.Records.{placed-stack, placed-registers}
use Rattle.places.proofs.Used.place.Goals as goal

pub returns-in-Some : goal.returns-in-Some
returns-in-Some c =
    let here : IsFound c.args.self.now (listed c.args.shape.kinds) (Some c.in-Some.place) c.in_registers.new.self = rw c.in-Some.is at c.in_registers.ensures in
    placed-registers _ _ c.args.shape _ here

pub returns-in-None : goal.returns-in-None
returns-in-None c =
    let none : IsFound c.args.self.now (listed c.args.shape.kinds) None c.in_registers.new.self = rw c.in-None.is at c.in_registers.ensures in
    placed-stack _ _ _ c.args.shape _ none c.on_stack.ensures.0 c.on_stack.ensures.1
