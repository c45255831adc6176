use Rattle.std.proofs.Common.{[], ◌∷◌, ap}
use Rattle.places.specs.Recorded.{place_of}
use Rattle.places.proofs.Returning.{return_outside, return_registers}
use Rattle.places.proofs.return_places.by_kinds.Goals as goal

pub returns-in-None : goal.returns-in-None
returns-in-None c = return_outside _ _ c.kinds_of-kinds.result _ _ _ c.kinds_of-kinds.ensures (rw c.fresh.ensures at c.in_registers.ensures) c.in-None.is c.outside_registers.ensures

pub returns-in-Some-One : goal.returns-in-Some-One
returns-in-Some-One c = rw c.in-Some-One.register-is (return_registers _ _ c.kinds_of-kinds.result _ _ _ (c.in-Some-One.register ∷ []) c.kinds_of-kinds.ensures (rw c.fresh.ensures at c.in_registers.ensures) c.in-Some-One.is (ap place_of c.in-Some-One.field-0-is))

pub returns-in-Some-Two : goal.returns-in-Some-Two
returns-in-Some-Two c = rw (c.in-Some-Two.low-is, c.in-Some-Two.high-is) (return_registers _ _ c.kinds_of-kinds.result _ _ _ (c.in-Some-Two.low ∷ c.in-Some-Two.high ∷ []) c.kinds_of-kinds.ensures (rw c.fresh.ensures at c.in_registers.ensures) c.in-Some-Two.is (ap place_of c.in-Some-Two.field-0-is))
