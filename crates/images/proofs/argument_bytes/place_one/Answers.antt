-- `place_one` meets its contract: each arm's copies come to the bytes of the place.
-- Assumes nothing.
use native.Mathlib.Omega.{arith}
use mathlib.Core.List.{append_assoc}
use Rattle.images.proofs.Moves.{ask-one, two-known, room-low, room-high, room-stack, placed_one, placed-stack, placed-two}
use Rattle.images.proofs.argument_bytes.place_one.Goals as goal

pub place_alone-requires : goal.place_alone-requires
place_alone-requires c = ask-one _ _ _ _ _ _ _ c.requires _ c.in-One.is

pub address_of-requires : goal.address_of-requires
address_of-requires c = (two-known _ _ _ _ _ _ _ c.requires _ _ c.in-Two.is).0

pub copy_bytes-requires : goal.copy_bytes-requires
copy_bytes-requires c = room-low _ _ _ _ _ _ _ c.requires _ _ c.in-Two.is _ c.address_of.ensures

pub sub-requires : goal.sub-requires
sub-requires c = (two-known _ _ _ _ _ _ _ c.requires _ _ c.in-Two.is).1.1

pub address_of-requires-in-Two : goal.address_of-requires-in-Two
address_of-requires-in-Two c = (two-known _ _ _ _ _ _ _ c.requires _ _ c.in-Two.is).1.0

pub copy_bytes-requires-in-Two : goal.copy_bytes-requires-in-Two
copy_bytes-requires-in-Two c = omega (arith, room-high _ _ _ _ _ _ _ c.requires _ _ c.in-Two.is _ _ _ c.address_of-in-Two.ensures c.add.ensures c.sub.ensures)

pub copy_bytes-requires-in-Stack : goal.copy_bytes-requires-in-Stack
copy_bytes-requires-in-Stack c = room-stack _ _ _ _ _ _ _ c.requires _ c.in-Stack.is

pub returns-in-One : goal.returns-in-One
returns-in-One c = rw (← append_assoc) (placed_one c.args.registers.now c.args.upper.now c.args.stack.now c.args.values.now _ _ _ c.requires _ c.in-One.is _ c.place_alone.ensures)

pub returns-in-Two : goal.returns-in-Two
returns-in-Two c = placed-two _ c.args.upper.now _ _ _ _ _ c.requires _ _ c.in-Two.is _ _ _ _ c.address_of.ensures c.address_of-in-Two.ensures c.add.ensures c.sub.ensures _ _ c.copy_bytes.ensures c.copy_bytes-in-Two.ensures

pub returns-in-Stack : goal.returns-in-Stack
returns-in-Stack c = placed-stack c.args.registers.now c.args.upper.now _ _ _ _ _ c.requires _ c.in-Stack.is _ c.copy_bytes-in-Stack.ensures
