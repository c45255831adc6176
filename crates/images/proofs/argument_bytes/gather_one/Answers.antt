-- `gather_one` meets its contract: each arm's copies come to the bytes of the place.
-- Assumes nothing.
use native.Mathlib.Omega.{arith}
use Rattle.images.proofs.Moves.{ask-one, two-known, room-low, room-high, room-stack, gathered-one, gathered-stack, gathered-two}
use Rattle.images.proofs.argument_bytes.gather_one.Goals as goal

pub gather_alone-requires : goal.gather_alone-requires
gather_alone-requires c = ask-one _ _ _ _ _ _ _ c.requires _ c.in-One.is

pub address_of-requires : goal.address_of-requires
address_of-requires c = (two-known _ _ _ _ _ _ _ c.requires _ _ c.in-Two.is).0

pub copy_bytes-requires : goal.copy_bytes-requires
copy_bytes-requires c = let l = room-low _ _ _ _ _ _ _ c.requires _ _ c.in-Two.is _ c.address_of.ensures in (l.1, l.0)

pub sub-requires : goal.sub-requires
sub-requires c = (two-known _ _ _ _ _ _ _ c.requires _ _ c.in-Two.is).1.1

pub address_of-requires-in-Two : goal.address_of-requires-in-Two
address_of-requires-in-Two c = (two-known _ _ _ _ _ _ _ c.requires _ _ c.in-Two.is).1.0

pub copy_bytes-requires-in-Two : goal.copy_bytes-requires-in-Two
copy_bytes-requires-in-Two c = omega (arith, room-high _ _ _ _ _ _ _ c.requires _ _ c.in-Two.is _ _ _ c.address_of-in-Two.ensures c.add.ensures c.sub.ensures)

pub copy_bytes-requires-in-Stack : goal.copy_bytes-requires-in-Stack
copy_bytes-requires-in-Stack c = let l = room-stack _ _ _ _ _ _ _ c.requires _ c.in-Stack.is in (l.1, l.0)

pub returns-in-One : goal.returns-in-One
returns-in-One c = gathered-one c.args.registers.now c.args.upper.now c.args.stack.now _ _ _ _ c.requires _ c.in-One.is _ c.gather_alone.ensures

pub returns-in-Two : goal.returns-in-Two
returns-in-Two c = gathered-two _ c.args.upper.now c.args.stack.now _ _ _ _ c.requires _ _ c.in-Two.is _ _ _ _ c.address_of.ensures c.address_of-in-Two.ensures c.add.ensures c.sub.ensures _ _ c.copy_bytes.ensures c.copy_bytes-in-Two.ensures

pub returns-in-Stack : goal.returns-in-Stack
returns-in-Stack c = gathered-stack c.args.registers.now c.args.upper.now _ _ _ _ _ c.requires _ c.in-Stack.is _ c.copy_bytes-in-Stack.ensures
