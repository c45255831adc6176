-- `gather_alone` meets its contract: an eightbyte, or the two parts of a wide register.
-- Assumes nothing.
use native.Mathlib.Omega.{arith}
use Rattle.images.proofs.Moves.{alone-known, narrow-fits, wide-low_fits, wide-least, wide-high_fits, gathered-narrow, gathered-wide}
use Rattle.std.proofs.Common.{rules}
use Rattle.images.proofs.argument_bytes.gather_alone.Goals as goal

pub address_of-begin-requires : goal.address_of-begin-requires
address_of-begin-requires c = alone-known _ _ _ _ _ _ c.requires

pub copy_bytes-requires : goal.copy_bytes-requires
copy_bytes-requires c = let l = narrow-fits _ _ _ _ _ _ c.requires _ c.address_of-begin.ensures (search rules) in (l.1, l.0)

pub returns-then-le : goal.returns-then-le
returns-then-le c = gathered-narrow _ c.args.upper.now _ _ _ _ c.requires _ c.address_of-begin.ensures (search rules) _ c.copy_bytes.ensures

pub copy_bytes-requires-2 : goal.copy_bytes-requires-2
copy_bytes-requires-2 c = let l = wide-low_fits _ _ _ _ _ _ c.requires _ c.address_of-begin.ensures (search rules) in (l.1, l.0)

pub sub-requires : goal.sub-requires
sub-requires c = (wide-least _ _ _ _ _ _ c.requires _ c.address_of-begin.ensures (search rules)).0

pub upper_address-requires : goal.upper_address-requires
upper_address-requires c = (wide-least _ _ _ _ _ _ c.requires _ c.address_of-begin.ensures (search rules)).1

pub copy_bytes-requires-3 : goal.copy_bytes-requires-3
copy_bytes-requires-3 c = omega (arith, wide-high_fits _ _ _ _ _ _ c.requires _ c.address_of-begin.ensures (search rules) _ _ _ c.upper_address.ensures c.add.ensures c.sub.ensures)

pub returns : goal.returns
returns c = gathered-wide _ _ _ _ _ _ c.requires _ c.address_of-begin.ensures (search rules) _ _ _ c.upper_address.ensures c.add.ensures c.sub.ensures _ _ c.copy_bytes-2.ensures c.copy_bytes-3.ensures
