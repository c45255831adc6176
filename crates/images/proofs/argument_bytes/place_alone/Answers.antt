-- `place_alone` meets its contract: an eightbyte, or the two parts of a wide register.
-- Assumes nothing.
use Rattle.images.proofs.Moves.{alone-known, narrow-fits, wide-low_fits, wide-least, wide-high_fits, placed-narrow, placed-wide}
use Rattle.std.proofs.Common.{rules}
use Rattle.images.proofs.argument_bytes.place_alone.Goals as goal

pub address_of-begin-requires : goal.address_of-begin-requires
address_of-begin-requires c = alone-known _ _ _ _ _ _ c.requires

pub copy_bytes-requires : goal.copy_bytes-requires
copy_bytes-requires c = narrow-fits _ _ _ _ _ _ c.requires _ c.address_of-begin.ensures (search rules)

pub returns-then-le : goal.returns-then-le
returns-then-le c = placed-narrow _ _ _ _ _ _ c.requires _ c.address_of-begin.ensures (search rules) _ c.copy_bytes.ensures

pub copy_bytes-requires-2 : goal.copy_bytes-requires-2
copy_bytes-requires-2 c = wide-low_fits _ _ _ _ _ _ c.requires _ c.address_of-begin.ensures (search rules)

pub sub-requires : goal.sub-requires
sub-requires c = (wide-least _ _ _ _ _ _ c.requires _ c.address_of-begin.ensures (search rules)).0

pub upper_address-requires : goal.upper_address-requires
upper_address-requires c = (wide-least _ _ _ _ _ _ c.requires _ c.address_of-begin.ensures (search rules)).1

pub copy_bytes-requires-3 : goal.copy_bytes-requires-3
copy_bytes-requires-3 c = wide-high_fits _ _ _ _ _ _ c.requires _ c.address_of-begin.ensures (search rules) _ _ _ c.upper_address.ensures c.add.ensures c.sub.ensures

pub returns : goal.returns
returns c = placed-wide _ _ _ _ _ _ c.requires _ c.address_of-begin.ensures (search rules) _ _ _ c.upper_address.ensures c.add.ensures c.sub.ensures _ _ c.copy_bytes-2.ensures c.copy_bytes-3.ensures
