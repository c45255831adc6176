-- `parts_of` meets its contract, arm by arm.
-- Assumes nothing.
use Rattle.returning.proofs.Moves.{asks-one, asks_two, parts-none, parts-st0, parts-st0_st1, parts-one, parts-two}
use Rattle.returning.proofs.return_image.parts_of.Goals as goal

pub parts_in-requires : goal.parts_in-requires
parts_in-requires c = asks-one _ _ c.requires _ c.in-One.is

pub return_address-requires : goal.return_address-requires
return_address-requires c = (asks_two _ _ c.requires _ _ c.in-Two.is).0

pub return_address-requires-in-Two : goal.return_address-requires-in-Two
return_address-requires-in-Two c = (asks_two _ _ c.requires _ _ c.in-Two.is).1.0

pub sub-requires : goal.sub-requires
sub-requires c = (asks_two _ _ c.requires _ _ c.in-Two.is).1.1

pub returns-in-Void : goal.returns-in-Void
returns-in-Void c = parts-none _ _ _ _ c.in-Void.is c.no_part.ensures c.no_part-in-Void.ensures

pub returns-in-One : goal.returns-in-One
returns-in-One c = parts-one _ _ _ _ c.in-One.is c.parts_in.ensures

pub returns-in-Two : goal.returns-in-Two
returns-in-Two c = parts-two _ _ _ _ _ _ _ _ _ c.in-Two.is c.return_address.ensures c.return_address-in-Two.ensures c.sub.ensures c.moved.ensures c.moved-in-Two.ensures

pub returns-in-St0 : goal.returns-in-St0
returns-in-St0 c = parts-st0 _ _ _ _ c.in-St0.is c.ten.ensures c.no_part-in-St0.ensures

pub returns-in-St0St1 : goal.returns-in-St0St1
returns-in-St0St1 c = parts-st0_st1 _ _ _ _ c.in-St0St1.is c.ten-in-St0St1.ensures c.ten-in-St0St1-2.ensures
