-- `parts_in` meets its contract, arm by arm.
-- Assumes nothing.
use native.Mathlib.Omega.{arith}
use Rattle.returning.proofs.Moves.{alone-returning, wide-asks, row-eightbyte, parts-wide}
use Rattle.returning.proofs.return_image.parts_in.Goals as goal

pub one_part-requires : goal.one_part-requires
one_part-requires c = alone-returning c.args.register c.args.size.0 c.requires

pub return_address-requires : goal.return_address-requires
return_address-requires c = omega (arith, wide-asks c.args.register _ c.args.size.0 c.requires c.in-Wide.is)

pub vector_bytes-requires : goal.vector_bytes-requires
vector_bytes-requires c = omega (arith, wide-asks c.args.register _ c.args.size.0 c.requires c.in-Wide.is)

pub add-requires : goal.add-requires
add-requires c = omega (arith, c.vector_bytes.ensures, wide-asks c.args.register _ c.args.size.0 c.requires c.in-Wide.is)

pub sub-requires : goal.sub-requires
sub-requires c = (wide-asks c.args.register _ c.args.size.0 c.requires c.in-Wide.is).1

pub returns-in-General : goal.returns-in-General
returns-in-General c = row-eightbyte _ _ _ c.in-General.is c.one_part.ensures

pub returns-in-Wide : goal.returns-in-Wide
returns-in-Wide c = parts-wide _ _ _ _ _ _ _ _ c.in-Wide.is c.return_address.ensures c.vector_bytes.ensures c.sub.ensures _ c.add.ensures c.moved.ensures c.moved-in-Wide.ensures
