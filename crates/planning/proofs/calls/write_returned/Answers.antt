-- Two, three and three.
-- Assumes nothing.
use native.Mathlib.Omega.{arith}
use Rattle.planning.proofs.Heads.{returned-asks, returned-small, low_small, high_small, returned-done}
use Rattle.planning.proofs.calls.write_returned.Goals as goal

pub parts_of-requires : goal.parts_of-requires
parts_of-requires c = returned-asks _ c.requires.0 _ c.requires.1 _ c.length_for-bytes.ensures

pub put_two-requires : goal.put_two-requires
put_two-requires c = (omega (arith, c.requires.2), (returned-small _ c.requires.0 _ c.requires.1 _ c.length_for-bytes.ensures _ c.parts_of.ensures _ c.returned_bool.ensures).0, (returned-small _ c.requires.0 _ c.requires.1 _ c.length_for-bytes.ensures _ c.parts_of.ensures _ c.returned_bool.ensures).1)

pub put_three-requires : goal.put_three-requires
put_three-requires c = (omega (arith, c.requires.2), (low_small _ c.requires.0 _ c.requires.1 _ c.length_for-bytes.ensures _ c.parts_of.ensures).0, (low_small _ c.requires.0 _ c.requires.1 _ c.length_for-bytes.ensures _ c.parts_of.ensures).1, (low_small _ c.requires.0 _ c.requires.1 _ c.length_for-bytes.ensures _ c.parts_of.ensures).2)

pub put_three-requires-2 : goal.put_three-requires-2
put_three-requires-2 c = (omega (arith, c.requires.2), (high_small _ c.requires.0 _ c.requires.1 _ c.length_for-bytes.ensures _ c.parts_of.ensures).0, (high_small _ c.requires.0 _ c.requires.1 _ c.length_for-bytes.ensures _ c.parts_of.ensures).1, (high_small _ c.requires.0 _ c.requires.1 _ c.length_for-bytes.ensures _ c.parts_of.ensures).2)

pub returns : goal.returns
returns c = returned-done _ c.requires.0 _ c.requires.1 _ c.length_for-bytes.ensures _ c.parts_of.ensures _ c.returned_bool.ensures c.args.plan.now _ _ _ c.put_two.ensures.0 c.put_three.ensures.0 c.put_three-2.ensures.0
