-- Two and two.
-- Assumes nothing.
use native.Mathlib.Omega.{arith}
use Rattle.planning.proofs.Heads.{call-small, address-small, call-done}
use Rattle.moving.proofs.Turns.{whole}
use Rattle.planning.proofs.calls.write_call.Goals as goal

pub put_two-requires : goal.put_two-requires
put_two-requires c = (omega (arith, c.requires.2), (call-small _ c.requires.0 _ c.requires.1).0, (call-small _ c.requires.0 _ c.requires.1).1)

pub address_kind-requires : goal.address_kind-requires
address_kind-requires c = omega (arith, (whole _ c.requires.0).headed)

pub put_two-requires-2 : goal.put_two-requires-2
put_two-requires-2 c = (omega (arith, c.requires.2), (address-small _ c.requires.0 _ c.requires.1 _ c.address_kind.ensures).0, (address-small _ c.requires.0 _ c.requires.1 _ c.address_kind.ensures).1)

pub returns : goal.returns
returns c = call-done _ c.requires.0 _ c.requires.1 _ c.address_kind.ensures c.args.plan.now _ _ c.put_two.ensures.0 c.put_two-2.ensures.0
