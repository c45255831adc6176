-- One move up to eight bytes, two of a wide register.
-- Assumes nothing.
use native.Mathlib.Omega.{arith}
use Rattle.planning.proofs.Cutting.{ask-known, ask-short, ask-wide, short-done, wide-done}
use Rattle.plans.specs.Plans.{triples}
use Rattle.planning.proofs.joining.cut_alone.Goals as goal

pub address_of-begin-requires : goal.address_of-begin-requires
address_of-begin-requires c = ask-known _ _ _ c.requires.2

pub join-requires : goal.join-requires
join-requires c = (omega (arith, c.requires.0), omega (arith, c.requires.1), ask-short _ _ _ _ c.requires.2 c.address_of-begin.ensures c.if-bytes-le8.true)

pub returns-then-bytes-le8 : goal.returns-then-bytes-le8
returns-then-bytes-le8 c = (short-done _ _ _ _ c.requires.2 c.address_of-begin.ensures c.if-bytes-le8.true (triples c.args.moves.now 0 c.args.count) _ c.join.ensures.0, omega (arith, c.join.ensures.1))

pub join-more-requires : goal.join-more-requires
join-more-requires c = (omega (arith, c.requires.0), omega (arith, c.requires.1), (ask-wide _ _ _ _ c.requires.2 c.address_of-begin.ensures c.if-bytes-le8.false).0)

pub overflow_add-begin : goal.overflow_add-begin
overflow_add-begin c = omega (arith, (ask-wide _ _ _ _ c.requires.2 c.address_of-begin.ensures c.if-bytes-le8.false).0.target)

pub overflow_sub-bytes : goal.overflow_sub-bytes
overflow_sub-bytes c = (ask-wide _ _ _ _ c.requires.2 c.address_of-begin.ensures c.if-bytes-le8.false).1.1

pub join-requires-2 : goal.join-requires-2
join-requires-2 c = (omega (arith, c.requires.0, c.join-more.ensures.1), omega (arith, c.requires.1, c.join-more.ensures.1), (ask-wide _ _ _ _ c.requires.2 c.address_of-begin.ensures c.if-bytes-le8.false).1.0)

pub returns : goal.returns
returns c = (wide-done _ _ _ _ c.requires.2 c.address_of-begin.ensures c.if-bytes-le8.false (triples c.args.moves.now 0 c.args.count) _ _ c.join-more.ensures.0 c.join-2.ensures.0, omega (arith, c.join-more.ensures.1, c.join-2.ensures.1))
