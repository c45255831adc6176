-- By the place.
-- Assumes nothing.
use native.Mathlib.Omega.{arith}
use Rattle.planning.proofs.Cutting.{cut-one, cut-two, cut-stack, one-done, two-known, two-low, two-high, two-done, stack-done}
use Rattle.plans.specs.Plans.{triples}
use Rattle.planning.proofs.joining.cut_one.Goals as goal

pub cut_alone-requires : goal.cut_alone-requires
cut_alone-requires c = (c.requires.0, c.requires.1, cut-one _ _ _ c.requires.2 _ c.in-One.is)

pub address_of-requires : goal.address_of-requires
address_of-requires c = (two-known _ _ _ c.requires.2 _ _ c.in-Two.is).0

pub join-more-requires : goal.join-more-requires
join-more-requires c = (omega (arith, c.requires.0), omega (arith, c.requires.1), two-low _ _ _ c.requires.2 _ _ c.in-Two.is _ c.address_of.ensures)

pub address_of-requires-in-Two : goal.address_of-requires-in-Two
address_of-requires-in-Two c = (two-known _ _ _ c.requires.2 _ _ c.in-Two.is).1

pub overflow_sub-bytes : goal.overflow_sub-bytes
overflow_sub-bytes c = (cut-two _ _ _ c.requires.2 _ _ c.in-Two.is).1.1.0

pub join-requires : goal.join-requires
join-requires c = (omega (arith, c.requires.0, c.join-more.ensures.1), omega (arith, c.requires.1, c.join-more.ensures.1), two-high _ _ _ c.requires.2 _ _ c.in-Two.is _ c.address_of-in-Two.ensures)

pub overflow_add-offset : goal.overflow_add-offset
overflow_add-offset c = omega (arith, (cut-stack _ _ _ c.requires.2 _ c.in-Stack.is).target)

pub join-requires-in-Stack : goal.join-requires-in-Stack
join-requires-in-Stack c = (omega (arith, c.requires.0), omega (arith, c.requires.1), cut-stack _ _ _ c.requires.2 _ c.in-Stack.is)

pub returns-in-One : goal.returns-in-One
returns-in-One c = (one-done (triples c.args.moves.now 0 c.args.count) _ _ _ _ c.in-One.is _ c.cut_alone.ensures.0, c.cut_alone.ensures.1)

pub returns-in-Two : goal.returns-in-Two
returns-in-Two c = (two-done _ _ _ c.requires.2 _ _ c.in-Two.is (triples c.args.moves.now 0 c.args.count) _ _ c.address_of.ensures c.address_of-in-Two.ensures _ _ c.join-more.ensures.0 c.join.ensures.0, omega (arith, c.join-more.ensures.1, c.join.ensures.1))

pub returns-in-Stack : goal.returns-in-Stack
returns-in-Stack c = (stack-done (triples c.args.moves.now 0 c.args.count) _ _ _ _ c.in-Stack.is _ c.join-in-Stack.ensures.0, omega (arith, c.join-in-Stack.ensures.1))
