-- `complete` meets its contract.
-- Assumes nothing.
use mathlib.Core.Path.{refl}
use native.Mathlib.Omega.{arith}
use Rattle.tidying.proofs.Completing.{complete_low, completed-as, completed-next, next-room}
use Rattle.tidying.proofs.numbering.Numbering.complete.Goals as goal

pub overflow_cast-self : goal.overflow_cast-self
overflow_cast-self c = omega (arith, complete_low c.args.self.now.types.bytes.now c.args.self.now.numbers c.args.self.now.originals c.args.self.now.count c.args.k c.args.self.now.right c.requires c.in-Some.j c.in-Some.ensures.0)

pub invariant_of-self : goal.invariant_of-self
invariant_of-self c = record { right = (completed-as c.args.self.now.types.bytes.now c.args.self.now.numbers c.args.self.now.originals c.args.self.now.count c.args.k c.args.self.now.right c.requires c.in-Some.j c.in-Some.j refl c.in-Some.ensures.0 c.in-Some.ensures.1).0 }

pub returns-in-Some : goal.returns-in-Some
returns-in-Some c = let z = (completed-as c.args.self.now.types.bytes.now c.args.self.now.numbers c.args.self.now.originals c.args.self.now.count c.args.k c.args.self.now.right c.requires c.in-Some.j c.in-Some.j refl c.in-Some.ensures.0 c.in-Some.ensures.1) in (refl, z.1, z.2)

pub overflow_cast-self-2 : goal.overflow_cast-self-2
overflow_cast-self-2 c = omega (arith, complete_low c.args.self.now.types.bytes.now c.args.self.now.numbers c.args.self.now.originals c.args.self.now.count c.args.k c.args.self.now.right c.requires c.args.self.now.count c.in_default.ensures)

pub bounds-self-self : goal.bounds-self-self
bounds-self-self c = next-room c.args.self.now.types.bytes.now c.args.self.now.numbers c.args.self.now.originals c.args.self.now.count c.args.k c.args.self.now.right c.requires c.args.self.now.count c.in_default.ensures (omega arith)

pub overflow_add-self : goal.overflow_add-self
overflow_add-self c = omega (arith, next-room c.args.self.now.types.bytes.now c.args.self.now.numbers c.args.self.now.originals c.args.self.now.count c.args.k c.args.self.now.right c.requires c.args.self.now.count c.in_default.ensures (omega arith))

pub invariant_of-self-2 : goal.invariant_of-self-2
invariant_of-self-2 c = record { right = (completed-next c.args.self.now.types.bytes.now c.args.self.now.numbers c.args.self.now.originals c.args.self.now.count c.args.k c.args.self.now.right c.requires c.args.self.now.count c.args.self.now.count c.args.k refl refl c.in_default.ensures (omega arith)).0 }

pub returns : goal.returns
returns c = let z = (completed-next c.args.self.now.types.bytes.now c.args.self.now.numbers c.args.self.now.originals c.args.self.now.count c.args.k c.args.self.now.right c.requires c.args.self.now.count c.args.self.now.count c.args.k refl refl c.in_default.ensures (omega arith)) in (refl, z.1, z.2)
