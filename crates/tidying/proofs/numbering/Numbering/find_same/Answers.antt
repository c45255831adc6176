use mathlib.Core.Path.{sym, ◌∙◌}
use native.Mathlib.Omega.{arith}
use Rattle.types.specs.Decode.{ty_at}
use Rattle.tidying.proofs.Completing.{find-ask, find-here, find_none}
use Rattle.tidying.proofs.Numbers.{numbers-few, numbers-low}
use Rattle.tidying.proofs.numbering.Numbering.find_same.Goals as goal

pub bounds-self-j : goal.bounds-self-j
bounds-self-j c = omega (arith, numbers-few c.args.self.now.types.bytes.now c.args.self.now.numbers c.args.self.now.originals c.args.self.now.count c.args.self.now.right, numbers-low c.args.self.now.types.bytes.now c.args.self.now.numbers c.args.self.now.originals c.args.self.now.count c.args.self.now.right)

pub are_same-requires : goal.are_same-requires
are_same-requires c = rw c.from-other.ensures (find-ask c.args.self.now.types.bytes.now c.args.self.now.numbers c.args.self.now.originals c.args.self.now.count c.args.k c.args.self.now.right c.requires c.loop-j.j (omega arith))

pub returns-then-are_same : goal.returns-then-are_same
returns-then-are_same c = (sym (find-here c.args.self.now.types.bytes.now c.args.self.now.originals c.args.self.now.count (ty_at c.args.self.now.types.bytes.now c.args.k) c.loop-j.j (omega arith) c.loop-j.invariant (rw (← c.from-other.ensures) (sym c.are_same.ensures ∙ c.if-are_same.true))), omega arith)

pub returns : goal.returns
returns c = omega (arith, find_none c.args.self.now.types.bytes.now c.args.self.now.originals c.args.self.now.count (ty_at c.args.self.now.types.bytes.now c.args.k) c.loop-j.j (omega arith) c.loop-j.invariant)
