use mathlib.Core.Path.{◌≡◌, sym, ◌∙◌}
use Prim.Native.Nat.{◌+◌, ◌-◌}
use native.Mathlib.Omega.{arith}
use Rattle.tidying.proofs.Completing.{runs_none, runs_on, runs_same, runs_other}
use Rattle.tidying.proofs.numbering.Numbering.are_same_members.Goals as goal

pub returns-then-self-one : goal.returns-then-self-one
returns-then-self-one c =
    sym (sym c.loop-i.invariant
    ∙ runs_other c.args.self.now.types.bytes.now c.args.self.now.numbers (c.args.a + c.loop-i.i) (c.args.b + c.loop-i.i) (c.args.count - c.loop-i.i) (runs_on c.args.self.now.types.bytes.now c.args.self.now.numbers c.args.a c.args.b c.args.count c.loop-i.i c.requires (omega arith)) (omega arith)
    (λ e. c.if-self-one.true (rw (c.member_at-one.ensures, c.member_at-other.ensures) e)))

pub loop-i-preserved : goal.loop-i-preserved
loop-i-preserved c =
    let p : c.args.a + (c.loop-i.i + 1) ≡ c.args.a + c.loop-i.i + 1 = omega arith in
    let q : c.args.b + (c.loop-i.i + 1) ≡ c.args.b + c.loop-i.i + 1 = omega arith in
    let r : c.args.count - (c.loop-i.i + 1) ≡ c.args.count - c.loop-i.i - 1 = omega arith in
    rw (p, q, r)
    (runs_same c.args.self.now.types.bytes.now c.args.self.now.numbers (c.args.a + c.loop-i.i) (c.args.b + c.loop-i.i) (c.args.count - c.loop-i.i) (runs_on c.args.self.now.types.bytes.now c.args.self.now.numbers c.args.a c.args.b c.args.count c.loop-i.i c.requires (omega arith)) (omega arith)
    (rw (← c.member_at-one.ensures, ← c.member_at-other.ensures) c.if-self-one.false) ∙ c.loop-i.invariant)

pub returns : goal.returns
returns c =
    sym (sym c.loop-i.invariant ∙ runs_none c.args.self.now.types.bytes.now c.args.self.now.numbers (c.args.a + c.loop-i.i) (c.args.b + c.loop-i.i) (c.args.count - c.loop-i.i) (runs_on c.args.self.now.types.bytes.now c.args.self.now.numbers c.args.a c.args.b c.args.count c.loop-i.i c.requires (omega arith)) (omega arith))
