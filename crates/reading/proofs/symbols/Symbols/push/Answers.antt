-- The symbols of the production stand above the others. Assumes nothing.
use mathlib.Core.Path.{◌≡◌, ap, ◌∙◌}
use Prim.Native.Nat.{ℕ, ◌+◌, ◌-◌}
use mathlib.Core.List.{[]}
use native.Mathlib.Omega.{arith}
use lib.ListN.{get_or}
use Rattle.reading.proofs.Takers.{pushed, push_none, push_done}
use Rattle.reading.specs.Productions.{productions}
use Rattle.reading.proofs.symbols.Symbols.push.Goals as goal

pub loop-j-init : goal.loop-j-init
loop-j-init c =
    let z : c.args.base + 0 ≡ c.args.base = omega arith in
    let y : c.count-count.result - 0 ≡ c.count-count.result = omega arith in
    (rw (z, y) (push_none c.args.self.now.cells c.args.base _ (get_or productions c.args.p []) c.count-count.ensures.0), c.count-count.ensures.0, c.count-count.ensures.1, omega arith)

pub loop-j-preserved : goal.loop-j-preserved
loop-j-preserved c =
    let n = c.count-count.result in
    let z : c.args.base + (c.loop-j.j + 1) ≡ c.args.base + c.loop-j.j + 1 = omega arith in
    let y : n - (c.loop-j.j + 1) ≡ n - c.loop-j.j - 1 = omega arith in
    let x : n - 1 - c.loop-j.j ≡ n - c.loop-j.j - 1 = omega arith in (
      rw (z, y) (pushed c.loop-j.self.cells c.args.self.now.cells (c.args.base + c.loop-j.j) (n - c.loop-j.j) _ c.args.base (get_or productions c.args.p []) (omega arith) (omega arith) (omega arith) (c.symbol_at.ensures ∙ ap (λ (k : ℕ). get_or (get_or productions c.args.p []) k 0) x) c.loop-j.invariant.0),
      c.loop-j.invariant.1,
      c.loop-j.invariant.2,
      omega arith,
    )

pub returns : goal.returns
returns c =
    let e : c.loop-j.j ≡ c.count-count.result = omega arith in
    (push_done c.loop-j.self.cells c.args.self.now.cells _ _ c.args.base (get_or productions c.args.p []) (rw e at c.loop-j.invariant.0) (omega arith), omega arith)
