use mathlib.Core.Path.{refl}
use Prim.Native.Nat.{◌+◌, ◌-◌}
use native.Mathlib.Nat.{div-add-mod'}
use native.Mathlib.Omega.{arith}
use Rattle.units.specs.Raise.{raise}
use Rattle.units.proofs.Bytes.raised_to.Goals as goal

pub overflow_mul-result : goal.overflow_mul-result
overflow_mul-result c =
    let m = c.args.multiple.0 in
    let n = c.args.self.0 in
    omega (arith, div-add-mod' (n + (m - 1)) m)

pub returns : goal.returns
unfolding raise
returns c = refl
