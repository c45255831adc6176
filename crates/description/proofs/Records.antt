-- What the kind is of a record that is none of some variant. Assumes nothing.
use mathlib.Core.Path.{◌≡◌, refl}
use mathlib.Core.Bool.{Bool}
use mathlib.Core.List.{List}
use mathlib.Core.Logic.{◌≢◌}
use Prim.Native.Nat.{ℕ, ◌≤◌, ◌<◌}
use native.Mathlib.Omega.{arith}
use Rattle.description.specs.declared.TypeRecord.{TypeRecord}
use Rattle.description.specs.declared.TypeRecord.TheVariants.{Basic, Array, Group}
use Rattle.description.specs.Description.{kind_at, Reads}

module _ (d : List ℕ) (k : ℕ) where
  pub no_basic : (r : TypeRecord) → Reads d k r → ((code count : ℕ) → r ≡ Basic code count → ⊥) → 1 ≤ kind_at d k
  no_basic (Basic code count) h n = absurd (n code count refl)
  no_basic (Array element count) h n = omega arith
  no_basic (Group union first count) h n = omega arith

  pub no_array : (r : TypeRecord) → Reads d k r → ((element count : ℕ) → r ≡ Array element count → ⊥) → kind_at d k ≢ 1
  no_array (Basic code count) h n = λ e. omega arith
  no_array (Array element count) h n = absurd (n element count refl)
  no_array (Group union first count) h n = λ e. omega arith

  pub no_group : (r : TypeRecord) → Reads d k r → ((union : Bool) (first count : ℕ) → r ≡ Group union first count → ⊥) → kind_at d k < 2
  no_group (Basic code count) h n = omega arith
  no_group (Array element count) h n = omega arith
  no_group (Group union first count) h n = absurd (n union first count refl)
