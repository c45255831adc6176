-- What a call leaves, and an order read rule by rule. Assumes nothing.
use mathlib.Core.Path.{◌≡◌, refl}
use mathlib.Core.Logic.{◌≢◌}
use mathlib.Core.Bool.{Bool, true, false, cond, ◌||◌, true≢false}
use Prim.Native.Nat.{ℕ, zero, suc}
use native.Mathlib.Omega.{arith}
use Rattle.station.specs.Outcome.{leaves}

-- ---- what a call leaves

pub kept : {A : Type 0} (m : ℕ) (new old : A) → m ≡ 0 → leaves m new old ≡ new
kept zero new old e = refl
kept (suc m) new old e = absurd (omega arith)

pub left : {A : Type 0} (m : ℕ) (new old : A) → m ≢ 0 → leaves m new old ≡ old
left zero new old h = absurd (h refl)
left (suc m) new old h = refl

-- ---- an order read rule by rule

-- none holds: this one does not, and none of the rest
pub first_rest : (n : ℕ) (b : Bool) (m : ℕ) → cond b (suc n) m ≡ 0 → (b ≡ false) × (m ≡ 0)
first_rest n true m e = absurd (omega arith)
first_rest n false m e = (refl, e)

pub or-false : (a b : Bool) → (a || b) ≡ false → (a ≡ false) × (b ≡ false)
or-false true b e = absurd (true≢false e)
or-false false b e = (refl, e)
