-- 27 exactly: in ILP32, where the hidden address is used and is 2^32 or more. Assumes nothing.
use mathlib.Core.Path.{◌≡◌, refl, ap}
use mathlib.Core.Bool.{Bool, true, false, false≢true}
use mathlib.Core.Logic.{◌↔◌}
use Prim.Native.Nat.{ℕ, ◌≤◌, ◌<◌}
use native.Mathlib.Omega.{arith}
use borrow.Author.Tests.{le-leb, lt-leb, leb-true, leb-false}
use Rattle.description.specs.declared.Model.{Model}
use Rattle.description.specs.declared.Model.TheVariants.{Lp64, Ilp32}
use Rattle.types.specs.Basic.{pointer}
use Rattle.moving.specs.Address.{wrong_address}

not_ilp32 : Lp64 ≡ Ilp32 → ⊥
not_ilp32 e = let z : pointer Lp64 ≡ pointer Ilp32 = ap pointer e in omega arith

pub address-wrong : (m : Model) (used : Bool) (h : ℕ) → (wrong_address m used h ≡ true) ↔ ((m ≡ Ilp32) × (used ≡ true) × (4294967296 ≤ h))
unfolding wrong_address
address-wrong Lp64 used h = ((λ e. absurd (false≢true e)), (λ p. absurd (not_ilp32 p.0)))
address-wrong Ilp32 false h = ((λ e. absurd (false≢true e)), (λ p. absurd (false≢true p.1)))
address-wrong Ilp32 true h = ((λ e. (refl, refl, leb-true 4294967296 h e)), (λ p. le-leb 4294967296 h p.2))

pub address_right : (m : Model) (used : Bool) (h : ℕ) → (wrong_address m used h ≡ false) ↔ (m ≡ Ilp32 → used ≡ true → h < 4294967296)
unfolding wrong_address
address_right Lp64 used h = ((λ e p. absurd (not_ilp32 p)), (λ f. refl))
address_right Ilp32 false h = ((λ e p q. absurd (false≢true q)), (λ f. refl))
address_right Ilp32 true h = ((λ e p q. leb-false 4294967296 h e), (λ f. lt-leb 4294967296 h (f refl refl)))

-- an address that is not used is not looked at
pub address-unused : (m : Model) (h : ℕ) → wrong_address m false h ≡ false
unfolding wrong_address
address-unused Lp64 h = refl
address-unused Ilp32 h = refl
