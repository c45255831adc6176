-- The eightbyte of a register and the slot of the stack are one argument's, whether or not its value fills them. Assumes nothing.
use mathlib.Core.Path.{◌≡◌, refl, ◌∙◌}
use mathlib.Core.Logic.{◌≢◌}
use mathlib.Core.Bool.{Bool, true, false}
use mathlib.Core.List.{List, [], ◌∷◌, ◌++◌}
use Prim.Native.Nat.{ℕ, zero, suc, ◌+◌, ◌*◌, ◌%◌, ◌≤◌, ◌<◌}
use native.Mathlib.Omega.{arith}
use lib.ListN.{get_or}
use Rattle.units.proofs.Raise.{raise-multiple, raise-not_below}
use Rattle.addresses.specs.Addresses.{run, All, Absent}
use Rattle.addresses.proofs.Lists.{all_append, all_map}
use Rattle.addresses.proofs.Runs.{all-run}
use Rattle.places.specs.declared.Kind.TheVariants.{General as general}
use Rattle.places.specs.declared.Used.{Used}
use Rattle.places.specs.Shapes.{Shape, Shaped}
use Rattle.places.specs.Places.{Slot, eights, fits, start, place_if, next_if, place, next, after}
use Rattle.places.specs.Images.{stack_at, bytes_of, addresses}
use Rattle.places.specs.Statements.{Free, Seated}
use Rattle.places.proofs.Fits.{fits-true}
use Rattle.places.proofs.Apart.{TakenBy, free_back, next_grows, argument-packed, addresses-free}

-- what is free behind some arguments was free before them
pub free-before : (base : ℕ) (slot : Slot) (ss : List Shape) (u : Used) (k : ℕ) → Free base (after slot u ss) k → Free base u k
free-before base slot [] u k f = f
free-before base slot (s ∷ ss) u k f = free_back base u (next slot u s) (next_grows slot u s) k (free-before base slot ss (next slot u s) k f)

-- a byte that an argument takes, but does not use, is no other argument's
pub taken-alone : (base : ℕ) (slot : Slot) (before : List Shape) (s : Shape) (behind : List Shape) (u : Used) → All Shaped (before ++ s ∷ behind)
    → All (λ s. Seated base s) (before ++ s ∷ behind) → (k : ℕ) → TakenBy base (after slot u before) (next slot (after slot u before) s) k
    → Absent k (bytes_of base (place slot (after slot u before) s) s.size) → Absent k (addresses base slot u (before ++ s ∷ behind))
taken-alone base slot [] s behind u h seat k t a =
    all_append (λ q. k ≢ q) (bytes_of base (place slot u s) s.size) (addresses base slot (next slot u s) behind) a
    (all_map (λ q f e. t.gone (rw e f)) (addresses base slot (next slot u s) behind) (addresses-free base slot behind (next slot u s) h.1 seat.1))
taken-alone base slot (r ∷ before) s behind u h seat k t a =
    all_append (λ q. k ≢ q) (bytes_of base (place slot u r) r.size) (addresses base slot (next slot u r) (before ++ s ∷ behind))
    (all_map (λ q w e. w.gone (rw (← e) (free-before base slot before (next slot u r) k t.was))) (bytes_of base (place slot u r) r.size) (argument-packed base slot u r h.0 seat.0).each)
    (taken-alone base slot before s behind (next slot u r) h.1 seat.1 k t a)

-- ---- a value of four bytes that asks for one general register: the eight bytes of that register, or of its slot

abbrev pub four : Shape
four = record { kinds = general ∷ []; size = 4; align = 4 }

run_at : (p n j : ℕ) → j < n → get_or (run p n) j 0 ≡ p + j
run_at p zero j h = absurd (omega arith)
run_at p (suc n) zero h = omega arith
run_at p (suc n) (suc j) h = run_at (suc p) n j (omega arith) ∙ omega arith

-- where the register or the slot begins
abbrev begins : Bool → Used → ℕ
begins true u = 8 * u.general.0
begins false u = stack_at + start eights u four

start-slot : (u : Used) → (start eights u four % 8 ≡ 0) × (u.stack.0 ≤ start eights u four)
unfolding start
start-slot u = (raise-multiple 8 u.stack.0, raise-not_below 8 u.stack.0 (omega arith))

eight-at : (b : Bool) (u : Used) (j : ℕ) → j < 8 → get_or (bytes_of stack_at (place_if eights b u four) 8) j 0 ≡ begins b u + j
eight-at true u j h = run_at (8 * u.general.0) 8 j h
eight-at false u j h = run_at (stack_at + start eights u four) 8 j h

takes : (b : Bool) (u : Used) → fits u (general ∷ []) ≡ b → (j : ℕ) → j < 8 → TakenBy stack_at u (next_if eights b u four) (begins b u + j)
takes true u e j h =
    let fit = fits-true u (general ∷ []) e in
    let few = fit.general in
    record {
      was = record { general = λ l m. omega arith; vector = λ l m n. absurd (omega arith); upper = λ l m n. absurd (omega arith); stack = λ l. absurd (omega arith) };
      gone = λ f. omega (arith, f.general (omega arith) (omega arith));
      below = omega arith;
    }
takes false u e j h =
    let at = start-slot u in
    let up = raise-multiple 8 (start eights u four + 4) in
    let over = raise-not_below 8 (start eights u four + 4) (omega arith) in
    record {
      was = record { general = λ l m. absurd (omega arith); vector = λ l m n. absurd (omega arith); upper = λ l m n. absurd (omega arith); stack = λ l. omega (arith, at) };
      gone = λ f. omega (arith, f.stack (omega arith), at, up, over);
      below = omega (arith, at, up, over);
    }

past-four : (b : Bool) (u : Used) (j : ℕ) → 4 ≤ j → Absent (begins b u + j) (bytes_of stack_at (place_if eights b u four) 4)
past-four true u j h = all-run {P = λ q. begins true u + j ≢ q} (8 * u.general.0) 4 (λ k l m e. omega arith)
past-four false u j h = all-run {P = λ q. begins false u + j ≢ q} (stack_at + start eights u four) 4 (λ k l m e. omega arith)

module _ (u : Used) (j : ℕ) (low : 4 ≤ j) (high : j < 8) where
  -- each of the eight bytes is taken, and from the fifth on none is used
  pub slot-taken : TakenBy stack_at u (next eights u four) (get_or (bytes_of stack_at (place eights u four) 8) j 0)
  unfolding place next
  slot-taken = by (fits u (general ∷ [])) refl
    where
      by : (b : Bool) → fits u (general ∷ []) ≡ b → TakenBy stack_at u (next_if eights b u four) (get_or (bytes_of stack_at (place_if eights b u four) 8) j 0)
      by b e = rw (eight-at b u j high) (takes b u e j high)

  pub slot-unused : Absent (get_or (bytes_of stack_at (place eights u four) 8) j 0) (bytes_of stack_at (place eights u four) 4)
  unfolding place
  slot-unused = by (fits u (general ∷ []))
    where
      by : (b : Bool) → Absent (get_or (bytes_of stack_at (place_if eights b u four) 8) j 0) (bytes_of stack_at (place_if eights b u four) 4)
      by b = rw (eight-at b u j high) (past-four b u j low)
