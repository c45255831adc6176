-- The marks of types: what the functions that mark them cite, and that types with different marks are different. Assumes nothing.
use mathlib.Core.Path.{◌≡◌, refl, sym, ap, ◌∙◌}
use mathlib.Core.Bool.{Bool, true, false, cond}
use mathlib.Core.List.{List}
use Prim.Native.Nat.{ℕ, ◌+◌, ◌-◌, ◌≤◌, ◌<◌}
use native.Mathlib.Omega.{arith}
use borrow.Author.Tests.{eqb-true, eqb-false}
use lib.Dec.{eqb}
use lib.ListN.{length, get_or, set}
use lib.Seq.{get_or-set_same, get_or-set_other}
use Rattle.description.specs.Description.{types_in, kind_at, a_at, count_at, member_at, Whole, model_in}
use Rattle.form.proofs.Form.{accepted-counts, accepted-whole}
use Rattle.types.specs.Tree.{Ty, Tys, basic, array, struct, union, none, more, group}
use Rattle.types.specs.Decode.{tys_from, ty_at}
use Rattle.types.specs.Asks.{Sized}
use Rattle.types.proofs.Trees.{sized-ruled, at-basic, at-array, at-group, tys_step}
use Rattle.types.proofs.Large.{accepted-form, accepted-sized}
use Rattle.uses.specs.Uses.{uses_refusal}
use Rattle.uses.proofs.Uses.{accepted-types}
use Rattle.tidying.specs.Same.{same_ty}
use Rattle.tidying.specs.Marks.{mixed, mark_ty, mark_tys, Marked, AskMarks}
use Rattle.tidying.proofs.Completing.{other-types, kind-top}

pub mixed-low : (m n : ℕ) → mixed m n < 4294967296
unfolding mixed
mixed-low m n = omega arith

pub marks-low : (ts : Tys) (m : ℕ) → m < 4294967296 → mark_tys m ts < 4294967296
unfolding mark_tys
marks-low none m h = h
marks-low (more t ts) m h = marks-low ts (mixed m (mark_ty t)) (mixed-low m (mark_ty t))

pub mark-low : (t : Ty) → mark_ty t < 4294967296
unfolding mark_ty
mark-low (basic c) = mixed-low 0 c
mark-low (array t n) = mixed-low (mixed 1 n) (mark_ty t)
mark-low (struct ts) = marks-low ts 2 (omega arith)
mark-low (union ts) = marks-low ts 3 (omega arith)

pub mark-whole : (d : List ℕ) → uses_refusal d ≡ 0 → Whole d
mark-whole d right = accepted-whole d (accepted-form d (accepted-types d right))

pub mark-room : (d : List ℕ) → uses_refusal d ≡ 0 → types_in d ≤ 64
mark-room d right = omega (arith, accepted-counts d (accepted-form d (accepted-types d right)))

-- ---- a run of members

module _ (d marks : List ℕ) (i n : ℕ) (ask : AskMarks d marks i n) where
  pub run_none : n ≡ 0 → (m : ℕ) → mark_tys m (tys_from (ty_at d) d i n) ≡ m
  unfolding mark_tys tys_from
  run_none e m = rw e

  module _ (some : 0 < n) where
    pub run-low : member_at d i < 64
    run-low = ask.below i (omega arith) (omega arith)

    pub run-mark : get_or marks (member_at d i) 0 < 4294967296
    run-mark = rw (ask.known i (omega arith) (omega arith)) (mark-low (ty_at d (member_at d i)))

    pub run_step : (m : ℕ) → mark_tys (mixed m (get_or marks (member_at d i) 0)) (tys_from (ty_at d) d (i + 1) (n - 1)) ≡ mark_tys m (tys_from (ty_at d) d i n)
    unfolding mark_tys
    run_step m = rw (ask.known i (omega arith) (omega arith), tys_step (ty_at d) d i n some)

    pub run-rest : AskMarks d marks (i + 1) (n - 1)
    run-rest = record {
      whole = ask.whole;
      fits = omega (arith, ask.fits);
      below = λ j p q. ask.below j (omega arith) (omega arith);
      known = λ j p q. ask.known j (omega arith) (omega arith);
    }

-- the members from one of them on
pub marks_on : (d marks : List ℕ) (first count at : ℕ) → AskMarks d marks first count → first ≤ at → at ≤ first + count → AskMarks d marks at (first + count - at)
marks_on d marks first count at ask l h = record {
  whole = ask.whole;
  fits = omega (arith, ask.fits);
  below = λ i p q. ask.below i (omega arith) (omega arith);
  known = λ i p q. ask.known i (omega arith) (omega arith);
}

-- ---- one type

group-mark : (k : ℕ) (ts : Tys) → 2 ≤ k → k ≤ 3 → mark_ty (group (eqb k 3) ts) ≡ mark_tys k ts
unfolding mark_ty
group-mark k ts l h = by (eqb k 3) refl
  where
    by : (b : Bool) → eqb k 3 ≡ b → mark_ty (group b ts) ≡ mark_tys k ts
    by true e = let q : k ≡ 3 = eqb-true k 3 e in rw q
    by false e = let q : k ≡ 2 = omega (arith, eqb-false k 3 e) in rw q

module _ (d marks : List ℕ) (right : uses_refusal d ≡ 0) (k : ℕ) (known : k < types_in d) (marked : Marked d marks k) where
  sized : Sized (model_in d) d k
  sized = accepted-sized d (accepted-types d right) k known

  few : types_in d ≤ 64
  few = mark-room d right

  pub mark-basic : kind_at d k ≡ 0 → mixed 0 (a_at d k) ≡ mark_ty (ty_at d k)
  unfolding mark_ty
  mark-basic e = rw (at-basic d k sized e)

  pub element-low : kind_at d k ≡ 1 → a_at d k < 64
  element-low e = omega (arith, (sized-ruled d k sized).element e, known, few)

  pub element-mark : kind_at d k ≡ 1 → get_or marks (a_at d k) 0 < 4294967296
  element-mark e = rw (marked.right (a_at d k) ((sized-ruled d k sized).element e)) (mark-low (ty_at d (a_at d k)))

  pub mark-array : kind_at d k ≡ 1 → mixed (mixed 1 (count_at d k)) (get_or marks (a_at d k) 0) ≡ mark_ty (ty_at d k)
  unfolding mark_ty
  mark-array e = rw (marked.right (a_at d k) ((sized-ruled d k sized).element e), at-array d k sized e)

  pub mark-ask : 2 ≤ kind_at d k → AskMarks d marks (a_at d k) (count_at d k)
  mark-ask l = record {
    whole = sized.whole;
    fits = (sized-ruled d k sized).run l;
    below = λ i p q. omega (arith, (sized-ruled d k sized).member l i p q, known, few);
    known = λ i p q. marked.right (member_at d i) ((sized-ruled d k sized).member l i p q);
  }

  pub mark-top : kind_at d k ≤ 3
  mark-top = kind-top d k sized

  -- what the mark of a group begins with
  pub group-start : 2 ≤ kind_at d k → cond (eqb (kind_at d k) 3) 3 2 ≡ kind_at d k
  group-start l = by (eqb (kind_at d k) 3) refl
    where
      by : (b : Bool) → eqb (kind_at d k) 3 ≡ b → cond b 3 2 ≡ kind_at d k
      by true e = sym (eqb-true (kind_at d k) 3 e)
      by false e = omega (arith, eqb-false (kind_at d k) 3 e, l, mark-top)

  pub mark-group : 2 ≤ kind_at d k → mark_tys (kind_at d k) (tys_from (ty_at d) d (a_at d k) (count_at d k)) ≡ mark_ty (ty_at d k)
  mark-group l = sym (ap mark_ty (at-group d k sized l) ∙ group-mark (kind_at d k) (tys_from (ty_at d) d (a_at d k) (count_at d k)) l mark-top)

-- ---- all types

pub marked-none : (d marks : List ℕ) → Marked d marks 0
marked-none d marks = record { right = λ k l. absurd (omega arith) }

pub marked_more : (d marks : List ℕ) (k v : ℕ) → Marked d marks k → k < length marks → v ≡ mark_ty (ty_at d k) → Marked d (set marks k v) (k + 1)
marked_more d marks k v m l e = record { right = λ i h. by i h (eqb i k) refl }
  where
    by : (i : ℕ) → i < k + 1 → (b : Bool) → eqb i k ≡ b → get_or (set marks k v) i 0 ≡ mark_ty (ty_at d i)
    by i h true q = let z : i ≡ k = eqb-true i k q in rw z (get_or-set_same marks k v 0 l ∙ e)
    by i h false q = get_or-set_other marks k i v 0 (λ z. eqb-false i k q z) ∙ m.right i (omega (arith, h, eqb-false i k q))

-- types with different marks are different
pub marks-other : (d marks : List ℕ) (j k : ℕ) → Marked d marks (types_in d) → j < types_in d → k < types_in d → (get_or marks j 0 ≡ get_or marks k 0 → ⊥) → same_ty (ty_at d j) (ty_at d k) ≡ false
marks-other d marks j k m l h n = other-types (ty_at d j) (ty_at d k) (λ e. n (m.right j l ∙ ap mark_ty e ∙ sym (m.right k h)))
