-- The refusals 1 to 6, 28 and 7 of the 386 kind: which number, from what code looks at, and what a description is sure of that gets none. Assumes nothing.
use mathlib.Core.Path.{◌≡◌, refl, sym, ◌∙◌}
use mathlib.Core.Bool.{Bool, true, false, cond, ◌||◌}
use mathlib.Core.List.{List, [], ◌∷◌}
use mathlib.Core.Logic.{◌≢◌, ⊎_elim}
use Prim.Native.Nat.{ℕ, ◌+◌, ◌≤◌, ◌<◌}
use native.Mathlib.Nat.{eq-or-lt_of_le}
use native.Mathlib.Omega.{arith}
use borrow.Author.Tests.{ltb-false}
use lib.Dec.{ltb}
use lib.ListN.{length}
use Rattle.description.specs.Description.{IsBytes, types_in, flags_in, Whole}
use Rattle.form.specs.Conditions.{too_short, wrong_mark, wrong_version, wrong_counts, wrong_length, wrong_record, Counts, broken_record}
use Rattle.form.specs.Order.{Rule, rule, first, NoneHolds, Positive, form_refusal as form_refusal64}
use Rattle.form.proofs.Order.{accepts-exactly, first-before, first-behind, first-both}
use Rattle.form.proofs.Form.{or_none, accepted-exactly, accepted-headed as form-headed, accepted-counts as form-counts, accepted-whole as form-whole, accepted-records as form-records, accepted-length}
use Rattle.form.proofs.Search.{first-least}
use Rattle.types.specs.Decode.{ty_at}
use Rattle.old_types.specs.Size.{size_ty}
use Rattle.old_types.specs.Conditions.{wrong_flags, left_out, large, first_large, too_large, form_order, form_refusal, kept_order, kept_refusal, types_order, types_refusal}
use Rattle.old_types.specs.Asks.{Sized}

pub form-positive : (d : List ℕ) → Positive (form_order d)
form-positive d = (omega arith, (omega arith, (omega arith, (omega arith, (omega arith, (omega arith, tt))))))

pub kept-positive : (d : List ℕ) → Positive (kept_order d)
kept-positive d = (omega arith, (omega arith, (omega arith, (omega arith, (omega arith, (omega arith, (omega arith, tt)))))))

pub types-positive : (d : List ℕ) → Positive (types_order d)
types-positive d = (omega arith, (omega arith, (omega arith, (omega arith, (omega arith, (omega arith, (omega arith, (omega arith, tt))))))))

-- ---- 1 to 6 beside document 01's: bit 1 alone makes the difference, where 1 to 4 do not refuse

abbrev six : Bool → Bool → Bool → Bool → Bool → Bool → List Rule
six a b c w l r = rule 1 a ∷ rule 2 b ∷ rule 3 c ∷ rule 4 w ∷ rule 5 l ∷ rule 6 r ∷ []

early : (a b c w f l r : Bool) (n : ℕ) → n ≡ first (six a b c w l r) → 1 ≤ n → n < 5 → first (six a b c (w || f) l r) ≡ n
early true b c w f l r n e p q = sym e
early false true c w f l r n e p q = sym e
early false false true w f l r n e p q = sym e
early false false false true f l r n e p q = sym e
early false false false false f true r n e p q = absurd (omega arith)
early false false false false f false true n e p q = absurd (omega arith)
early false false false false f false false n e p q = absurd (omega arith)

late : (a b c w f l r : Bool) (n : ℕ) → n ≡ first (six a b c w l r) → (1 ≤ n → n < 5 → ⊥) → first (six a b c (w || f) l r) ≡ cond f 4 n
late true b c w f l r n e h = absurd (h (omega arith) (omega arith))
late false true c w f l r n e h = absurd (h (omega arith) (omega arith))
late false false true w f l r n e h = absurd (h (omega arith) (omega arith))
late false false false true f l r n e h = absurd (h (omega arith) (omega arith))
late false false false false true l r n e h = refl
late false false false false false l r n e h = sym e

module _ (d : List ℕ) (n : ℕ) (e : n ≡ form_refusal64 d) where
  pub form-early : 1 ≤ n → n < 5 → n ≡ form_refusal d
  unfolding form_refusal64 form_refusal wrong_flags
  form-early p q = sym (early (too_short d) (wrong_mark d) (wrong_version d) (wrong_counts d) (ltb 1 (flags_in d)) (wrong_length d) (wrong_record d) n e p q)

  pub form-late : (1 ≤ n → n < 5 → ⊥) → cond (ltb 1 (flags_in d)) 4 n ≡ form_refusal d
  unfolding form_refusal64 form_refusal wrong_flags
  form-late h = sym (late (too_short d) (wrong_mark d) (wrong_version d) (wrong_counts d) (ltb 1 (flags_in d)) (wrong_length d) (wrong_record d) n e h)

  -- 1 alone is said of bytes without a header
  pub form-headed_late : n ≢ 1 → 11 ≤ length d
  unfolding form_refusal64 too_short
  form-headed_late h = by (ltb (length d) 11) refl
    where
      by : (b : Bool) → ltb (length d) 11 ≡ b → 11 ≤ length d
      by true q = absurd (h (e ∙ rw q))
      by false q = ltb-false (length d) 11 q

-- ---- none of 1 to 6

module _ (d : List ℕ) (e : form_refusal d ≡ 0) where
  none : NoneHolds (form_order d)
  unfolding form_refusal
  none = (accepts-exactly (form_order d) (form-positive d)).0 e

  right-flags : (wrong_counts d ≡ false) × (flags_in d < 2)
  unfolding wrong_flags
  right-flags = let p = or_none _ _ none.1.1.1.0 in (p.0, omega (arith, ltb-false 1 (flags_in d) p.1))

  -- document 01's 1 to 6 do not hold either
  pub form-accepted : form_refusal64 d ≡ 0
  form-accepted = (accepted-exactly d).1 (none.0, (none.1.0, (none.1.1.0, (right-flags.0, (none.1.1.1.1.0, (none.1.1.1.1.1.0, tt))))))

  pub right-headed : 11 ≤ length d
  right-headed = form-headed d form-accepted

  pub right-whole : Whole d
  right-whole = form-whole d form-accepted

-- ---- 28, behind them

pub kept-form : (d : List ℕ) → (form_refusal d ≡ 0 → ⊥) → kept_refusal d ≡ form_refusal d
unfolding kept_refusal form_refusal
kept-form d h = first-before (form_order d) (rule 28 (left_out d) ∷ []) h

pub kept-left : (d : List ℕ) → form_refusal d ≡ 0 → left_out d ≡ true → kept_refusal d ≡ 28
unfolding kept_refusal form_refusal
kept-left d f h = first-behind (form_order d) (rule 28 (left_out d) ∷ []) (form-positive d) f ∙ rw h

pub kept-right : (d : List ℕ) → form_refusal d ≡ 0 → left_out d ≡ false → kept_refusal d ≡ 0
unfolding kept_refusal form_refusal
kept-right d f h = first-behind (form_order d) (rule 28 (left_out d) ∷ []) (form-positive d) f ∙ rw h

module _ (d : List ℕ) (accepted : kept_refusal d ≡ 0) where
  kept-both : (form_refusal d ≡ 0) × (first (rule 28 (left_out d) ∷ []) ≡ 0)
  unfolding kept_refusal form_refusal
  kept-both = first-both (form_order d) (rule 28 (left_out d) ∷ []) (form-positive d) accepted

  formed : form_refusal64 d ≡ 0
  formed = form-accepted d kept-both.0

  pub accepted-headed : 11 ≤ length d
  accepted-headed = form-headed d formed

  pub accepted-counts : Counts d
  accepted-counts = form-counts d formed

  pub accepted-whole : Whole d
  accepted-whole = form-whole d formed

  pub accepted-records : (k : ℕ) → k < types_in d → broken_record d k ≡ false
  accepted-records = form-records d formed

  -- "at most 586", of bytes
  pub short : IsBytes d → length d ≤ 586
  short = accepted-length d formed

  -- the size of a type can be asked once those below it are small
  pub sized-next : (k : ℕ) → k < types_in d → ((j : ℕ) → j < k → size_ty (ty_at d j) ≤ 4096) → Sized d k
  sized-next k l s = record { known = l; whole = accepted-whole; right = λ j p. accepted-records j (omega arith); small = s }

-- ---- 7, behind these

not_large : (d : List ℕ) (k : ℕ) → large d k ≡ false → size_ty (ty_at d k) ≤ 4096
unfolding large
not_large d k h = ltb-false 4096 _ h

large-least : (d : List ℕ) (k : ℕ) → k < first_large d → size_ty (ty_at d k) ≤ 4096
large-least d k h = not_large d k (first-least (large d) 0 (types_in d) k (omega arith) h)

-- one small type more
pub small-more : (d : List ℕ) (k : ℕ) → ((j : ℕ) → j < k → size_ty (ty_at d j) ≤ 4096) → large d k ≡ false
    → (j : ℕ) → j < k + 1 → size_ty (ty_at d j) ≤ 4096
small-more d k s h j l = ⊎_elim (λ e. rw e (not_large d k h)) (λ q. s j q) (eq-or-lt_of_le {n = j} {m = k} (omega arith))

pub types-kept : (d : List ℕ) → (kept_refusal d ≡ 0 → ⊥) → types_refusal d ≡ kept_refusal d
unfolding types_refusal kept_refusal
types-kept d h = first-before (kept_order d) (rule 7 (too_large d) ∷ []) h

pub types-seven : (d : List ℕ) → kept_refusal d ≡ 0 → too_large d ≡ true → types_refusal d ≡ 7
unfolding types_refusal kept_refusal
types-seven d f h = first-behind (kept_order d) (rule 7 (too_large d) ∷ []) (kept-positive d) f ∙ rw h

pub types-right : (d : List ℕ) → kept_refusal d ≡ 0 → too_large d ≡ false → types_refusal d ≡ 0
unfolding types_refusal kept_refusal
types-right d f h = first-behind (kept_order d) (rule 7 (too_large d) ∷ []) (kept-positive d) f ∙ rw h

module _ (d : List ℕ) (accepted : types_refusal d ≡ 0) where
  both : (kept_refusal d ≡ 0) × (first (rule 7 (too_large d) ∷ []) ≡ 0)
  unfolding types_refusal kept_refusal
  both = first-both (kept_order d) (rule 7 (too_large d) ∷ []) (kept-positive d) accepted

  pub accepted-kept : kept_refusal d ≡ 0
  accepted-kept = both.0

  pub accepted-small : (k : ℕ) → k < types_in d → size_ty (ty_at d k) ≤ 4096
  unfolding too_large
  accepted-small k l =
      large-least d k (omega (arith, ltb-false (first_large d) (types_in d) ((accepts-exactly (rule 7 (too_large d) ∷ []) (omega arith, tt)).0 both.1).0))

  pub accepted-sized : (k : ℕ) → k < types_in d → Sized d k
  accepted-sized k l = sized-next d accepted-kept k l (λ j p. accepted-small j (omega arith))
