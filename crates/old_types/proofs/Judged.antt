-- What the functions that judge a description of the 386 kind answer, and which type a refusal names. Assumes nothing.
use mathlib.Core.Path.{◌≡◌, refl, sym, ap, ◌∙◌}
use mathlib.Core.Bool.{Bool, true, false, cond}
use mathlib.Core.List.{List}
use mathlib.Core.Logic.{◌≢◌}
use Prim.Native.Nat.{ℕ, ◌≤◌, ◌<◌}
use native.Mathlib.Omega.{arith}
use borrow.Author.Tests.{ne_eqb, lt-ltb, le-ltb}
use lib.Dec.{eqb, ltb}
use lib.ListN.{length}
use Rattle.std.specs.Prelude.{Result, Ok, Err, Some, None}
use Rattle.description.specs.Description.{types_in, flags_in}
use Rattle.form.specs.declared.Refusal.{Refusal}
use Rattle.form.specs.Order.{form_refusal as form_refusal64, form_order as form_order64}
use Rattle.form.specs.Reading.{refusal_at, refusal_by, refusal_of, judgment, form_refused}
use Rattle.form.specs.Search.{first_within}
use Rattle.form.proofs.Judgment.{passed, refused, judgment-none}
use Rattle.form.proofs.Named.{names-none}
use Rattle.form.proofs.Order.{never}
use Rattle.form.proofs.Search.{within-some, within-none}
use Rattle.old_types.specs.Conditions.{left_out, large, first_large, too_large, form_refusal, kept_refusal, types_refusal, refusal_for}
use Rattle.old_types.proofs.Orders.{form-early, form-late, form-headed_late, kept-form, kept-left, types-kept, types-seven, types-right}

-- a number other than 6 and 7 names no type
pub no_type : (d : List ℕ) (n : ℕ) → eqb n 6 ≡ false → eqb n 7 ≡ false → refusal_for d n ≡ refusal_of n
unfolding refusal_for
no_type d n six seven = names-none _ _ n six seven

-- what is answered, by what document 01's form is, by bit 1, by what is left out, and by the first large type
module _ (d : List ℕ) where
  not_seven : form_refusal64 d ≢ 7
  unfolding form_refusal64
  not_seven = never (form_order64 d) 7 (λ z. omega arith) ((λ z. omega arith), ((λ z. omega arith), ((λ z. omega arith), ((λ z. omega arith), ((λ z. omega arith), ((λ z. omega arith), tt))))))

  named : refusal_for d (form_refusal64 d) ≡ form_refused d
  unfolding refusal_for refusal_by
  named = rw (ne_eqb (form_refusal64 d) 7 not_seven)

  number_of : (found : Refusal) → found ≡ form_refused d → found.number ≡ form_refusal64 d
  unfolding refusal_at
  number_of found e = rw e

  answered : (n : ℕ) → n ≡ form_refusal d → (r : Result (Unit {0}) Refusal) → r ≡ judgment n (refusal_for d n) → r ≡ judgment (form_refusal d) (refusal_for d (form_refusal d))
  answered n e r q = rw (← e) q

  flagged : ltb 1 (flags_in d) ≡ true → (1 ≤ form_refusal64 d → form_refusal64 d < 5 → ⊥) → Err (refusal_of 4) ≡ judgment (form_refusal d) (refusal_for d (form_refusal d))
  flagged f h =
      let four : 4 ≡ form_refusal d = rw f at (form-late d (form_refusal64 d) refl h) in
      answered 4 four (Err (refusal_of 4)) (ap (λ (r : Refusal). Err r) (sym (no_type d 4 refl refl)))

  unflagged : ltb 1 (flags_in d) ≡ false → (1 ≤ form_refusal64 d → form_refusal64 d < 5 → ⊥) → form_refusal64 d ≡ form_refusal d
  unflagged f h = rw f at (form-late d (form_refusal64 d) refl h)

  -- a form that document 01 accepts
  pub form-passed : Ok (tt {0}) ≡ judgment (form_refusal64 d) (form_refused d) → cond (ltb 1 (flags_in d)) (Err (refusal_of 4)) (Ok (tt {0})) ≡ judgment (form_refusal d) (refusal_for d (form_refusal d))
  form-passed e = by (ltb 1 (flags_in d)) refl
    where
      q : form_refusal64 d ≡ 0
      q = passed _ _ e

      none : 1 ≤ form_refusal64 d → form_refusal64 d < 5 → ⊥
      none a b = omega (arith, a, q)

      by : (b : Bool) → ltb 1 (flags_in d) ≡ b → cond b (Err (refusal_of 4)) (Ok (tt {0})) ≡ judgment (form_refusal d) (refusal_for d (form_refusal d))
      by true f = flagged f none
      by false f = judgment-none _ _ (sym (unflagged f none) ∙ q)

  -- one that it refuses
  module _ (found : Refusal) (e : Err found ≡ judgment (form_refusal64 d) (form_refused d)) where
    is : (form_refusal64 d ≢ 0) × (found ≡ form_refused d)
    is = refused _ _ found e

    kept_on : form_refusal64 d ≡ form_refusal d → Err found ≡ judgment (form_refusal d) (refusal_for d (form_refusal d))
    kept_on z = answered (form_refusal64 d) z (Err found) (rw (← named) at e)

    pub form-headed : 5 ≤ found.number → 11 ≤ length d
    form-headed l = form-headed_late d (form_refusal64 d) refl (λ z. omega (arith, l, z, number_of found is.1))

    pub form-refused_early : found.number < 5 → Err found ≡ judgment (form_refusal d) (refusal_for d (form_refusal d))
    form-refused_early l = kept_on (form-early d (form_refusal64 d) refl (omega (arith, is.0)) (omega (arith, l, number_of found is.1)))

    pub form-refused_late : 5 ≤ found.number → cond (ltb 1 (flags_in d)) (Err (refusal_of 4)) (Err found) ≡ judgment (form_refusal d) (refusal_for d (form_refusal d))
    form-refused_late l = by (ltb 1 (flags_in d)) refl
      where
        late : 1 ≤ form_refusal64 d → form_refusal64 d < 5 → ⊥
        late a b = omega (arith, l, b, number_of found is.1)

        by : (b : Bool) → ltb 1 (flags_in d) ≡ b → cond b (Err (refusal_of 4)) (Err found) ≡ judgment (form_refusal d) (refusal_for d (form_refusal d))
        by true f = flagged f late
        by false f = kept_on (unflagged f late)

  -- 28
  pub judged-form : (found : Refusal) → Err found ≡ judgment (form_refusal d) (refusal_for d (form_refusal d)) → Err found ≡ judgment (kept_refusal d) (refusal_for d (kept_refusal d))
  judged-form found e = rw (kept-form d (refused _ _ found e).0) e

  pub judged-omitted : form_refusal d ≡ 0 → left_out d ≡ true → Err (refusal_of 28) ≡ judgment (kept_refusal d) (refusal_for d (kept_refusal d))
  judged-omitted f h = rw (kept-left d f h, no_type d 28 refl refl)

  -- 7
  pub judged-kept : (found : Refusal) → Err found ≡ judgment (kept_refusal d) (refusal_for d (kept_refusal d)) → Err found ≡ judgment (types_refusal d) (refusal_for d (types_refusal d))
  judged-kept found e = rw (types-kept d (refused _ _ found e).0) e

  module _ (kept : kept_refusal d ≡ 0) where
    pub judged-large : (k : ℕ) → Some k ≡ first_within (large d) 0 (types_in d) → Err (refusal_at 7 k) ≡ judgment (types_refusal d) (refusal_for d (types_refusal d))
    unfolding refusal_for refusal_by too_large
    judged-large k e =
        let q = within-some (large d) 0 (types_in d) k e in
        rw (types-seven d kept (lt-ltb (first_large d) (types_in d) (omega (arith, q))), q.0)

    pub judged-right : None ≡ first_within (large d) 0 (types_in d) → types_refusal d ≡ 0
    unfolding too_large
    judged-right e = types-right d kept (le-ltb (first_large d) (types_in d) (omega (arith, within-none (large d) 0 (types_in d) e)))
