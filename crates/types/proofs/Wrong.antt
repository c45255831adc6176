-- Which type a refusal names (request 2026-01). Assumes nothing.
use mathlib.Core.Path.{◌≡◌}
use mathlib.Core.Bool.{false}
use mathlib.Core.Logic.{◌≢◌}
use mathlib.Core.List.{List}
use Prim.Native.Nat.{ℕ}
use lib.Dec.{eqb}
use borrow.Author.Tests.{ne_eqb, lt-ltb, le-ltb}
use Rattle.std.specs.Prelude.{Ok, Err, Some, None}
use Rattle.description.specs.Description.{types_in, model_in}
use Rattle.form.specs.Order.{Without, form_order, form_refusal}
use Rattle.form.specs.Reading.{refusal_at, refusal_by, refusal_of, judgment, form_refused}
use Rattle.form.specs.Search.{first_within}
use Rattle.form.specs.declared.Refusal.{Refusal}
use Rattle.form.proofs.Judgment.{passed, refused}
use Rattle.form.proofs.Search.{within-some, within-none}
use Rattle.form.proofs.Order.{never}
use Rattle.form.proofs.Named.{names-none}
use Rattle.types.specs.Large.{large, first_large, too_large, types_refusal}
use Rattle.types.proofs.Large.{types-form, types-seven, types-right}
use Rattle.types.specs.Wrong.{refusal_for}
use native.Mathlib.Omega.{arith}

without-seven : (d : List ℕ) → Without 7 (form_order d)
without-seven d = ((λ z. omega arith), ((λ z. omega arith), ((λ z. omega arith), ((λ z. omega arith), ((λ z. omega arith), ((λ z. omega arith), tt))))))

-- a number other than 6 and 7 names no type
pub no_type : (d : List ℕ) (n : ℕ) → eqb n 6 ≡ false → eqb n 7 ≡ false → refusal_for d n ≡ refusal_of n
unfolding refusal_for
no_type d n six seven = names-none _ _ n six seven

-- what is answered for a description, by what its form and its first large type are
module _ (d : List ℕ) where
  not_seven : form_refusal d ≢ 7
  unfolding form_refusal
  not_seven = never (form_order d) 7 (λ z. omega arith) (without-seven d)

  pub judged-form : (found : Refusal) → Err found ≡ judgment (form_refusal d) (form_refused d) → Err found ≡ judgment (types_refusal d) (refusal_for d (types_refusal d))
  unfolding refusal_for refusal_by
  judged-form found e = rw (types-form d (refused _ _ found e).0, ne_eqb (form_refusal d) 7 not_seven) e

  module _ (formed : Ok (tt {0}) ≡ judgment (form_refusal d) (form_refused d)) where
    form : form_refusal d ≡ 0
    form = passed _ _ formed

    pub judged-large : (k : ℕ) → Some k ≡ first_within (large (model_in d) d) 0 (types_in d) → Err (refusal_at 7 k) ≡ judgment (types_refusal d) (refusal_for d (types_refusal d))
    unfolding refusal_for refusal_by too_large
    judged-large k e =
        let q = within-some (large (model_in d) d) 0 (types_in d) k e in
        rw (types-seven d form (lt-ltb (first_large (model_in d) d) (types_in d) (omega (arith, q))), q.0)

    pub judged-right : None ≡ first_within (large (model_in d) d) 0 (types_in d) → types_refusal d ≡ 0
    unfolding too_large
    judged-right e = types-right d form (le-ltb (first_large (model_in d) d) (types_in d) (omega (arith, within-none (large (model_in d) d) 0 (types_in d) e)))
