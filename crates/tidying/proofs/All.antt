-- All types of a call are numbered: what `reach_all` cites. Assumes nothing.
use mathlib.Core.Path.{◌≡◌, refl, ap, ◌∙◌}
use mathlib.Core.List.{List, []}
use Prim.Native.Nat.{ℕ, ◌≤◌, ◌<◌}
use native.Mathlib.Omega.{arith}
use borrow.Author.Tests.{eq-eqb, ne_eqb}
use lib.ListN.{length, get_or}
use Rattle.description.specs.Description.{types_in, arguments_in, argument_at, return_in}
use Rattle.form.proofs.Form.{accepted-counts, accepted-headed}
use Rattle.types.specs.Tree.{Ty}
use Rattle.types.specs.Decode.{ty_at}
use Rattle.types.proofs.Large.{accepted-form}
use Rattle.uses.specs.Uses.{uses_refusal}
use Rattle.uses.proofs.Uses.{accepted-types, accepted-return, right-below}
use Rattle.layout.specs.Arguments.{is_void}
use Rattle.tidying.specs.Call.{trees_from, returned_by, call_of}
use Rattle.tidying.specs.Numbering.{reached, reached_by, reached_from, table_of}
use Rattle.tidying.specs.Asks.{Has, tabled, Numbers, AllNumbered}
use Rattle.tidying.proofs.Reached.{ordered-none}

module _ (d : List ℕ) (right : uses_refusal d ≡ 0) where
  pub all-headed : 11 ≤ length d
  all-headed = accepted-headed d (accepted-form d (accepted-types d right))

  pub return_low : (return_in d ≡ 255 → ⊥) → return_in d < types_in d
  return_low h = right-below d (return_in d) (accepted-return d right (ne_eqb (return_in d) 255 h))

  module _ (new old : List ℕ) (wide : length new ≡ 64) (room : length old ≡ 64) (none : (k : ℕ) → k < 64 → get_or new k 0 ≡ 255) where
    few : types_in d ≤ 64
    few = omega (arith, accepted-counts d (accepted-form d (accepted-types d right)))

    pub all_none : Numbers d new old 0
    unfolding tabled
    all_none = record {
      right = right;
      wide = wide;
      room = room;
      ordered = ordered-none;
      olds = λ j l. absurd (omega arith);
      done = λ j l. absurd (omega arith);
      news = λ k l h. absurd (h (none k (omega (arith, l, few))));
      parts = λ k l h. absurd (h (none k (omega (arith, l, few))));
    }

tabled-none : (d old : List ℕ) → tabled d old 0 ≡ []
unfolding tabled
tabled-none d old = refl

-- through return
module _ (d old : List ℕ) (n : ℕ) where
  pub return_void : return_in d ≡ 255 → tabled d old n ≡ reached_by (tabled d old n) (returned_by d)
  unfolding reached_by returned_by is_void
  return_void e = rw (eq-eqb (return_in d) 255 e)

  pub return_type : (was : List ℕ) (m k : ℕ) → k ≡ return_in d → (k ≡ 255 → ⊥) → tabled d was m ≡ reached (tabled d old n) (ty_at d k) → tabled d was m ≡ reached_by (tabled d old n) (returned_by d)
  unfolding reached_by returned_by is_void
  return_type was m k e h q = rw (ne_eqb (return_in d) 255 (λ z. h (e ∙ z))) (q ∙ rw e)

-- then arguments
pub all_reached : (d new old : List ℕ) (n : ℕ) → Numbers d new old n → (old₀ mid was : List ℕ) (m : ℕ) → tabled d was m ≡ reached_by (tabled d old₀ 0) (returned_by d)
    → ((return_in d ≡ 255 → ⊥) → Has mid (return_in d)) → tabled d old n ≡ reached_from (tabled d was m) (trees_from d 0 (arguments_in d))
    → ((i : ℕ) → i < arguments_in d → Has new (argument_at d i)) → ((i : ℕ) → Has mid i → Has new i) → AllNumbered d new old n
unfolding table_of call_of
all_reached d new old n s old₀ mid was m er hr ea ha kept = record {
  numbers = s;
  is = ea ∙ ap (λ (l : List Ty). reached_from l (trees_from d 0 (arguments_in d))) er ∙ table-call;
  returns = λ h. kept (return_in d) (hr h);
  arguments = ha;
}
  where
    table-call : reached_from (reached_by (tabled d old₀ 0) (returned_by d)) (trees_from d 0 (arguments_in d)) ≡ table_of (call_of d)
    table-call = rw (tabled-none d old₀)
