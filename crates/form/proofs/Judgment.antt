-- What an answer says of the number that it stands under. Assumes nothing.
use mathlib.Core.Path.{◌≡◌, refl}
use mathlib.Core.Bool.{Bool, true, false, cond}
use mathlib.Core.Logic.{◌≢◌}
use Prim.Native.Nat.{ℕ}
use lib.Dec.{eqb}
use borrow.Author.Tests.{eq-eqb, ne_eqb, eqb-true, eqb-false}
use Rattle.std.specs.Prelude.{Result, Ok, Err}
use Rattle.form.specs.declared.Refusal.{Refusal}
use Rattle.form.specs.Reading.{judgment}

pub passed : (n : ℕ) (refusal : Refusal) → Ok (tt {0}) ≡ judgment n refusal → n ≡ 0
passed n refusal e = by (eqb n 0) refl e
  where
    by : (b : Bool) → eqb n 0 ≡ b → Ok (tt {0}) ≡ cond b (Ok (tt {0})) (Err refusal) → n ≡ 0
    by true q e = eqb-true n 0 q
    by false q e = cc

pub refused : (n : ℕ) (refusal found : Refusal) → Err found ≡ judgment n refusal → (n ≢ 0) × (found ≡ refusal)
refused n refusal found e = by (eqb n 0) refl e
  where
    by : (b : Bool) → eqb n 0 ≡ b → Err found ≡ cond b (Ok (tt {0})) (Err refusal) → (n ≢ 0) × (found ≡ refusal)
    by true q e = cc
    by false q e = (eqb-false n 0 q, cc)

pub judgment-none : (n : ℕ) (refusal : Refusal) → n ≡ 0 → Ok (tt {0}) ≡ judgment n refusal
judgment-none n refusal e = rw e

pub judgment-some : (n : ℕ) (refusal : Refusal) → n ≢ 0 → Err refusal ≡ judgment n refusal
judgment-some n refusal h = rw (ne_eqb n 0 h)

-- what is answered behind it
module _ {T : Type 0} (n : ℕ) (refusal : Refusal) (answer : Result T Refusal) where
  pub passed_on : Ok (tt {0}) ≡ judgment n refusal → cond (eqb n 0) answer (Err refusal) ≡ answer
  passed_on e = rw (eq-eqb n 0 (passed n refusal e))

  pub refused_on : (found : Refusal) → Err found ≡ judgment n refusal → cond (eqb n 0) answer (Err refusal) ≡ Err found
  refused_on found e = let r = refused n refusal found e in rw (ne_eqb n 0 r.0, r.1)
