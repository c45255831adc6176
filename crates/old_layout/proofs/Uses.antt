-- The refusals 1 to 6, 28 and 7 to 9 of the 386 kind: which number, exactly, and what a description is sure of that gets none. Assumes nothing.
use mathlib.Core.Path.{◌≡◌, refl}
use mathlib.Core.Bool.{Bool, true, false, cond}
use mathlib.Core.List.{List}
use mathlib.Core.Logic.{◌↔◌, ◌≢◌}
use Prim.Native.Nat.{ℕ, ◌-◌, ◌≤◌, ◌<◌}
use native.Mathlib.Omega.{arith}
use borrow.Author.Tests.{ltb-false}
use lib.Dec.{ltb, eqb}
use Rattle.description.specs.Description.{named_in, arguments_in, return_in, argument_at, Whole}
use Rattle.std.specs.Prelude.{Err}
use Rattle.form.specs.declared.Refusal.{Refusal}
use Rattle.form.specs.Reading.{judgment, refusal_of}
use Rattle.form.proofs.Judgment.{refused}
use Rattle.form.specs.Order.{first, NoneHolds, Answers, Positive}
use Rattle.form.proofs.Order.{refuses-exactly, accepts-exactly, first-before, first-behind, first-both, positive-append}
use Rattle.form.proofs.Search.{first-least}
use Rattle.form.proofs.Form.{or_none}
use Rattle.old_types.specs.Conditions.{types_order, types_refusal, refusal_for}
use Rattle.old_types.proofs.Orders.{types-positive, accepted-kept, accepted-whole, accepted-counts}
use Rattle.old_types.proofs.Judged.{no_type}
use Rattle.uses.specs.Uses.{wrong_number, wrong_return, wrong_argument, first_wrong, wrong_use, narrow_argument, narrow_unnamed, first_narrow, passing_order, Typed}
use Rattle.uses.proofs.Uses.{right-typed}
use Rattle.intel386.specs.Verdict.{uses_order, uses_refusal}

pub uses-positive : (d : List ℕ) → Positive (uses_order d)
uses-positive d = positive-append (types_order d) (passing_order d) (types-positive d) (omega arith, (omega arith, tt))

-- the answer is n exactly where condition n holds and none before it
pub uses-exactly : (d : List ℕ) (n : ℕ) → n ≢ 0 → (uses_refusal d ≡ n) ↔ Answers (uses_order d) n
unfolding uses_refusal
uses-exactly d n h = refuses-exactly (uses_order d) n h

pub uses-none_exactly : (d : List ℕ) → (uses_refusal d ≡ 0) ↔ NoneHolds (uses_order d)
unfolding uses_refusal
uses-none_exactly d = accepts-exactly (uses_order d) (uses-positive d)

-- 8 and 9 name no type
eight_or_nine : (a b : Bool) → (eqb (cond a 8 (cond b 9 0)) 6 ≡ false) × (eqb (cond a 8 (cond b 9 0)) 7 ≡ false)
eight_or_nine true b = (refl, refl)
eight_or_nine false true = (refl, refl)
eight_or_nine false false = (refl, refl)

-- what is answered for a description, by what its types are and by what is passed
module _ (d : List ℕ) where
  types-behind : (types_refusal d ≡ 0 → ⊥) → uses_refusal d ≡ types_refusal d
  unfolding uses_refusal types_refusal
  types-behind h = first-before (types_order d) (passing_order d) h

  pub judged-types : (found : Refusal) → Err found ≡ judgment (types_refusal d) (refusal_for d (types_refusal d)) → Err found ≡ judgment (uses_refusal d) (refusal_for d (uses_refusal d))
  judged-types found e = rw (types-behind (refused _ _ found e).0) e

  module _ (right : types_refusal d ≡ 0) where
    pub types-whole : Whole d
    types-whole = accepted-whole d (accepted-kept d right)

    pub types-named : named_in d ≤ arguments_in d
    types-named = (accepted-counts d (accepted-kept d right)).named

    passing-behind : uses_refusal d ≡ first (passing_order d)
    unfolding uses_refusal types_refusal
    passing-behind = first-behind (types_order d) (passing_order d) (types-positive d) right

    pub judged-passing : judgment (first (passing_order d)) (refusal_of (first (passing_order d))) ≡ judgment (uses_refusal d) (refusal_for d (uses_refusal d))
    judged-passing =
        let names = eight_or_nine (wrong_use d) (narrow_unnamed d) in
        rw (passing-behind, no_type d (first (passing_order d)) names.0 names.1)

-- none of 1 to 9
module _ (d : List ℕ) (accepted : uses_refusal d ≡ 0) where
  pub accepted-types : types_refusal d ≡ 0
  unfolding uses_refusal types_refusal
  accepted-types = (first-both (types_order d) (passing_order d) (types-positive d) accepted).0

  right-use : wrong_use d ≡ false
  right-use = ((uses-none_exactly d).0 accepted).1.1.1.1.1.1.1.1.0

  uses-right : (wrong_return d ≡ false) × (ltb (first_wrong d) (arguments_in d) ≡ false)
  unfolding wrong_use
  uses-right = or_none (wrong_return d) (ltb (first_wrong d) (arguments_in d)) right-use

  pub accepted-typed : Typed d
  accepted-typed = right-typed d (types-whole d accepted-types) (types-named d accepted-types) right-use

  -- an argument's number is a type's, and no array's
  pub accepted-argument : (i : ℕ) → i < arguments_in d → wrong_number d (argument_at d i) ≡ false
  accepted-argument i l = first-least (wrong_argument d) 0 (arguments_in d) i (omega arith) (omega (arith, ltb-false (first_wrong d) (arguments_in d) uses-right.1))

  -- and so is the return type's, where it is not void
  pub accepted-return : eqb (return_in d) 255 ≡ false → wrong_number d (return_in d) ≡ false
  unfolding wrong_return
  accepted-return e = rw e at uses-right.0

  -- no unnamed argument is narrow
  pub accepted-wide : (i : ℕ) → named_in d ≤ i → i < arguments_in d → narrow_argument d i ≡ false
  unfolding narrow_unnamed
  accepted-wide i n l =
      first-least (narrow_argument d) (named_in d) (arguments_in d - named_in d) i n (omega (arith, ltb-false (first_narrow d) (arguments_in d) ((uses-none_exactly d).0 accepted).1.1.1.1.1.1.1.1.1.0))
