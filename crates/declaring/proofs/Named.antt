-- An accepted description's named part is written and read back. Assumes nothing.
use mathlib.Core.Path.{◌≡◌, refl, ap}
use mathlib.Core.Bool.{Bool, true, false, cond}
use mathlib.Core.List.{List, ◌∷◌}
use Prim.Native.Nat.{ℕ, zero, suc, ◌+◌, ◌/◌, ◌%◌, ◌≤◌, ◌<◌}
use native.Mathlib.Omega.{arith}
use borrow.Author.Tests.{eqb-false, leb-false}
use lib.Dec.{eqb, leb}
use lib.ListN.{take}
use Rattle.description.specs.Description.{flags_in, variadic_in, model_in, named_in, arguments_in, return_in, argument_at, types_in, kind_at, a_at, count_at, member_at}
use Rattle.description.specs.declared.Model.{Model}
use Rattle.description.specs.declared.Model.TheVariants.{Lp64, Ilp32}
use Rattle.form.proofs.Form.{or_none, accepted-counts}
use Rattle.types.specs.Tree.{Ty, Tys, group}
use Rattle.types.specs.Decode.{tys_from, ty_at}
use Rattle.types.specs.Asks.{Sized}
use Rattle.types.proofs.Records.{View, v0, v1, v2, view}
use Rattle.types.proofs.Trees.{sized-ruled, sized-below, at-basic, at-array, at-group}
use Rattle.types.proofs.Large.{accepted-form, accepted-sized}
use Rattle.uses.specs.Uses.{wrong_number, uses_refusal}
use Rattle.uses.proofs.Uses.{accepted-types, accepted-typed, accepted-argument, accepted-return}
use Rattle.layout.specs.Arguments.{is_void}
use Rattle.layout.specs.Verdict.{verdict}
use Rattle.layout.proofs.Verdict.{accepted-uses}
use Rattle.grammar.specs.Meaning.{Read, meaning, blank}
use Rattle.declaring.specs.Writing.{Declaration}
use Rattle.declaring.specs.Written.{Writable, AllWritable, NoArray, Passed, AllPassed, PassedBack, Declarable, declares}
use Rattle.declaring.proofs.Back.{read_back}
use Rattle.tidying.specs.Call.{Returned, void, returned, trees_from, returned_by, call_of}
use Rattle.tidying.specs.Tidy.{tidy_of}
use Rattle.tidying.proofs.Laid.{length-trees}
use Rattle.declaring.specs.Named.{result_of, named_part, declaration_of, written_text, GivesBack}
use Rattle.collecting.specs.Count.{flags_of}
use Rattle.collecting.specs.Image.{returned_of, call_from}
use Rattle.collecting.specs.Statements.{long_in, bit_of}

tys_writable : (g : ℕ → Ty) (d : List ℕ) (i n : ℕ) → ((j : ℕ) → i ≤ j → j < i + n → Writable (g (member_at d j))) → AllWritable (tys_from g d i n)
unfolding tys_from Writable AllWritable
tys_writable g d i zero h = tt
tys_writable g d i (suc n) h = (h i (omega arith) (omega arith), tys_writable g d (i + 1) n (λ j p q. h j (omega arith) (omega arith)))

group-writable : (u : Bool) (g : ℕ → Ty) (d : List ℕ) (i n : ℕ) → 1 ≤ n → AllWritable (tys_from g d i n) → Writable (group u (tys_from g d i n))
unfolding tys_from Writable AllWritable
group-writable u g d i zero l f = absurd (omega arith)
group-writable true g d i (suc n) l f = (tt, f)
group-writable false g d i (suc n) l f = (tt, f)

writable_by : {m : Model} (n : ℕ) (d : List ℕ) (k : ℕ) → k < n → Sized m d k → Writable (ty_at d k)
unfolding Writable
writable_by zero d k l s = absurd (omega arith)
writable_by (suc n) d k l s = by (view (kind_at d k)) (λ j p. writable_by n d j (omega arith) (sized-below d k s j p))
  where
    by : View (kind_at d k) → ((j : ℕ) → j < k → Writable (ty_at d j)) → Writable (ty_at d k)
    by (v0 e) h = rw (at-basic d k s e) ((sized-ruled d k s).code e)
    by (v1 e) h = rw (at-array d k s e) (omega (arith, ((sized-ruled d k s).elements e).1), h (a_at d k) ((sized-ruled d k s).element e))
    by (v2 two) h =
        rw (at-group d k s two)
        (group-writable (eqb (kind_at d k) 3) (ty_at d) d (a_at d k) (count_at d k) ((sized-ruled d k s).members two)
        (tys_writable (ty_at d) d (a_at d k) (count_at d k) (λ j p q. h (member_at d j) ((sized-ruled d k s).member two j p q))))

group-no_array : (u : Bool) (ts : Tys) → NoArray (group u ts)
group-no_array true ts = tt
group-no_array false ts = tt

no_array : {m : Model} (d : List ℕ) (k : ℕ) → Sized m d k → eqb (kind_at d k) 1 ≡ false → NoArray (ty_at d k)
no_array d k s h = by (view (kind_at d k))
  where
    by : View (kind_at d k) → NoArray (ty_at d k)
    by (v0 e) = rw (at-basic d k s e) tt
    by (v1 e) = absurd (eqb-false (kind_at d k) 1 h e)
    by (v2 two) = rw (at-group d k s two) (group-no_array (eqb (kind_at d k) 3) (tys_from (ty_at d) d _ _))

-- the first of a description's arguments, written out
pub take-trees : (d : List ℕ) (n m i : ℕ) → n ≤ m → take n (trees_from d i m) ≡ trees_from d i n
unfolding trees_from
take-trees d zero m i h = refl
take-trees d (suc n) zero i h = absurd (omega arith)
take-trees d (suc n) (suc m) i h = ap (λ (l : List Ty). ty_at d (argument_at d i) ∷ l) (take-trees d n m (i + 1) (omega arith))

module _ (d : List ℕ) (right : uses_refusal d ≡ 0) where
  passed-number : (k : ℕ) → wrong_number d k ≡ false → Passed (ty_at d k)
  unfolding wrong_number
  passed-number k h =
      let (p, q) = or_none (leb (types_in d) k) (eqb (kind_at d k) 1) h in
      let s = accepted-sized d (accepted-types d right) k (leb-false (types_in d) k p) in
      (writable_by (suc k) d k (omega arith) s, no_array d k s q)

  all-passed : (n i : ℕ) → i + n ≤ arguments_in d → AllPassed (trees_from d i n)
  unfolding trees_from AllPassed
  all-passed zero i h = tt
  all-passed (suc n) i h = (passed-number (argument_at d i) (accepted-argument d right i (omega arith)), all-passed n (i + 1) (omega arith))

  back-passed : PassedBack (result_of (returned_by d))
  unfolding returned_by is_void
  back-passed = by (eqb (return_in d) 255) refl
    where
      by : (b : Bool) → eqb (return_in d) 255 ≡ b → PassedBack (result_of (cond b void (returned (ty_at d (return_in d)))))
      by true e = tt
      by false e = passed-number (return_in d) (accepted-return d right e)

  pub declarable : Declarable (declaration_of d)
  unfolding declaration_of
  declarable = record { back = back-passed; all = all-passed (named_in d) 0 (omega (arith, (accepted-typed d right).named)) }

  back-returned : (r : Returned) → returned_of (result_of r) ≡ r
  back-returned void = refl
  back-returned (returned t) = refl

  flag_back : flags_in d ≤ 3 → flags_of (bit_of (model_in d)) (eqb (variadic_in d) 1) ≡ flags_in d
  unfolding model_in variadic_in
  flag_back h = by (flags_in d) h
    where
      by : (f : ℕ) → f ≤ 3 → flags_of (bit_of (cond (eqb (f / 2 % 2) 1) Ilp32 Lp64)) (eqb (f % 2) 1) ≡ f
      by zero l = refl
      by (suc zero) l = refl
      by (suc (suc zero)) l = refl
      by (suc (suc (suc zero))) l = refl
      by (suc (suc (suc (suc n)))) l = absurd (omega arith)

  same-call : (s : Read) → declares s ≡ declaration_of d → call_from (bit_of (model_in d)) s ≡ named_part (call_of d)
  unfolding declaration_of named_part call_of
  same-call s e =
      let v : s.variadic ≡ eqb (variadic_in d) 1 = ap (λ (x : Declaration). x.variadic) e in
      let a : s.arguments ≡ trees_from d 0 (named_in d) = ap (λ (x : Declaration). x.arguments) e in
      let r : s.result ≡ result_of (returned_by d) = ap (λ (x : Declaration). x.returns) e in
      rw (v, a, r, flag_back (accepted-counts d (accepted-form d (accepted-types d right))).flags, length-trees d 0 (named_in d), back-returned (returned_by d), take-trees d (named_in d) (arguments_in d) 0 (accepted-typed d right).named) refl

  pub gives_back : GivesBack d
  unfolding written_text
  gives_back =
      let b = read_back (declaration_of d) declarable in
      record {
        events = b.events;
        read = b.read;
        call = same-call (meaning (long_in (model_in d)) blank b.events) (b.same (long_in (model_in d)));
        tidy = ap tidy_of (same-call (meaning (long_in (model_in d)) blank b.events) (b.same (long_in (model_in d))));
      }

-- "A writer turns a description's named part back into a declaration, and reading that gives the tidy form of that part"
pub written_back : (d : List ℕ) → verdict d ≡ 0 → GivesBack d
written_back d h = gives_back d (accepted-uses d h)
