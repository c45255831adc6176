-- The lengths that are worked out from number 0 upward are those of the text. Assumes nothing.
use mathlib.Core.Path.{◌≡◌, refl, sym, ap, ◌∙◌}
use mathlib.Core.Bool.{Bool, true, false, cond}
use mathlib.Core.List.{List, [], ◌∷◌}
use Prim.Native.Nat.{ℕ, zero, suc, ◌+◌, ◌≤◌, ◌<◌}
use native.Mathlib.Omega.{arith}
use borrow.Author.Tests.{eqb-true, eqb-false, eq-eqb, ne_eqb}
use lib.Dec.{eqb}
use lib.ListN.{length}
use Rattle.description.specs.Description.{model_in, kind_at, a_at, count_at, member_at, argument_at, return_in, variadic_in, named_in}
use Rattle.types.specs.Tree.{Ty, Tys, basic, array, group}
use Rattle.types.specs.Decode.{tys_from, ty_at}
use Rattle.types.specs.Asks.{Sized}
use Rattle.types.proofs.Records.{View, v0, v1, v2, view}
use Rattle.types.proofs.Trees.{sized-ruled, at-basic, at-array, at-group}
use Rattle.uses.specs.Uses.{uses_refusal}
use Rattle.layout.specs.Arguments.{is_void}
use Rattle.declaring.specs.Length.{words_length, braces_length, name_length, size_length, type_length, members_length, result_length, further_length, parameters_length, declaration_length, capped}
use Rattle.declaring.proofs.Cases.{each}
use Rattle.declaring.proofs.Length.{declaration_length_lem}
use Rattle.tidying.specs.Call.{void, returned, trees_from, returned_by}
use Rattle.declaring.specs.Named.{result_of, declaration_of, written_text}
use Rattle.declaring.specs.Lengths.{members_from, length_from, length_at, arguments_from, whole_from}
use Rattle.declaring.proofs.Named.{declarable}

short-words : (c : ℕ) → c < 17 → words_length c ≤ 4097
short-words c h = each (λ c. words_length c ≤ 4097) 17 0 (omega arith, (omega arith, (omega arith, (omega arith, (omega arith, (omega arith, (omega arith, (omega arith, (omega arith, (omega arith, (omega arith, (omega arith, (omega arith, (omega arith, (omega arith, (omega arith, (omega arith, tt))))))))))))))))) c (omega arith) h

members-right : (d : List ℕ) (n x y i j : ℕ) → x ≡ capped y → members_from (length_at d) d x i j n ≡ capped (y + members_length i (tys_from (ty_at d) d j n))
unfolding members_from members_length tys_from length_at
members-right d zero x y i j h = omega (arith, h)
members-right d (suc n) x y i j h =
    members-right d n (capped (x + (capped (type_length (ty_at d (member_at d j))) + name_length i))) (y + (type_length (ty_at d (member_at d j)) + name_length i)) (suc i) (j + 1) (omega (arith, h))
    ∙ omega arith

group-length : (u : Bool) (ts : Tys) → type_length (group u ts) ≡ braces_length u + members_length 0 ts
unfolding type_length
group-length true ts = refl
group-length false ts = refl

basic-length : (c : ℕ) → type_length (basic c) ≡ words_length c
unfolding type_length
basic-length c = refl

array-length : (t : Ty) (n : ℕ) → type_length (array t n) ≡ type_length t + size_length n
unfolding type_length
array-length t n = refl

braces_low : (u : Bool) → braces_length u ≤ 11
braces_low true = omega arith
braces_low false = omega arith

by_basic : (d : List ℕ) (k : ℕ) → ty_at d k ≡ basic (a_at d k) → a_at d k < 17 → words_length (a_at d k) ≡ length_at d k
unfolding length_at
by_basic d k e h = omega (arith, ap type_length e ∙ basic-length (a_at d k), short-words (a_at d k) h)

by_array : (d : List ℕ) (k : ℕ) → ty_at d k ≡ array (ty_at d (a_at d k)) (count_at d k) → capped (length_at d (a_at d k) + size_length (count_at d k)) ≡ length_at d k
unfolding length_at
by_array d k e = omega (arith, ap type_length e ∙ array-length (ty_at d (a_at d k)) (count_at d k))

by_group : (d : List ℕ) (k : ℕ) → ty_at d k ≡ group (eqb (kind_at d k) 3) (tys_from (ty_at d) d (a_at d k) (count_at d k))
    → members_from (length_at d) d (braces_length (eqb (kind_at d k) 3)) 0 (a_at d k) (count_at d k) ≡ length_at d k
unfolding length_at
by_group d k e =
    members-right d (count_at d k) (braces_length (eqb (kind_at d k) 3)) (braces_length (eqb (kind_at d k) 3)) 0 (a_at d k) (omega (arith, braces_low (eqb (kind_at d k) 3)))
    ∙ ap capped (sym (ap type_length e ∙ group-length (eqb (kind_at d k) 3) (tys_from (ty_at d) d (a_at d k) (count_at d k))))

-- an entry from those below it
pub length-right : (d : List ℕ) (k : ℕ) → Sized (model_in d) d k → length_from (length_at d) d k ≡ length_at d k
unfolding length_from
length-right d k s = by (view (kind_at d k))
  where
    by : View (kind_at d k) → length_from (length_at d) d k ≡ length_at d k
    by (v0 e) = rw (eq-eqb (kind_at d k) 0 e) (by_basic d k (at-basic d k s e) ((sized-ruled d k s).code e))
    by (v1 e) = rw (ne_eqb (kind_at d k) 0 (omega arith), eq-eqb (kind_at d k) 1 e) (by_array d k (at-array d k s e))
    by (v2 two) =
        rw (ne_eqb (kind_at d k) 0 (omega arith), ne_eqb (kind_at d k) 1 (omega arith))
        (by_group d k (at-group d k s two))

-- the whole
arguments-right : (d : List ℕ) (v : Bool) (n x y i : ℕ) → x ≡ capped (y + further_length v []) → arguments_from (length_at d) d x i n ≡ capped (y + further_length v (trees_from d i n))
unfolding arguments_from further_length trees_from length_at
arguments-right d v zero x y i h = h
arguments-right d v (suc n) x y i h =
    arguments-right d v n (capped (x + (2 + capped (type_length (ty_at d (argument_at d i)))))) (y + (2 + type_length (ty_at d (argument_at d i)))) (i + 1) (omega (arith, h))
    ∙ omega arith

parameters_further : (v : Bool) (t : Ty) (ts : List Ty) → 2 + parameters_length v (t ∷ ts) ≡ further_length v (t ∷ ts)
unfolding parameters_length further_length
parameters_further v t ts = omega arith

none-length : (v : Bool) → parameters_length v [] ≡ cond v 4 5
unfolding parameters_length
none-length v = refl

further_none : (v : Bool) → further_length v [] ≡ cond v 6 0
unfolding further_length
further_none v = refl

trees_some : (d : List ℕ) (i n : ℕ) (v : Bool) → 1 ≤ n → 2 + parameters_length v (trees_from d i n) ≡ further_length v (trees_from d i n)
unfolding trees_from
trees_some d i zero v h = absurd (omega arith)
trees_some d i (suc n) v h = parameters_further v (ty_at d (argument_at d i)) (trees_from d (i + 1) n)

back-right : (d : List ℕ) → capped (cond (is_void d) 5 (length_at d (return_in d))) ≡ capped (result_length (result_of (returned_by d)))
unfolding returned_by length_at
back-right d = by (is_void d) refl
  where
    by : (b : Bool) → is_void d ≡ b → capped (cond b 5 (capped (type_length (ty_at d (return_in d))))) ≡ capped (result_length (result_of (cond b void (returned (ty_at d (return_in d))))))
    by true e = refl
    by false e = omega arith

when_none : (d : List ℕ) → capped (cond (is_void d) 5 (length_at d (return_in d)) + 8 + cond (eqb (variadic_in d) 1) 4 5)
    ≡ capped (result_length (result_of (returned_by d)) + 8 + parameters_length (eqb (variadic_in d) 1) (trees_from d 0 0))
unfolding trees_from
when_none d = omega (arith, back-right d, none-length (eqb (variadic_in d) 1))

whole-right : (d : List ℕ) → whole_from (length_at d) d ≡ capped (declaration_length (declaration_of d))
unfolding whole_from declaration_length declaration_of
whole-right d = by (eqb (named_in d) 0) refl
  where
    by : (b : Bool) → eqb (named_in d) 0 ≡ b
        → cond b (capped (cond (is_void d) 5 (length_at d (return_in d)) + 8 + cond (eqb (variadic_in d) 1) 4 5))
        (arguments_from (length_at d) d (capped (cond (is_void d) 5 (length_at d (return_in d)) + 6 + cond (eqb (variadic_in d) 1) 6 0)) 0 (named_in d))
        ≡ capped (result_length (result_of (returned_by d)) + 8 + parameters_length (eqb (variadic_in d) 1) (trees_from d 0 (named_in d)))
    by true e =
        rw (eqb-true (named_in d) 0 e)
        (when_none d)
    by false e =
        let z = eqb-false (named_in d) 0 e in
        arguments-right d (eqb (variadic_in d) 1) (named_in d) (capped (cond (is_void d) 5 (length_at d (return_in d)) + 6 + cond (eqb (variadic_in d) 1) 6 0)) (result_length (result_of (returned_by d)) + 6) 0
        (omega (arith, back-right d, further_none (eqb (variadic_in d) 1)))
        ∙ omega (arith, trees_some d 0 (named_in d) (eqb (variadic_in d) 1) (omega arith))

-- 25 is decided before anything is written: the length of the text, at most 4,097
pub text-length : (d : List ℕ) → uses_refusal d ≡ 0 → whole_from (length_at d) d ≡ capped (length (written_text d))
unfolding written_text
text-length d right = whole-right d ∙ ap capped (sym (declaration_length_lem (declaration_of d) (declarable d right)))
