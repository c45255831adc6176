-- The length of the text of a declaration is what the definition without the text says. Assumes nothing.
use mathlib.Core.Path.{◌≡◌, refl, ap}
use mathlib.Core.Bool.{Bool, true, false}
use mathlib.Core.List.{List, [], ◌∷◌, ◌++◌}
use Prim.Native.Nat.{ℕ, suc, ◌+◌, ◌<◌}
use native.Mathlib.Omega.{arith}
use lib.ListN.{length, length-append}
use Rattle.types.specs.Tree.{Ty, Tys, basic, array, struct, union, none, more}
use Rattle.listing.specs.Decimal.{decimal}
use Rattle.listing.specs.Characters.{bytes}
use Rattle.grammar.specs.Tokens.{spaced}
use Rattle.grammar.specs.Meaning.{Result, void, gives}
use Rattle.declaring.specs.Writing.{words, words_of, member_name, sizes_of, type_tokens, member_tokens, Declaration, result_tokens, further_tokens, parameter_tokens, declaration_tokens, declaration_text}
use Rattle.declaring.specs.Written.{Writable, AllWritable, NoArray, Passed, AllPassed, PassedBack, Declarable}
use Rattle.declaring.specs.Length.{words_length, name_length, size_length, type_length, members_length, result_length, further_length, parameters_length, declaration_length}
use Rattle.declaring.proofs.Cases.{each}

-- the length of tokens
abbrev many : List (List ℕ) → ℕ
many ts = length (spaced ts)

many-cons : (w : List ℕ) (ts : List (List ℕ)) → many (w ∷ ts) ≡ length w + (1 + many ts)
many-cons w ts = omega (arith, length-append w (32 ∷ spaced ts))

many-append : (us vs : List (List ℕ)) → many (us ++ vs) ≡ many us + many vs
many-append [] vs = omega arith
many-append (w ∷ us) vs = omega (arith, many-cons w (us ++ vs), many-cons w us, many-append us vs)

words-many : (c : ℕ) → c < 17 → many (words_of c) ≡ words_length c
unfolding words_of words
words-many c h = each (λ c. many (words_of c) ≡ words_length c) 17 0 (refl, (refl, (refl, (refl, (refl, (refl, (refl, (refl, (refl, (refl, (refl, (refl, (refl, (refl, (refl, (refl, (refl, tt))))))))))))))))) c (omega arith) h

size-many : (n : ℕ) (ts : List (List ℕ)) → many (bytes "[" ∷ decimal n ∷ bytes "]" ∷ ts) ≡ size_length n + many ts
size-many n ts = omega (arith, many-cons (decimal n) (bytes "]" ∷ ts))

member-many : (i : ℕ) (us ts : List (List ℕ)) → many (member_name i ∷ (us ++ (bytes ";" ∷ ts))) ≡ many us + name_length i + many ts
member-many i us ts = omega (arith, many-cons (member_name i) (us ++ (bytes ";" ∷ ts)), many-append us (bytes ";" ∷ ts))

braces_many : (us : List (List ℕ)) → many (us ++ (bytes "}" ∷ [])) ≡ many us + 2
braces_many us = omega (arith, many-append us (bytes "}" ∷ []))

-- a type without its sizes, and with them
mutual
  unfolding type_tokens sizes_of type_length Writable

  type-length : (t : Ty) → Writable t → many (type_tokens t) + many (sizes_of t) ≡ type_length t
  type-length (basic c) h = omega (arith, words-many c h)
  type-length (array t n) h = omega (arith, type-length t h.1, size-many n (sizes_of t))
  type-length (struct ts) h = omega (arith, members-length ts h.1 0, braces_many (member_tokens 0 ts))
  type-length (union ts) h = omega (arith, members-length ts h.1 0, braces_many (member_tokens 0 ts))

  members-length : (ts : Tys) → AllWritable ts → (i : ℕ) → many (member_tokens i ts) ≡ members_length i ts
  members-length none h i = refl
  members-length (more t ts) h i =
      omega (arith, type-length t h.0, members-length ts h.1 (suc i), many-append (type_tokens t) (member_name i ∷ (sizes_of t ++ (bytes ";" ∷ member_tokens (suc i) ts))), member-many i (sizes_of t) (member_tokens (suc i) ts))

no_sizes : (t : Ty) → NoArray t → sizes_of t ≡ []
unfolding sizes_of
no_sizes (basic c) h = refl
no_sizes (array t n) h = absurd h
no_sizes (struct ts) h = refl
no_sizes (union ts) h = refl

passed_length : (t : Ty) → Passed t → many (type_tokens t) ≡ type_length t
passed_length t h = omega (arith, type-length t h.0, ap many (no_sizes t h.1))

further_length_lem : (v : Bool) (ts : List Ty) → AllPassed ts → many (further_tokens v ts) ≡ further_length v ts
unfolding further_tokens further_length AllPassed
further_length_lem true [] h = refl
further_length_lem false [] h = refl
further_length_lem v (t ∷ ts) h = omega (arith, passed_length t h.0, further_length_lem v ts h.1, many-append (type_tokens t) (further_tokens v ts))

parameters_length_lem : (v : Bool) (ts : List Ty) → AllPassed ts → many (parameter_tokens v ts) ≡ parameters_length v ts
unfolding parameter_tokens parameters_length AllPassed
parameters_length_lem true [] h = refl
parameters_length_lem false [] h = refl
parameters_length_lem v (t ∷ ts) h = omega (arith, passed_length t h.0, further_length_lem v ts h.1, many-append (type_tokens t) (further_tokens v ts))

result-length : (r : Result) → PassedBack r → many (result_tokens r) ≡ result_length r
result-length void h = refl
result-length (gives t) h = passed_length t h

pub declaration_length_lem : (d : Declaration) → Declarable d → length (declaration_text d) ≡ declaration_length d
unfolding declaration_text declaration_tokens declaration_length
declaration_length_lem d h =
    omega (
      arith,
      result-length d.returns h.back,
      parameters_length_lem d.variadic d.arguments h.all,
      many-append (result_tokens d.returns) (bytes "f" ∷ bytes "(" ∷ (parameter_tokens d.variadic d.arguments ++ (bytes ")" ∷ bytes ";" ∷ []))),
      many-append (parameter_tokens d.variadic d.arguments) (bytes ")" ∷ bytes ";" ∷ []),
    )
