-- Each token of a declaration holds together, so that its text is cut into these tokens. Assumes nothing.
use mathlib.Core.Path.{◌≡◌, refl}
use mathlib.Core.Bool.{Bool, true, false}
use mathlib.Core.List.{List, [], ◌∷◌, ◌++◌}
use Prim.Native.Nat.{ℕ, suc, ◌<◌}
use native.Mathlib.Omega.{arith}
use Rattle.types.specs.Tree.{Ty, Tys, basic, array, struct, union, none, more}
use Rattle.listing.specs.Decimal.{decimal}
use Rattle.listing.specs.Characters.{bytes}
use Rattle.grammar.specs.Tokens.{class_of, cut}
use Rattle.grammar.specs.Meaning.{Result, void, gives}
use Rattle.grammar.proofs.Live.{holds, all_hold, hold-append, cut-spaced}
use Rattle.declaring.specs.Writing.{words, words_of, member_name, sizes_of, type_tokens, member_tokens, Declaration, result_tokens, further_tokens, parameter_tokens, declaration_tokens, declaration_text}
use Rattle.declaring.specs.Written.{Writable, AllWritable, AllPassed, PassedBack, Declarable}
use Rattle.declaring.proofs.Cases.{each}
use Rattle.declaring.proofs.Numerals.{number-holds, name_holds}

words-hold : (c : ℕ) → c < 17 → all_hold (words_of c) ≡ true
unfolding words_of words class_of
words-hold c h = each (λ c. all_hold (words_of c) ≡ true) 17 0 (refl, (refl, (refl, (refl, (refl, (refl, (refl, (refl, (refl, (refl, (refl, (refl, (refl, (refl, (refl, (refl, (refl, tt))))))))))))))))) c (omega arith) h

cons_hold : (w : List ℕ) (ts : List (List ℕ)) → holds w ≡ true → all_hold ts ≡ true → all_hold (w ∷ ts) ≡ true
cons_hold w ts h k = rw h k

sizes-hold : (t : Ty) → all_hold (sizes_of t) ≡ true
unfolding sizes_of class_of
sizes-hold (basic c) = refl
sizes-hold (array t n) = cons_hold (decimal n) (bytes "]" ∷ sizes_of t) (number-holds n) (sizes-hold t)
sizes-hold (struct ts) = refl
sizes-hold (union ts) = refl

braces_hold : (ts : List (List ℕ)) → all_hold ts ≡ true → all_hold (ts ++ (bytes "}" ∷ [])) ≡ true
unfolding class_of
braces_hold ts h = hold-append ts (bytes "}" ∷ []) h refl

struct_holds : (ts : List (List ℕ)) → all_hold ts ≡ true → all_hold (bytes "struct" ∷ bytes "{" ∷ ts) ≡ true
unfolding class_of
struct_holds ts h = h

union-holds : (ts : List (List ℕ)) → all_hold ts ≡ true → all_hold (bytes "union" ∷ bytes "{" ∷ ts) ≡ true
unfolding class_of
union-holds ts h = h

semicolon_holds : (ts : List (List ℕ)) → all_hold ts ≡ true → all_hold (bytes ";" ∷ ts) ≡ true
unfolding class_of
semicolon_holds ts h = h

comma_holds : (ts : List (List ℕ)) → all_hold ts ≡ true → all_hold (bytes "," ∷ ts) ≡ true
unfolding class_of
comma_holds ts h = h

mutual
  unfolding type_tokens Writable

  type-holds : (t : Ty) → Writable t → all_hold (type_tokens t) ≡ true
  type-holds (basic c) h = words-hold c h
  type-holds (array t n) h = type-holds t h.1
  type-holds (struct ts) h = struct_holds (member_tokens 0 ts ++ (bytes "}" ∷ [])) (braces_hold (member_tokens 0 ts) (members-hold ts h.1 0))
  type-holds (union ts) h = union-holds (member_tokens 0 ts ++ (bytes "}" ∷ [])) (braces_hold (member_tokens 0 ts) (members-hold ts h.1 0))

  members-hold : (ts : Tys) → AllWritable ts → (i : ℕ) → all_hold (member_tokens i ts) ≡ true
  members-hold none h i = refl
  members-hold (more t ts) h i =
      hold-append (type_tokens t) (member_name i ∷ (sizes_of t ++ (bytes ";" ∷ member_tokens (suc i) ts))) (type-holds t h.0)
      (cons_hold (member_name i) (sizes_of t ++ (bytes ";" ∷ member_tokens (suc i) ts)) (name_holds i)
      (hold-append (sizes_of t) (bytes ";" ∷ member_tokens (suc i) ts) (sizes-hold t) (semicolon_holds (member_tokens (suc i) ts) (members-hold ts h.1 (suc i)))))

further_none_hold : (v : Bool) → all_hold (further_tokens v []) ≡ true
unfolding further_tokens class_of
further_none_hold true = refl
further_none_hold false = refl

further_hold : (v : Bool) (ts : List Ty) → AllPassed ts → all_hold (further_tokens v ts) ≡ true
unfolding further_tokens AllPassed
further_hold v [] h = further_none_hold v
further_hold v (t ∷ ts) h = comma_holds (type_tokens t ++ further_tokens v ts) (hold-append (type_tokens t) (further_tokens v ts) (type-holds t h.0.0) (further_hold v ts h.1))

parameters_none_hold : (v : Bool) → all_hold (parameter_tokens v []) ≡ true
unfolding parameter_tokens class_of
parameters_none_hold true = refl
parameters_none_hold false = refl

parameters_hold : (v : Bool) (ts : List Ty) → AllPassed ts → all_hold (parameter_tokens v ts) ≡ true
unfolding parameter_tokens AllPassed
parameters_hold v [] h = parameters_none_hold v
parameters_hold v (t ∷ ts) h = hold-append (type_tokens t) (further_tokens v ts) (type-holds t h.0.0) (further_hold v ts h.1)

result-holds : (r : Result) → PassedBack r → all_hold (result_tokens r) ≡ true
unfolding class_of
result-holds void h = refl
result-holds (gives t) h = type-holds t h.0

called-holds : (ts : List (List ℕ)) → all_hold ts ≡ true → all_hold (bytes "f" ∷ bytes "(" ∷ (ts ++ (bytes ")" ∷ bytes ";" ∷ []))) ≡ true
unfolding class_of
called-holds ts h = hold-append ts (bytes ")" ∷ bytes ";" ∷ []) h refl

declaration_holds : (d : Declaration) → Declarable d → all_hold (declaration_tokens d) ≡ true
unfolding declaration_tokens
declaration_holds d h =
    hold-append (result_tokens d.returns) (bytes "f" ∷ bytes "(" ∷ (parameter_tokens d.variadic d.arguments ++ (bytes ")" ∷ bytes ";" ∷ []))) (result-holds d.returns h.back)
    (called-holds (parameter_tokens d.variadic d.arguments) (parameters_hold d.variadic d.arguments h.all))

pub declaration_cut : (d : Declaration) → Declarable d → cut (declaration_text d) ≡ declaration_tokens d
unfolding declaration_text
declaration_cut d h = cut-spaced (declaration_tokens d) (declaration_holds d h)
