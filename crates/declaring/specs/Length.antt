-- How long the text of a declaration is, without the text: request 2026-08, "25 text too long, the writer's included". Assumes nothing: these are definitions.
use Rattle.std.specs.Prelude.{Bool, true, false, cond, List, [], ◌∷◌, ℕ, suc, ◌+◌, min, length, get_or}
use Rattle.types.specs.Tree.{Ty, Tys, basic, array, struct, union, none, more}
use Rattle.listing.specs.Decimal.{decimal}
use Rattle.grammar.specs.Meaning.{Result, void, gives}
use Rattle.declaring.specs.Writing.{Declaration}

-- the words of each code, a space behind each
abbrev pub word_lengths : List ℕ
word_lengths = 6 ∷ 5 ∷ 6 ∷ 4 ∷ 10 ∷ 9 ∷ 6 ∷ 7 ∷ 12 ∷ 11 ∷ 6 ∷ 7 ∷ 15 ∷ 16 ∷ 21 ∷ 7 ∷ 7 ∷ []

abbrev pub words_length : ℕ → ℕ
words_length c = get_or word_lengths c 0

-- "struct { } " or "union { } "
abbrev pub braces_length : Bool → ℕ
braces_length true = 10
braces_length false = 11

-- a name and a semicolon, "m12 ; "; a size, "[ 12 ] "
abbrev pub name_length : ℕ → ℕ
name_length i = 4 + length (decimal i)

abbrev pub size_length : ℕ → ℕ
size_length n = 5 + length (decimal n)

-- a type with its sizes
unfoldable mutual
  pub type_length : Ty → ℕ
  type_length (basic c) = words_length c
  type_length (array t n) = type_length t + size_length n
  type_length (struct ts) = braces_length false + members_length 0 ts
  type_length (union ts) = braces_length true + members_length 0 ts

  pub members_length : ℕ → Tys → ℕ
  members_length i none = 0
  members_length i (more t ts) = (type_length t + name_length i) + members_length (suc i) ts

abbrev pub result_length : Result → ℕ
result_length void = 5
result_length (gives t) = type_length t

-- behind an argument
unfoldable pub further_length : Bool → List Ty → ℕ
further_length variadic [] = cond variadic 6 0
further_length variadic (t ∷ ts) = (2 + type_length t) + further_length variadic ts

unfoldable pub parameters_length : Bool → List Ty → ℕ
parameters_length variadic [] = cond variadic 4 5
parameters_length variadic (t ∷ ts) = type_length t + further_length variadic ts

-- "f ( " and ") ; "
unfoldable pub declaration_length : Declaration → ℕ
declaration_length d = (result_length d.returns + 8) + parameters_length d.variadic d.arguments

-- a length that is over 4,096 is 4,097
abbrev pub capped : ℕ → ℕ
capped n = min 4097 n
