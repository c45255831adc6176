-- A declaration as text: request 2026-08, "a writer turns a description's named part back into a declaration". The tokens, each with a space
-- behind it. Assumes nothing: these are definitions.
use Rattle.std.specs.Prelude.{Bool, cond, List, [], ◌∷◌, ◌++◌, ℕ, suc, get_or}
use Rattle.types.specs.Tree.{Ty, Tys, basic, array, struct, union, none, more}
use Rattle.listing.specs.Decimal.{decimal}
use Rattle.listing.specs.Characters.{bytes}
use Rattle.grammar.specs.Tokens.{spaced}
use Rattle.grammar.specs.Meaning.{Result, void, gives}

-- the words of each code of document 01's table; "the writer writes code 4 as long long"
unfoldable pub words : List (List (List ℕ))
words =
    (bytes "_Bool" ∷ []) ∷
    (bytes "char" ∷ []) ∷
    (bytes "short" ∷ []) ∷
    (bytes "int" ∷ []) ∷
    (bytes "long" ∷ bytes "long" ∷ []) ∷
    (bytes "__int128" ∷ []) ∷
    (bytes "float" ∷ []) ∷
    (bytes "double" ∷ []) ∷
    (bytes "long" ∷ bytes "double" ∷ []) ∷
    (bytes "__float128" ∷ []) ∷
    (bytes "__m64" ∷ []) ∷
    (bytes "__m128" ∷ []) ∷
    (bytes "float" ∷ bytes "_Complex" ∷ []) ∷
    (bytes "double" ∷ bytes "_Complex" ∷ []) ∷
    (bytes "long" ∷ bytes "double" ∷ bytes "_Complex" ∷ []) ∷
    (bytes "void" ∷ bytes "*" ∷ []) ∷
    (bytes "__m256" ∷ []) ∷
    []

unfoldable pub words_of : ℕ → List (List ℕ)
words_of c = get_or words c []

-- the member in place i is called m0, m1, ..
abbrev pub member_name : ℕ → List ℕ
member_name i = 109 ∷ decimal i

-- the sizes of an array, the outermost first, in brackets
unfoldable pub sizes_of : Ty → List (List ℕ)
sizes_of (basic c) = []
sizes_of (array t n) = bytes "[" ∷ decimal n ∷ bytes "]" ∷ sizes_of t
sizes_of (struct ts) = []
sizes_of (union ts) = []

-- a type without its sizes, which stand behind the name of what has the type
unfoldable mutual
  pub type_tokens : Ty → List (List ℕ)
  type_tokens (basic c) = words_of c
  type_tokens (array t n) = type_tokens t
  type_tokens (struct ts) = bytes "struct" ∷ bytes "{" ∷ (member_tokens 0 ts ++ (bytes "}" ∷ []))
  type_tokens (union ts) = bytes "union" ∷ bytes "{" ∷ (member_tokens 0 ts ++ (bytes "}" ∷ []))

  -- members from place i on
  pub member_tokens : ℕ → Tys → List (List ℕ)
  member_tokens i none = []
  member_tokens i (more t ts) = type_tokens t ++ (member_name i ∷ (sizes_of t ++ (bytes ";" ∷ member_tokens (suc i) ts)))

-- what a prototype declares
pub record Declaration : Type 0 where
  pub returns : Result
  pub arguments : List Ty
  pub variadic : Bool

abbrev pub result_tokens : Result → List (List ℕ)
result_tokens void = bytes "void" ∷ []
result_tokens (gives t) = type_tokens t

-- behind an argument
unfoldable pub further_tokens : Bool → List Ty → List (List ℕ)
further_tokens variadic [] = cond variadic (bytes "," ∷ bytes "..." ∷ []) []
further_tokens variadic (t ∷ ts) = bytes "," ∷ (type_tokens t ++ further_tokens variadic ts)

unfoldable pub parameter_tokens : Bool → List Ty → List (List ℕ)
parameter_tokens variadic [] = cond variadic (bytes "..." ∷ []) (bytes "void" ∷ [])
parameter_tokens variadic (t ∷ ts) = type_tokens t ++ further_tokens variadic ts

unfoldable pub declaration_tokens : Declaration → List (List ℕ)
declaration_tokens d =
    result_tokens d.returns ++ (bytes "f" ∷ bytes "(" ∷ (parameter_tokens d.variadic d.arguments ++ (bytes ")" ∷ bytes ";" ∷ [])))

-- the text
unfoldable pub declaration_text : Declaration → List ℕ
declaration_text d = spaced (declaration_tokens d)
