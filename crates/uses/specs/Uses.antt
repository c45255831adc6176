-- What a call may use of a description's types: conditions 8 and 9 of document 01, "Refusal numbers", and the order 1 to 9.
-- Assumes nothing: these are definitions.
use Rattle.std.specs.Prelude.{Bool, not, ◌&&◌, ◌||◌, List, [], ◌∷◌, ◌++◌, ℕ, ◌-◌, ◌≤◌, ◌<◌, leb, ltb, eqb}
use Rattle.description.specs.Description.{types_in, named_in, arguments_in, return_in, kind_at, a_at, argument_at, Whole}
use Rattle.form.specs.Search.{first_from}
use Rattle.form.specs.Order.{Rule, rule, first}
use Rattle.types.specs.Large.{types_order}

-- a "number not below T .. or an array": no type that is passed or returned by itself
unfoldable pub wrong_number : List ℕ → ℕ → Bool
wrong_number d t = leb (types_in d) t || eqb (kind_at d t) 1

-- "255 return apart": void
unfoldable pub wrong_return : List ℕ → Bool
wrong_return d = not (eqb (return_in d) 255) && wrong_number d (return_in d)

abbrev pub wrong_argument : List ℕ → ℕ → Bool
wrong_argument d i = wrong_number d (argument_at d i)

-- the first argument with such a number, or A where there is none
abbrev pub first_wrong : List ℕ → ℕ
first_wrong d = first_from (wrong_argument d) 0 (arguments_in d)

-- 8: "return or argument number not below T (255 return apart), or an array"
unfoldable pub wrong_use : List ℕ → Bool
wrong_use d = wrong_return d || ltb (first_wrong d) (arguments_in d)

-- a "_Bool, char, short or float": codes 0, 1, 2 and 6
unfoldable pub narrow : List ℕ → ℕ → Bool
narrow d k = eqb (kind_at d k) 0 && (leb (a_at d k) 2 || eqb (a_at d k) 6)

abbrev pub narrow_argument : List ℕ → ℕ → Bool
narrow_argument d i = narrow d (argument_at d i)

-- the first such argument among the unnamed ones, from N on, or A where there is none
abbrev pub first_narrow : List ℕ → ℕ
first_narrow d = first_from (narrow_argument d) (named_in d) (arguments_in d - named_in d)

-- 9: "an unnamed _Bool, char, short or float"
unfoldable pub narrow_unnamed : List ℕ → Bool
narrow_unnamed d = ltb (first_narrow d) (arguments_in d)

-- 8 and 9
abbrev pub passing_order : List ℕ → List Rule
passing_order d = rule 8 (wrong_use d) ∷ rule 9 (narrow_unnamed d) ∷ []

-- 1 to 9
abbrev pub uses_order : List ℕ → List Rule
uses_order d = types_order d ++ passing_order d

-- which of 1 to 9 refuses the description, or 0
unfoldable pub uses_refusal : List ℕ → ℕ
uses_refusal d = first (uses_order d)

-- the arguments have types, and the named ones are among them
pub record Typed (d : List ℕ) : Type 0 where
  pub whole : Whole d
  pub below : (i : ℕ) → i < arguments_in d → argument_at d i < types_in d
  pub named : named_in d ≤ arguments_in d
