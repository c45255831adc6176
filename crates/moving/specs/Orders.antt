-- When placing and gathering are refused: document 01, "Refusal numbers", "Placing and gathering: 1..10, 11, then 12 (placing only)".
-- Of any bytes, and the orders of any layout. Assumes nothing: these are definitions.
use Rattle.std.specs.Prelude.{◌≡◌, Bool, not, ◌&&◌, ◌||◌, List, [], ◌∷◌, ◌++◌, ℕ, ◌<◌, ltb, eqb, length, get_or}
use Rattle.description.specs.Description.{arguments_in, kind_at, a_at, argument_at}
use Rattle.form.specs.Search.{first_from}
use Rattle.form.specs.Order.{Rule, rule, first}
use Rattle.layout.specs.declared.Layout.{Layout}
use Rattle.moving.specs.Movers.{Mover}

-- 11: "a lent buffer of wrong length". The values are those of all arguments, "the register image is 176 bytes", the upper image is "a second lent image
-- of 128 bytes" whether or not anything stands in it, "the stack image is the rounded area"; neither less nor more
unfoldable pub wrong_length : Layout → ℕ → ℕ → ℕ → ℕ → Bool
wrong_length l values_length registers_length upper_length stack_length =
    not (eqb values_length l.values.0) || (not (eqb registers_length 176) || (not (eqb upper_length 128) || not (eqb stack_length l.area.0)))

-- a type whose own record is that of _Bool: kind 0, code 0
unfoldable pub is_bool : List ℕ → ℕ → Bool
is_bool d k = eqb (kind_at d k) 0 && eqb (a_at d k) 0

-- "A _Bool argument's byte must be 0 or 1; one inside an aggregate may be anything": of type k, and neither
unfoldable pub broken_byte : List ℕ → ℕ → ℕ → Bool
broken_byte d k byte = is_bool d k && ltb 1 byte

module _ (M : Mover) where
  -- and of argument i
  abbrev pub broken_bool : List ℕ → List ℕ → ℕ → Bool
  broken_bool d values i = broken_byte d (argument_at d i) (get_or values (M.start d i) 0)

  -- the first such argument, or A where there is none
  abbrev pub first_broken : List ℕ → List ℕ → ℕ
  first_broken d values = first_from (broken_bool d values) 0 (arguments_in d)

  -- 12: "_Bool argument byte not 0 or 1"
  unfoldable pub wrong_bool : List ℕ → List ℕ → Bool
  wrong_bool d values = ltb (first_broken d values) (arguments_in d)

  -- argument i's own record is that of _Bool, and its byte is neither 0 nor 1
  pub record BrokenAt (d values : List ℕ) (i : ℕ) : Type 0 where
    pub there : i < arguments_in d
    pub kind : kind_at d (argument_at d i) ≡ 0
    pub code : a_at d (argument_at d i) ≡ 0
    pub byte : 1 < get_or values (M.start d i) 0

  -- 1 to 11
  abbrev pub gather_order : List ℕ → ℕ → ℕ → ℕ → ℕ → List Rule
  gather_order d values_length registers_length upper_length stack_length =
      M.order d ++ rule 11 (M.wrong_length d values_length registers_length upper_length stack_length) ∷ []

  -- and, behind them, what refuses the hidden address h, then 12
  abbrev pub place_order : List ℕ → ℕ → List ℕ → ℕ → ℕ → ℕ → List Rule
  place_order d h values registers_length upper_length stack_length =
      gather_order d (length values) registers_length upper_length stack_length ++ (M.address_order d h ++ rule 12 (wrong_bool d values) ∷ [])

  -- which of them refuses gathering into so many value bytes, from images of these lengths; or 0
  unfoldable pub gather_refusal : List ℕ → ℕ → ℕ → ℕ → ℕ → ℕ
  gather_refusal d values_length registers_length upper_length stack_length = first (gather_order d values_length registers_length upper_length stack_length)

  -- and placing the hidden address h and these values
  unfoldable pub place_refusal : List ℕ → ℕ → List ℕ → ℕ → ℕ → ℕ → ℕ
  place_refusal d h values registers_length upper_length stack_length = first (place_order d h values registers_length upper_length stack_length)
