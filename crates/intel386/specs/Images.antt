-- The image of a call of the 386 kind, and its orders: document 02, request 2026-12, "The same one-place and no-shared-image properties hold", "27 as for
-- ILP32, in placing". Of any bytes. Assumes nothing: these are definitions.
use Rattle.std.specs.Prelude.{Bool, not, ◌||◌, List, [], ◌∷◌, ℕ, eqb}
use Rattle.description.specs.declared.Model.TheVariants.{Ilp32}
use Rattle.form.specs.Order.{rule}
use Rattle.moving.specs.Address.{wrong_address}
use Rattle.moving.specs.Frames.{Frame}
use Rattle.moving.specs.Movers.{Mover}
use Rattle.old_types.specs.Conditions.{refusal_for}
use Rattle.intel386.specs.Arguments.{hidden, address_for, area_of, addresses_of, values_of, value_start}
use Rattle.intel386.specs.Verdict.{check_order}

-- one image: the other two have no bytes
abbrev pub frame_of : List ℕ → Frame
frame_of d = record { places = addresses_of d; address = address_for (hidden d); registers = 0; upper = 0; stack = area_of d }

-- 11: "a lent buffer of wrong length", where there are no other images
unfoldable pub wrong_length : List ℕ → ℕ → ℕ → ℕ → ℕ → Bool
wrong_length d values_length registers_length upper_length stack_length =
    not (eqb values_length (values_of d)) || (not (eqb registers_length 0) || (not (eqb upper_length 0) || not (eqb stack_length (area_of d))))

-- placing and gathering: no vector register is used
abbrev pub old386 : Mover
old386 = record {
  frame = frame_of;
  start = value_start;
  order = check_order;
  wrong_length = wrong_length;
  address_order = λ d h. rule 27 (wrong_address Ilp32 (hidden d) h) ∷ [];
  count = λ d. record { 0 = 0 };
  told = refusal_for;
}
