-- What a layout answers: registers used, vector count, area and its alignment, length of the packed values, return place, size of the returned value, walk start.
-- Assumes nothing: these are definitions.
use Rattle.std.specs.Prelude.{cond, List, ℕ, eqb, Err, Ok, Result}
use Rattle.description.specs.Description.{types_in, named_in, arguments_in}
use Rattle.form.specs.declared.Refusal.{Refusal}
use Rattle.form.specs.Reading.{judgment}
use Rattle.types.specs.Wrong.{refusal_for}
use Rattle.types.specs.Table.{filled, sizes_after}
use Rattle.classify.specs.Table.{full_entry}
use Rattle.uses.specs.Uses.{uses_refusal}
use Rattle.places.specs.Places.{area_align}
use Rattle.places.specs.Images.{total}
use Rattle.layout.specs.Arguments.{shapes, return_place, returned_size, hidden, used_at, area_of}
use Rattle.layout.specs.Verdict.{verdict}
use Rattle.layout.specs.declared.Layout.{Layout}

-- "Values come packed, argument after argument, size bytes each, no gaps"
unfoldable pub values_of : List ℕ → ℕ
values_of d = total (shapes d)

-- "registers used (hidden address included), vector count" are those used after all arguments; a walk starts with "the offsets
-- after the named arguments (and hidden address)"
unfoldable pub layout_of : List ℕ → Layout
layout_of d = record {
  used = used_at d (arguments_in d);
  area = record { 0 = area_of d };
  align = record { 0 = area_align (used_at d (arguments_in d)) };
  values = record { 0 = values_of d };
  returns = return_place d;
  returned = record { 0 = returned_size d };
  hidden = hidden d;
  named = used_at d (named_in d);
}

-- "1..10"
unfoldable pub layout_answer : List ℕ → Result Layout Refusal
layout_answer d = cond (eqb (verdict d) 0) (Ok (layout_of d)) (Err (refusal_for d (verdict d)))

-- the verdict alone
unfoldable pub check_answer : List ℕ → Result (Unit {0}) Refusal
check_answer d = judgment (verdict d) (refusal_for d (verdict d))

-- the table once it is worked out: classes too, where none of 1 to 9 refuses
unfoldable pub table_after : List ℕ → List ℕ → List ℕ
table_after d table = cond (eqb (uses_refusal d) 0) (filled (full_entry d) (types_in d) (sizes_after d table)) (sizes_after d table)
