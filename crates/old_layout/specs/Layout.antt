-- What a layout of the 386 kind answers: document 02, request 2026-12. Assumes nothing: these are definitions.
use Rattle.std.specs.Prelude.{cond, ◌&&◌, List, ℕ, leb, eqb, Err, Ok, Result}
use Rattle.description.specs.Description.{named_in, return_in, kind_at, a_at}
use Rattle.form.specs.declared.Refusal.{Refusal}
use Rattle.types.specs.Decode.{ty_at}
use Rattle.layout.specs.Arguments.{is_void}
use Rattle.old_types.specs.Size.{size_ty}
use Rattle.old_types.specs.Conditions.{refusal_for}
use Rattle.intel386.specs.Arguments.{hidden, used_at, area_of, values_of}
use Rattle.intel386.specs.Verdict.{verdict}
use Rattle.old_layout.specs.declared.OldReturn.{OldReturn}
use Rattle.old_layout.specs.declared.OldReturn.TheVariants.{Void, Memory, Eax, EdxEax, St0}
use Rattle.old_layout.specs.declared.OldLayout.{OldLayout}

-- "Results are in eax, in edx and eax for 8-byte integers, or st0 for the floats": code 4 is long long, 6 to 8 are float, double and long double
unfoldable pub result_of : ℕ → OldReturn
result_of code = cond (eqb code 4) EdxEax (cond (leb 6 code && leb code 8) St0 Eax)

-- "Structs and unions return through a 4-byte hidden address"
unfoldable pub return_place : List ℕ → OldReturn
return_place d = cond (is_void d) Void (cond (leb 2 (kind_at d (return_in d))) Memory (result_of (a_at d (return_in d))))

-- the size of the returned type; void has none
unfoldable pub returned_size : List ℕ → ℕ
returned_size d = cond (is_void d) 0 (size_ty (ty_at d (return_in d)))

-- the 4 bytes of the hidden address, "which the callee pops"; a walk starts behind the named arguments
unfoldable pub layout_of : List ℕ → OldLayout
layout_of d = record {
  area = record { 0 = area_of d };
  values = record { 0 = values_of d };
  returns = return_place d;
  returned = record { 0 = returned_size d };
  hidden = hidden d;
  popped = record { 0 = cond (hidden d) 4 0 };
  start = record { 0 = (used_at d (named_in d)).stack.0 };
}

-- 1 to 6, 28, 7 to 10
unfoldable pub layout_answer : List ℕ → Result OldLayout Refusal
layout_answer d = cond (eqb (verdict d) 0) (Ok (layout_of d)) (Err (refusal_for d (verdict d)))
