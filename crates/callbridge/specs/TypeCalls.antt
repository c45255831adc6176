-- What the questions and the layout of the C interface give, by the library's answer: include/callbridge.h. Assumes nothing: these are definitions.
use Rattle.std.specs.Prelude.{Err, None, Ok, Option, Result, Some, ℕ}
use Rattle.form.specs.declared.Refusal.{Refusal}
use Rattle.form.specs.Reading.{refusal_of}
use Rattle.types.specs.declared.Extent.{Extent}
use Rattle.flat.specs.declared.Classes.{Classes}
use Rattle.flat.specs.declared.Part.{Part}
use Rattle.flat.specs.Records.{classes_of}
use Rattle.flat.specs.Parts.{nowhere, of_description}
use Rattle.units.specs.declared.Bytes.{Bytes}
use Rattle.classes.specs.declared.Class.{Class}

-- cb_type_extent
abbrev pub extent_given : Result Extent Refusal → Result Extent Refusal
extent_given (Ok e) = Ok e
extent_given (Err r) = Err r

-- cb_type_classes: the numbers of enum cb_class
abbrev pub classes_given : Result (Class × Class × Class × Class) Refusal → Result Classes Refusal
classes_given (Ok cs) = Ok (classes_of cs)
classes_given (Err r) = Err r

-- cb_member_run, one byte for each member: a part is an answer, and "the empty part for a refusal or another kind"
abbrev pub run_part : Result (Option (Bytes × ℕ)) Refusal → Part
run_part (Ok (Some (o, n))) = of_description o (record { 0 = n })
run_part (Ok None) = nowhere
run_part (Err r) = nowhere

abbrev pub run_refusal : Result (Option (Bytes × ℕ)) Refusal → Refusal
run_refusal (Ok (Some (o, n))) = refusal_of 0
run_refusal (Ok None) = refusal_of 0
run_refusal (Err r) = r
