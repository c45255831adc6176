-- The worked cases hold, by computation. Assumes nothing.
use mathlib.Core.Path.{◌≡◌, refl}
use mathlib.Core.Bool.{true}
use mathlib.Core.List.{map}
use Rattle.description.specs.Description.{kind_at, a_at, count_at, member_at, argument_at}
use Rattle.types.specs.Decode.{tys_from, ty_by, ty_at}
use Rattle.layout.specs.Arguments.{is_void}
use Rattle.tidying.specs.Same.{same_ty}
use Rattle.tidying.specs.Call.{trees_from, returned_by, call_of}
use Rattle.tidying.specs.Numbering.{index_of, completed, reached, reached_by, reached_from, table_of}
use Rattle.tidying.specs.Tidy.{separate, records_of, numbers_of, runs_of, tidy_by, tidy_of}
use Rattle.tidying.specs.Answers.{tidied, too_many}
use Rattle.tidying.specs.Cases.{TidyCase, tidies, tidy_cases, wide_description}

abbrev pub got : TidyCase → TidyCase
got (tidies d bytes) = tidies d (tidied d)

pub tidy-cases : map got tidy_cases ≡ tidy_cases
unfolding kind_at a_at count_at member_at argument_at tys_from ty_by ty_at is_void same_ty trees_from returned_by call_of index_of completed reached reached_by reached_from table_of separate records_of numbers_of runs_of tidy_by tidy_of
tidy-cases = refl

pub wide_case : too_many wide_description ≡ true
unfolding kind_at a_at count_at member_at argument_at tys_from ty_by ty_at is_void same_ty trees_from returned_by call_of index_of completed reached reached_by reached_from table_of separate too_many
wide_case = refl
