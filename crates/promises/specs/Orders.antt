-- The orders of refusal of all calls, in one place: document 01, "Refusal numbers", the paragraph that begins "Order". Each condition is a definition
-- of the crate that its sentence belongs to, of any bytes. Assumes nothing: these are definitions.
use Rattle.std.specs.Prelude.{Bool, not, ◌||◌, List, [], ◌∷◌, ◌++◌, ℕ, leb, length}
use Rattle.description.specs.Description.{model_in}
use Rattle.form.specs.Conditions.{too_short, wrong_mark, wrong_version, wrong_counts, wrong_length, wrong_record}
use Rattle.form.specs.Order.{Rule, rule}
use Rattle.types.specs.Large.{too_large}
use Rattle.questions.specs.Questions.{not_below}
use Rattle.questions.specs.Offsets.{short_offsets}
use Rattle.uses.specs.Uses.{wrong_use, narrow_unnamed}
use Rattle.layout.specs.Arguments.{hidden}
use Rattle.layout.specs.Verdict.{wide_area}
use Rattle.layout.specs.Layout.{layout_of}
use Rattle.layout.specs.Lists.{short_list}
use Rattle.moving.specs.Address.{wrong_address}
use Rattle.moving.specs.Images.{amd64}
use Rattle.tidying.specs.Answers.{too_many, other_length}
use Rattle.moving.specs.Orders.{wrong_bool, wrong_length as wrong_lengths}
use Rattle.returning.specs.Returned.{return_length}
use Rattle.returning.specs.Orders.{wrong_length as wrong_return_lengths, wrong_bool as wrong_returned_bool}
use Rattle.station.specs.declared.Station.{Station}
use Rattle.station.specs.Paper.{kcb}
use Rattle.station.specs.Attachment.{wrong_seat, described}
use Rattle.walk.specs.declared.Walk.{Walk}
use Rattle.walk.specs.Orders.{Ask, asking, wrong_registers, other_number, astray, at_end, other_type, wrong_stack, wrong_out}
use Rattle.finishing.specs.Rest.{AskRest, step_ask, wrong_count, other_types, wrong_room}

-- what the calls look at that look at less: the form, sizes, uses
abbrev pub form_order : List ℕ → List Rule
form_order d =
    rule 1 (too_short d) ∷ rule 2 (wrong_mark d) ∷ rule 3 (wrong_version d) ∷ rule 4 (wrong_counts d) ∷ rule 5 (wrong_length d) ∷ rule 6 (wrong_record d) ∷ []

abbrev pub types_order : List ℕ → List Rule
types_order d = form_order d ++ rule 7 (too_large (model_in d) d) ∷ []

abbrev pub uses_order : List ℕ → List Rule
uses_order d = types_order d ++ rule 8 (wrong_use d) ∷ rule 9 (narrow_unnamed d) ∷ []

-- "Order: 1..10 as numbered, each over the whole description"
abbrev pub check_order : List ℕ → List Rule
check_order d = uses_order d ++ rule 10 (wide_area d) ∷ []

-- request 2026-10, whether the stack is needed: "1..9 as before; 10 is not given here"
abbrev pub need_order : List ℕ → List Rule
need_order d = uses_order d

-- "A question about one type (size, alignment, classes, run): 1..7, then 8 for a type number not below T; arrays are answered"
abbrev pub question_order : List ℕ → ℕ → List Rule
question_order d t = types_order d ++ rule 8 (not_below d t) ∷ []

-- the offsets of a type's members, for a list of so many: as the other questions about one type, then 11
abbrev pub offsets_order : List ℕ → ℕ → ℕ → List Rule
offsets_order d t room = question_order d t ++ rule 11 (short_offsets d t room) ∷ []

-- "Layout: 1..10, 11", for a list of so many records
abbrev pub layout_order : List ℕ → ℕ → List Rule
layout_order d room = check_order d ++ rule 11 (short_list d room) ∷ []

-- "Placing and gathering: 1..10, 11, then 12 (placing only)", by the lengths of values and images; request 2026-11: "27, after 11 in placing and putting",
-- and so before 12; request 2026-06: "11 covers the new image"
abbrev pub gather_order : List ℕ → ℕ → ℕ → ℕ → ℕ → List Rule
gather_order d values_length registers_length upper_length stack_length =
    check_order d ++ rule 11 (wrong_lengths (layout_of d) values_length registers_length upper_length stack_length) ∷ []

abbrev pub place_order : List ℕ → ℕ → List ℕ → ℕ → ℕ → ℕ → List Rule
place_order d h values registers_length upper_length stack_length =
    check_order d ++ rule 11 (wrong_lengths (layout_of d) (length values) registers_length upper_length stack_length)
    ∷ rule 27 (wrong_address (model_in d) (hidden d) h) ∷ rule 12 (wrong_bool amd64 d values) ∷ []

-- request 2026-02: "after 1..10, 11 for lengths .., then 12 for a returned _Bool byte not 0 or 1, in putting only"
abbrev pub take_order : List ℕ → List ℕ → List ℕ → ℕ → List Rule
take_order d image upper value_length = check_order d ++ rule 11 (wrong_return_lengths (return_length d) value_length (length image) (length upper)) ∷ []

abbrev pub put_order : List ℕ → ℕ → List ℕ → ℕ → ℕ → List Rule
put_order d h value image_length upper_length =
    check_order d ++ rule 11 (wrong_return_lengths (return_length d) (length value) image_length upper_length)
    ∷ rule 27 (wrong_address (model_in d) (hidden d) h) ∷ rule 12 (wrong_returned_bool d value) ∷ []

-- request 2026-03: "after 10, 29 where the separate runs need over 255 members, then 11 where the lent out buffer is not of the tidy length"; the question for that
-- length has no buffer
abbrev pub tidy_length_order : List ℕ → List Rule
tidy_length_order d = check_order d ++ rule 29 (too_many d) ∷ []

abbrev pub tidy_order : List ℕ → ℕ → List Rule
tidy_order d room = check_order d ++ rule 29 (too_many d) ∷ rule 11 (other_length d room) ∷ []

-- "Attach: 11, 14, 15, 1..10"
abbrev pub attach_order : Station → List ℕ → List ℕ → List Rule
attach_order s seat d =
    rule 11 (wrong_seat s seat) ∷ rule 14 s.attached ∷ rule 15 (leb 4294967295 s.number) ∷ check_order d

-- "Detach: 11, 13"
abbrev pub detach_order : Station → List ℕ → List Rule
detach_order s seat = rule 11 (wrong_seat s seat) ∷ rule 13 (not s.attached) ∷ []

-- request 2026-09: "11 first, then those of attach without 14"
abbrev pub change_order : Station → List ℕ → List ℕ → List Rule
change_order s seat d = rule 11 (wrong_seat s seat) ∷ rule 15 (leb 4294967295 s.number) ∷ check_order d

-- "Open: 11, 13, 1..10, 16"; "Open and step read the description in the seat at the station's length"
abbrev pub open_order : Station → List ℕ → List Rule
open_order s seat =
    rule 11 (wrong_seat s seat) ∷ rule 13 (not s.attached) ∷ check_order (described s seat) ++ rule 16 (not (kcb.variadic (described s seat))) ∷ []

-- "Step: 11 for seat, station and register image, 13, 1..10, 17, 18, 19, 20, then 11 for" what comes late
abbrev pub walk_order : Station → List ℕ → Walk → Ask → Bool → List Rule
walk_order s seat w a late =
    rule 11 (wrong_seat s seat || wrong_registers kcb a) ∷ rule 13 (not s.attached) ∷ check_order (described s seat)
    ++ rule 17 (other_number s w) ∷ rule 18 (astray kcb (described s seat) w) ∷ rule 19 (at_end kcb (described s seat) w)
    ∷ rule 20 (other_type kcb (described s seat) w a) ∷ rule 11 late ∷ []

-- ".. stack image and out buffer"
abbrev pub step_order : Station → List ℕ → Walk → Ask → List Rule
step_order s seat w a = walk_order s seat w a (wrong_stack kcb (described s seat) a || wrong_out kcb (described s seat) w a)

-- request 2026-05: "as for a step, but a number of types other than those remaining is 24, after 18, and 19 never occurs"
abbrev pub finish_order : Station → List ℕ → Walk → AskRest → List Rule
finish_order s seat w a =
    rule 11 (wrong_seat s seat || wrong_registers kcb (step_ask a 0 [])) ∷ rule 13 (not s.attached) ∷ check_order (described s seat)
    ++ rule 17 (other_number s w) ∷ rule 18 (astray kcb (described s seat) w) ∷ rule 24 (wrong_count kcb (described s seat) w a.asked)
    ∷ rule 20 (other_types kcb (described s seat) w a.asked)
    ∷ rule 11 (wrong_stack kcb (described s seat) (asking [] a.stack 0 []) || wrong_room kcb (described s seat) w (length a.out)) ∷ []

-- "A second call makes the same checks but for the out buffer .. A third call gives the second's refusal number"
abbrev pub show_order : Station → List ℕ → Walk → Ask → List Rule
show_order s seat w a = walk_order s seat w a (wrong_stack kcb (described s seat) a)
