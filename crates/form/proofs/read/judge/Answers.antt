-- `judge` meets its contract: at each return the tests passed are the conditions, in their order.
-- Assumes nothing.
use mathlib.Core.Path.{sym, ◌∙◌}
use native.Mathlib.Omega.{arith}
use borrow.Author.Tests.{lt-ltb, le-ltb}
use Rattle.description.specs.Description.{types_in}
use Rattle.form.specs.Conditions.{too_short, broken_record, first_broken, wrong_record}
use Rattle.form.specs.Order.{form_refusal}
use Rattle.form.specs.Reading.{refusal_of}
use Rattle.form.proofs.Form.{whole-right, counts-right}
use Rattle.form.proofs.Search.{within-some, within-none}
use Rattle.form.proofs.read.judge.Goals as goal

pub returns-then-d-lt11 : goal.returns-then-d-lt11
unfolding form_refusal too_short refusal_of
returns-then-d-lt11 c = rw (lt-ltb _ _ c.if-d-lt11.true, c.from.ensures)

pub returns-then-wrong_mark : goal.returns-then-wrong_mark
unfolding form_refusal too_short refusal_of
returns-then-wrong_mark c =
    rw (
      le-ltb _ _ c.if-d-lt11.false,
      sym c.wrong_mark.ensures ∙ c.if-wrong_mark.true,
      c.from-then-wrong_mark.ensures,
    )

pub returns-then-wrong_version : goal.returns-then-wrong_version
unfolding form_refusal too_short refusal_of
returns-then-wrong_version c =
    rw (
      le-ltb _ _ c.if-d-lt11.false,
      sym c.wrong_mark.ensures ∙ c.if-wrong_mark.false,
      sym c.wrong_version.ensures ∙ c.if-wrong_version.true,
      c.from-then-wrong_version.ensures,
    )

pub returns-then-wrong_counts : goal.returns-then-wrong_counts
unfolding form_refusal too_short refusal_of
returns-then-wrong_counts c =
    rw (
      le-ltb _ _ c.if-d-lt11.false,
      sym c.wrong_mark.ensures ∙ c.if-wrong_mark.false,
      sym c.wrong_version.ensures ∙ c.if-wrong_version.false,
      sym c.wrong_counts.ensures ∙ c.if-wrong_counts.true,
      c.from-then-wrong_counts.ensures,
    )

pub returns-then-wrong_length : goal.returns-then-wrong_length
unfolding form_refusal too_short refusal_of
returns-then-wrong_length c =
    rw (
      le-ltb _ _ c.if-d-lt11.false,
      sym c.wrong_mark.ensures ∙ c.if-wrong_mark.false,
      sym c.wrong_version.ensures ∙ c.if-wrong_version.false,
      sym c.wrong_counts.ensures ∙ c.if-wrong_counts.false,
      sym c.wrong_length.ensures ∙ c.if-wrong_length.true,
      c.from-then-wrong_length.ensures,
    )

pub first_broken-requires : goal.first_broken-requires
first_broken-requires c = whole-right _ c.if-d-lt11.false (sym c.wrong_length.ensures ∙ c.if-wrong_length.false)

pub of_type-requires : goal.of_type-requires
of_type-requires c =
    let d = c.args.d.now in
    omega (arith, within-some (broken_record d) 0 (types_in d) c.in-Some.k c.in-Some.ensures, counts-right d (sym c.wrong_counts.ensures ∙ c.if-wrong_counts.false))

pub returns-in-Some : goal.returns-in-Some
unfolding form_refusal too_short wrong_record
returns-in-Some c =
    let d = c.args.d.now in
    let found = within-some (broken_record d) 0 (types_in d) c.in-Some.k c.in-Some.ensures in
    rw (
      le-ltb _ _ c.if-d-lt11.false,
      sym c.wrong_mark.ensures ∙ c.if-wrong_mark.false,
      sym c.wrong_version.ensures ∙ c.if-wrong_version.false,
      sym c.wrong_counts.ensures ∙ c.if-wrong_counts.false,
      sym c.wrong_length.ensures ∙ c.if-wrong_length.false,
      lt-ltb (first_broken d) (types_in d) (omega (arith, found)),
      found.0,
      c.of_type.ensures,
    )

pub returns : goal.returns
unfolding form_refusal too_short wrong_record
returns c =
    let d = c.args.d.now in
    rw (
      le-ltb _ _ c.if-d-lt11.false,
      sym c.wrong_mark.ensures ∙ c.if-wrong_mark.false,
      sym c.wrong_version.ensures ∙ c.if-wrong_version.false,
      sym c.wrong_counts.ensures ∙ c.if-wrong_counts.false,
      sym c.wrong_length.ensures ∙ c.if-wrong_length.false,
      le-ltb (first_broken d) (types_in d) (omega (arith, within-none (broken_record d) 0 (types_in d) (sym c.in_default.is ∙ c.first_broken.ensures))),
    )
