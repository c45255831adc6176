-- `judge` meets its contract.
-- Assumes nothing.
use mathlib.Core.Path.{◌≡◌, sym, ◌∙◌}
use native.Mathlib.Omega.{arith}
use Rattle.std.proofs.lemmas.Result.{err_from_is_err_and}
use Rattle.description.specs.Description.{types_in}
use Rattle.form.proofs.Judgment.{passed, refused, judgment-none}
use Rattle.form.proofs.Search.{within-some, within-none}
use Rattle.old_types.specs.Conditions.{large, first_large}
use Rattle.old_types.proofs.Orders.{accepted-counts, accepted-kept}
use Rattle.old_types.proofs.Table.{sizes-refused, sizes-worked}
use Rattle.old_types.proofs.Judged.{judged-kept, judged-large, judged-right}
use Rattle.old_types.proofs.refusals.judge.Goals as goal

pub returns-in_err-judge_kept : goal.returns-in_err-judge_kept
returns-in_err-judge_kept c =
    let d = c.args.d.now in
    let wrong = (refused _ _ _ c.in_err-judge_kept.ensures).0 in
    let p = err_from_is_err_and c.from_residual.result c.from_residual.ensures.1 in (
      rw (p.1, p.2) (judged-kept d _ c.in_err-judge_kept.ensures),
      sizes-refused d c.args.table.now wrong,
      λ e. absurd (wrong (accepted-kept d e)),
    )

pub fill_sizes-requires : goal.fill_sizes-requires
fill_sizes-requires c = passed _ _ c.in_ok-judge_kept.ensures

pub of_type-requires : goal.of_type-requires
of_type-requires c =
    let d = c.args.d.now in
    let few = (accepted-counts d (passed _ _ c.in_ok-judge_kept.ensures)).types in
    omega (arith, few, within-some (large d) 0 (types_in d) c.in-Some.k (sym c.in-Some.is ∙ c.fill_sizes.ensures.0))

pub returns-in-Some : goal.returns-in-Some
returns-in-Some c =
    let d = c.args.d.now in
    let wrong = judged-large d (passed _ _ c.in_ok-judge_kept.ensures) c.in-Some.k (sym c.in-Some.is ∙ c.fill_sizes.ensures.0) in (
      rw c.of_type.ensures wrong,
      c.fill_sizes.ensures.1 ∙ sizes-worked d c.args.table.now (passed _ _ c.in_ok-judge_kept.ensures),
      λ e. absurd ((refused _ _ _ wrong).0 e),
    )

pub returns-in-None : goal.returns-in-None
returns-in-None c =
    let d = c.args.d.now in
    let none = sym c.in-None.is ∙ c.fill_sizes.ensures.0 in
    let all : first_large d ≡ types_in d = omega (arith, within-none (large d) 0 (types_in d) none) in (
      judgment-none _ _ (judged-right d (passed _ _ c.in_ok-judge_kept.ensures) none),
      c.fill_sizes.ensures.1 ∙ sizes-worked d c.args.table.now (passed _ _ c.in_ok-judge_kept.ensures),
      λ e. rw (← all) c.fill_sizes.ensures.2,
    )
