-- `judge` meets its contract.
-- Assumes nothing.
use mathlib.Core.Path.{◌≡◌, sym, ◌∙◌}
use native.Mathlib.Omega.{arith}
use Rattle.std.proofs.lemmas.Result.{err_from_is_err_and}
use Rattle.description.specs.Description.{types_in, model_in}
use Rattle.form.proofs.Form.{accepted-counts}
use Rattle.form.proofs.Judgment.{passed, refused, judgment-none}
use Rattle.form.proofs.Search.{within-some, within-none}
use Rattle.types.specs.Large.{large, first_large}
use Rattle.types.proofs.Large.{accepted-form}
use Rattle.types.proofs.Table.{sizes-refused, sizes-worked}
use Rattle.types.proofs.Wrong.{judged-form, judged-large, judged-right}
use Rattle.types.proofs.refusals.judge.Goals as goal

pub returns-in_err-judge : goal.returns-in_err-judge
returns-in_err-judge c =
    let d = c.args.d.now in
    let wrong = (refused _ _ _ c.in_err-judge.ensures).0 in
    let p = err_from_is_err_and c.from_residual.result c.from_residual.ensures.1 in (
      rw (p.1, p.2) (judged-form d _ c.in_err-judge.ensures),
      sizes-refused d c.args.table.now wrong,
      λ e. absurd (wrong (accepted-form d e)),
    )

pub fill_sizes-requires : goal.fill_sizes-requires
fill_sizes-requires c = passed _ _ c.in_ok-judge.ensures

pub of_type-requires : goal.of_type-requires
of_type-requires c =
    let d = c.args.d.now in
    let few = (accepted-counts d (passed _ _ c.in_ok-judge.ensures)).types in
    omega (arith, few, within-some (large (model_in d) d) 0 (types_in d) c.in-Some.k (sym c.in-Some.is ∙ c.fill_sizes.ensures.0))

pub returns-in-Some : goal.returns-in-Some
returns-in-Some c =
    let d = c.args.d.now in
    let wrong = judged-large d c.in_ok-judge.ensures c.in-Some.k (sym c.in-Some.is ∙ c.fill_sizes.ensures.0) in (
      rw c.of_type.ensures wrong,
      c.fill_sizes.ensures.1 ∙ sizes-worked d c.args.table.now (passed _ _ c.in_ok-judge.ensures),
      λ e. absurd ((refused _ _ _ wrong).0 e),
    )

pub returns-in-None : goal.returns-in-None
returns-in-None c =
    let d = c.args.d.now in
    let none = sym c.in-None.is ∙ c.fill_sizes.ensures.0 in
    let all : first_large (model_in d) d ≡ types_in d = omega (arith, within-none (large (model_in d) d) 0 (types_in d) none) in (
      judgment-none _ _ (judged-right d c.in_ok-judge.ensures none),
      c.fill_sizes.ensures.1 ∙ sizes-worked d c.args.table.now (passed _ _ c.in_ok-judge.ensures),
      λ e. rw (← all) c.fill_sizes.ensures.2,
    )
