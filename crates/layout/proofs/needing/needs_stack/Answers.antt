use mathlib.Core.Path.{refl, sym, ◌∙◌}
use native.Mathlib.Omega.{arith}
use Rattle.layout.proofs.Layouts.{passed-on}
use Rattle.layout.proofs.Stacked.{need_refused, need_some, need_none, found-low}
use Rattle.layout.proofs.needing.needs_stack.Goals as goal

pub returns-in_err-judge : goal.returns-in_err-judge
returns-in_err-judge c = passed-on _ c.from_residual.ensures.1 ∙ need_refused c.args.d.now _ (sym c.in_err-judge.was ∙ c.judge.ensures.0)

pub overflow_add-result : goal.overflow_add-result
overflow_add-result c = omega (arith, found-low c.args.d.now c.in_ok-judge.ensures.3.0 c.in-Some.i (sym c.in-Some.is ∙ c.first_stacked.ensures))

pub returns-in-Some : goal.returns-in-Some
returns-in-Some c = need_some c.args.d.now c.in_ok-judge.ensures.3.0 c.in-Some.i (sym c.in-Some.is ∙ c.first_stacked.ensures) _ refl refl

pub returns-in-None : goal.returns-in-None
returns-in-None c = need_none c.args.d.now c.in_ok-judge.ensures.3.0 (sym c.in-None.is ∙ c.first_stacked.ensures) _ refl c.arguments.ensures
