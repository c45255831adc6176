-- `narrow_unnamed` meets its contract.
-- Assumes nothing.
use mathlib.Core.Path.{◌≡◌, sym, ap, ◌∙◌}
use mathlib.Core.Bool.{true, false}
use native.Mathlib.Omega.{arith}
use borrow.Author.Tests.{lt-ltb, le-ltb}
use Rattle.description.specs.Description.{arguments_in}
use Rattle.form.proofs.Search.{search_stop, search_on, search_end}
use Rattle.uses.specs.Uses.{narrow_argument, first_narrow, narrow_unnamed}
use Rattle.uses.proofs.narrow_unnamed.Goals as goal

pub returns-then-is_narrow : goal.returns-then-is_narrow
unfolding narrow_unnamed
returns-then-is_narrow c =
    let d = c.args.d.now in
    let holds : narrow_argument d c.loop-i.i ≡ true = rw (← c.argument_at.ensures) (sym c.is_narrow.ensures ∙ c.if-is_narrow.true) in
    let found : first_narrow d ≡ c.loop-i.i = sym c.loop-i.invariant ∙ search_stop (narrow_argument d) c.loop-i.i (arguments_in d) (omega arith) holds in
    rw found (sym (lt-ltb c.loop-i.i (arguments_in d) (omega arith)))

pub loop-i-preserved : goal.loop-i-preserved
loop-i-preserved c =
    let d = c.args.d.now in
    let fails : narrow_argument d c.loop-i.i ≡ false = rw (← c.argument_at.ensures) (sym c.is_narrow.ensures ∙ c.if-is_narrow.false) in
    search_on (narrow_argument d) c.loop-i.i (arguments_in d) (omega arith) fails ∙ c.loop-i.invariant

pub returns : goal.returns
unfolding narrow_unnamed
returns c =
    let d = c.args.d.now in
    let found : first_narrow d ≡ c.loop-i.i = sym c.loop-i.invariant ∙ search_end (narrow_argument d) c.loop-i.i (arguments_in d) (omega arith) in
    rw found (sym (le-ltb c.loop-i.i (arguments_in d) (omega arith)))
