-- `some_wrong` meets its contract.
-- Assumes nothing.
use mathlib.Core.Path.{◌≡◌, sym, ap, ◌∙◌}
use mathlib.Core.Bool.{true, false}
use native.Mathlib.Omega.{arith}
use borrow.Author.Tests.{lt-ltb, le-ltb}
use Rattle.description.specs.Description.{arguments_in}
use Rattle.form.specs.Search.{first_from}
use Rattle.form.proofs.Search.{search_stop, search_on, search_end}
use Rattle.uses.specs.Uses.{wrong_argument, first_wrong}
use Rattle.uses.proofs.some_wrong.Goals as goal

pub loop-i-init : goal.loop-i-init
loop-i-init c = ap (first_from (wrong_argument c.args.d.now) 0) (omega arith)

pub returns-then-wrong_number : goal.returns-then-wrong_number
returns-then-wrong_number c =
    let d = c.args.d.now in
    let holds : wrong_argument d c.loop-i.i ≡ true = rw (← c.argument_at.ensures) (sym c.wrong_number.ensures ∙ c.if-wrong_number.true) in
    let found : first_wrong d ≡ c.loop-i.i = sym c.loop-i.invariant ∙ search_stop (wrong_argument d) c.loop-i.i (arguments_in d) (omega arith) holds in
    rw found (sym (lt-ltb c.loop-i.i (arguments_in d) (omega arith)))

pub loop-i-preserved : goal.loop-i-preserved
loop-i-preserved c =
    let d = c.args.d.now in
    let fails : wrong_argument d c.loop-i.i ≡ false = rw (← c.argument_at.ensures) (sym c.wrong_number.ensures ∙ c.if-wrong_number.false) in
    search_on (wrong_argument d) c.loop-i.i (arguments_in d) (omega arith) fails ∙ c.loop-i.invariant

pub returns : goal.returns
returns c =
    let d = c.args.d.now in
    let found : first_wrong d ≡ c.loop-i.i = sym c.loop-i.invariant ∙ search_end (wrong_argument d) c.loop-i.i (arguments_in d) (omega arith) in
    rw found (sym (le-ltb c.loop-i.i (arguments_in d) (omega arith)))
