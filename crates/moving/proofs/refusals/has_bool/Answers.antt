use mathlib.Core.Path.{sym, ap, ◌∙◌}
use native.Mathlib.Nat.{sub-zero}
use native.Mathlib.Omega.{arith}
use borrow.Author.Tests.{lt-ltb, le-ltb}
use Rattle.description.specs.Description.{types_in}
use Rattle.form.specs.Search.{first_from}
use Rattle.form.proofs.Search.{search_stop, search_on, search_end}
use Rattle.moving.specs.Orders.{is_bool}
use Rattle.moving.proofs.refusals.has_bool.Goals as goal

pub loop-k-init : goal.loop-k-init
loop-k-init c = ap (first_from (is_bool _) 0) (sub-zero _)

pub returns-then-is_bool : goal.returns-then-is_bool
returns-then-is_bool c = sym (lt-ltb _ _ (omega (arith, search_stop (is_bool c.args.d.now) c.loop-k.k (types_in c.args.d.now) (omega (arith, c.loop-k-test.true, c.byte_at-k-end.ensures.0)) (sym c.is_bool.ensures ∙ c.if-is_bool.true), c.loop-k.invariant, c.loop-k-test.true, c.byte_at-k-end.ensures.0)))

pub loop-k-preserved : goal.loop-k-preserved
loop-k-preserved c = search_on (is_bool c.args.d.now) c.loop-k.k (types_in c.args.d.now) (omega (arith, c.loop-k-test.true, c.byte_at-k-end.ensures.0)) (sym c.is_bool.ensures ∙ c.if-is_bool.false) ∙ c.loop-k.invariant

pub returns : goal.returns
returns c =
    let end = search_end (is_bool c.args.d.now) c.loop-k.k (types_in c.args.d.now) (omega (arith, c.loop-k-test.false, c.byte_at-k-end.ensures.0)) in
    sym (le-ltb _ _ (omega (arith, end, c.loop-k.invariant, c.loop-k-test.false, c.byte_at-k-end.ensures.0)))
