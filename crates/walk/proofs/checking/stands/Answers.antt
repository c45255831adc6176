-- 1..10 from the layout's answer, then 17, 18, 19, 20 and 11, each by its law.
-- Assumes nothing.
use mathlib.Core.Bool.{false}
use mathlib.Core.Path.{sym, ◌∙◌}
use borrow.Author.Tests.{not-true, not-false, eqb-true, eqb-false}
use Rattle.std.proofs.lemmas.Result.{err_from_is_err_and}
use Rattle.types.proofs.Table.{known-low}
use Rattle.uses.proofs.Uses.{accepted-typed}
use Rattle.places.proofs.Records.{shape_known}
use Rattle.layout.proofs.Layouts.{laid-accepted}
use Rattle.walk.proofs.Checks.{laid-uses, on-before, sized-here, stands-not, stands-17, stands-18, stands-19, stands-20, stands-11, stands-right}
use Rattle.walk.proofs.checking.stands.Goals as goal

pub returns-in_err-layout : goal.returns-in_err-layout
returns-in_err-layout c =
    let p = err_from_is_err_and c.from_residual.result c.from_residual.ensures.1 in
    rw (p.1, p.2) (stands-not c.args.station c.args.d.now c.args.walk c.args.stack.now c.args.asked _ (sym c.in_err-layout.ensures.0))

pub returns-then-walk-station : goal.returns-then-walk-station
returns-then-walk-station c = stands-17 c.args.station c.args.d.now c.args.walk c.args.stack.now c.args.asked _ (sym c.in_ok-layout.ensures.0) _ c.from.ensures c.if-walk-station.true

pub invariant_of-known : goal.invariant_of-known
invariant_of-known c = let e = c.in_ok-layout.ensures.3 in record { judged = e.2; tabled = e.3 }

pub returns-then-is_astray : goal.returns-then-is_astray
returns-then-is_astray c = stands-18 c.args.station c.args.d.now c.args.walk c.args.stack.now c.args.asked _ (sym c.in_ok-layout.ensures.0) c.if-walk-station.false _ c.from-then-is_astray.ensures (sym c.is_astray.ensures ∙ c.if-is_astray.true)

pub returns-then-walk-arguments : goal.returns-then-walk-arguments
returns-then-walk-arguments c = stands-19 c.args.station c.args.d.now c.args.walk c.args.stack.now c.args.asked _ (sym c.in_ok-layout.ensures.0) c.if-walk-station.false (sym c.is_astray.ensures ∙ c.if-is_astray.false) _ c.from-then-walk-arguments.ensures (c.if-walk-arguments.true ∙ c.arguments.ensures)

pub argument_at-ty-requires : goal.argument_at-ty-requires
argument_at-ty-requires c = ((accepted-typed c.args.d.now (laid-uses c.args.d.now _ (sym c.in_ok-layout.ensures.0))).whole, on-before c.args.d.now c.args.walk (sym c.is_astray.ensures ∙ c.if-is_astray.false) (λ q. c.if-walk-arguments.false (q ∙ sym c.arguments.ensures)))

pub returns-then-ty-from : goal.returns-then-ty-from
returns-then-ty-from c = stands-20 c.args.station c.args.d.now c.args.walk c.args.stack.now c.args.asked _ (sym c.in_ok-layout.ensures.0) c.if-walk-station.false (sym c.is_astray.ensures ∙ c.if-is_astray.false) (λ q. c.if-walk-arguments.false (q ∙ sym c.arguments.ensures)) _ c.argument_at-ty.ensures _ c.from-then-ty-from.ensures (λ q. c.if-ty-from.true (q ∙ sym c.from-2.ensures))

pub returns-then-ne : goal.returns-then-ne
returns-then-ne c = stands-11 c.args.station c.args.d.now c.args.walk c.args.stack.now c.args.asked _ (sym c.in_ok-layout.ensures.0) c.if-walk-station.false (sym c.is_astray.ensures ∙ c.if-is_astray.false) (λ q. c.if-walk-arguments.false (q ∙ sym c.arguments.ensures)) _ c.argument_at-ty.ensures (c.if-ty-from.false ∙ c.from-2.ensures) _ c.from-then-ne.ensures (eqb-false _ _ (not-true _ (sym c.ne.ensures ∙ c.if-ne.true)))

pub bounds-table-ty : goal.bounds-table-ty
bounds-table-ty c =
    let tabled = c.in_ok-layout.ensures.2 (laid-accepted c.args.d.now _ (sym c.in_ok-layout.ensures.0)).0 in
    known-low c.args.d.now _ tabled.sizes _ (sized-here c.args.station c.args.d.now c.args.walk c.args.stack.now c.args.asked _ (sym c.in_ok-layout.ensures.0) c.if-walk-station.false (sym c.is_astray.ensures ∙ c.if-is_astray.false) (λ q. c.if-walk-arguments.false (q ∙ sym c.arguments.ensures)) _ c.argument_at-ty.ensures)

pub returns : goal.returns
returns c =
    let tabled = c.in_ok-layout.ensures.2 (laid-accepted c.args.d.now _ (sym c.in_ok-layout.ensures.0)).0 in
    stands-right c.args.station c.args.d.now c.args.walk c.args.stack.now c.args.asked _ (sym c.in_ok-layout.ensures.0) c.if-walk-station.false (sym c.is_astray.ensures ∙ c.if-is_astray.false) (λ q. c.if-walk-arguments.false (q ∙ sym c.arguments.ensures)) _ c.argument_at-ty.ensures (c.if-ty-from.false ∙ c.from-2.ensures) _ (eqb-true _ _ (not-false _ (sym c.ne.ensures ∙ c.if-ne.false)))
    (c.shape.ensures ∙ shape_known c.args.d.now _ tabled false _ (sized-here c.args.station c.args.d.now c.args.walk c.args.stack.now c.args.asked _ (sym c.in_ok-layout.ensures.0) c.if-walk-station.false (sym c.is_astray.ensures ∙ c.if-is_astray.false) (λ q. c.if-walk-arguments.false (q ∙ sym c.arguments.ensures)) _ c.argument_at-ty.ensures).known)
