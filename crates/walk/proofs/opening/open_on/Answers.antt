-- 1..10 from the layout's answer, then 16.
-- Assumes nothing.
use mathlib.Core.Path.{sym, ◌∙◌}
use native.Mathlib.Omega.{arith}
use Rattle.std.proofs.lemmas.Result.{err_from_is_err_and}
use Rattle.station.specs.Paper.{kcb}
use Rattle.station.proofs.Attachments.{under-not, under-refused, under-done}
use Rattle.station.proofs.Kcb.{laid-right, laid-not}
use Rattle.walk.proofs.Checks.{laid-uses, headed, named-few}
use Rattle.walk.proofs.Opens.{opened-is, variadic-early, plain-16, variadic-right, standing-named}
use Rattle.walk.proofs.opening.open_on.Goals as goal

pub returns-in_err-layout : goal.returns-in_err-layout
returns-in_err-layout c =
    let p = err_from_is_err_and c.from_residual.result c.from_residual.ensures.1 in
    let z = laid-not c.args.d.now _ (sym c.in_err-layout.ensures) in
    rw (p.1, p.2) (under-not kcb _ _ _ _ _ z.0 (omega (arith, z.1)) (variadic-early kcb c.args.d.now z.1) ∙ opened-is kcb _ _ _)

pub variadic_in-requires : goal.variadic_in-requires
variadic_in-requires c = omega (arith, headed c.args.d.now (laid-uses c.args.d.now _ (sym c.in_ok-layout.ensures)))

pub returns-then-variadic_in-ne1 : goal.returns-then-variadic_in-ne1
returns-then-variadic_in-ne1 c = under-refused kcb _ _ 16 _ _ c.from.ensures (omega arith) (plain-16 c.args.d.now c.variadic_in.result (laid-right c.args.d.now _ (sym c.in_ok-layout.ensures)).0 c.variadic_in.ensures c.if-variadic_in-ne1.true) ∙ opened-is kcb _ _ _

pub byte_at-named-requires : goal.byte_at-named-requires
byte_at-named-requires c = omega (arith, headed c.args.d.now (laid-uses c.args.d.now _ (sym c.in_ok-layout.ensures)))

pub standing-requires : goal.standing-requires
standing-requires c = named-few c.args.d.now _ (laid-right c.args.d.now _ (sym c.in_ok-layout.ensures)).1

pub returns : goal.returns
returns c =
    let e = sym c.in_ok-layout.ensures in
    let z = laid-right c.args.d.now _ e in
    under-done kcb _ _ _ _ (variadic-right c.args.d.now c.variadic_in.result z.0 c.variadic_in.ensures c.if-variadic_in-ne1.false)
    (standing-named c.args.d.now c.args.number c.byte_at-named.result _ c.standing.result (laid-uses c.args.d.now _ e) z.1 c.byte_at-named.ensures.0 c.standing.ensures)
    ∙ opened-is kcb _ _ _
