-- A refusal leaves station and seat; else the number is counted up and the seat filled.
-- Assumes nothing.
use mathlib.Core.Path.{refl, sym, ◌∙◌}
use Rattle.std.proofs.Common.{rules}
use Rattle.std.proofs.lemmas.Result.{err_from_is_err_and}
use native.Mathlib.Omega.{arith}
use native.Mathlib.Numerals.{add-one}
use Rattle.station.specs.Paper.{kcb}
use Rattle.station.proofs.Attachments.{attach-passes, attach-left, attach-done, under-ok, under-err, under-done}
use Rattle.station.proofs.Kcb.{kcb-short}
use Rattle.station.proofs.attach.Goals as goal

pub returns-in_err-may_attach : goal.returns-in_err-may_attach
returns-in_err-may_attach c =
    let p = err_from_is_err_and c.from_residual.result c.from_residual.ensures.1 in
    let h = attach-left kcb c.args.station.now c.args.seat.now c.args.d.now (under-err kcb c.args.d.now _ tt _ (sym c.in_err-may_attach.ensures)) in
    rw (p.1, p.2) (c.in_err-may_attach.ensures, h.0, h.1)

pub fill-requires : goal.fill-requires
fill-requires c =
    let p = attach-passes kcb c.args.station.now c.args.seat.now c.args.d.now (under-ok kcb c.args.d.now _ tt _ (sym c.in_ok-may_attach.ensures)) in
    (p.seated.full, kcb-short c.args.d.now (search rules) p.accepted)

pub overflow_add-station : goal.overflow_add-station
overflow_add-station c =
    omega (arith, (attach-passes kcb c.args.station.now c.args.seat.now c.args.d.now (under-ok kcb c.args.d.now _ tt _ (sym c.in_ok-may_attach.ensures))).more)

pub returns : goal.returns
returns c =
    let z = under-ok kcb c.args.d.now _ tt _ (sym c.in_ok-may_attach.ensures) in
    let p = attach-done kcb c.args.station.now c.args.seat.now c.args.d.now z in
    (under-done kcb c.args.d.now _ tt tt z refl, rw add-one (sym p.0), c.fill.ensures ∙ sym p.1)
