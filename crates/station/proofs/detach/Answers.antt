-- A refusal leaves station and seat; else both are zeroed, and the number stays.
-- Assumes nothing.
use mathlib.Core.Path.{refl, sym, ◌∙◌}
use Rattle.std.proofs.lemmas.Result.{err_from_is_err_and}
use Rattle.station.proofs.Attachments.{detach-seated, detach-left, detach-done, of-ok, of-err, of-done}
use Rattle.station.proofs.detach.Goals as goal

pub returns-in_err-may_detach : goal.returns-in_err-may_detach
returns-in_err-may_detach c =
    let p = err_from_is_err_and c.from_residual.result c.from_residual.ensures.1 in
    let h = detach-left c.args.station.now c.args.seat.now (of-err _ tt _ (sym c.in_err-may_detach.ensures)) in
    rw (p.1, p.2) (c.in_err-may_detach.ensures, h.0, h.1)

pub returns : goal.returns
returns c =
    let z = of-ok _ tt _ (sym c.in_ok-may_detach.ensures) in
    let p = detach-done c.args.station.now c.args.seat.now z in
    (of-done _ tt tt z refl, sym p.0, c.fill.ensures.after (λ y e. e) ∙ (rw (detach-seated c.args.station.now c.args.seat.now z).full (sym p.1)))
