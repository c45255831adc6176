-- The checks are `checked`'s and the out buffer's; the bytes are fetched where 3.5.7 says, and the walk moves on.
-- Assumes nothing.
use mathlib.Core.Path.{sym, ◌∙◌}
use borrow.Author.Tests.{not-true, not-false, eqb-true, eqb-false}
use Rattle.std.proofs.lemmas.Result.{err_from_is_err_and}
use Rattle.walk.proofs.Steps.{leaves-refused, leaves-out, reached-here, small-here, copies_here, leaves-moved}
use Rattle.walk.proofs.stepping.step.Goals as goal

pub returns-in_err-shape : goal.returns-in_err-shape
returns-in_err-shape c =
    let p = err_from_is_err_and c.from_residual.result c.from_residual.ensures.1 in
    rw (p.1, p.2) (leaves-refused c.args.station.now c.args.seat.now c.args.walk.now c.args.registers.now c.args.stack.now c.args.out.now c.args.asked _ c.in_err-shape.ensures)

pub returns-then-ne : goal.returns-then-ne
returns-then-ne c = leaves-out c.args.station.now c.args.seat.now c.args.walk.now c.args.registers.now c.args.stack.now c.args.out.now c.args.asked _ c.in_ok-shape.ensures _ c.from.ensures (eqb-false _ _ (not-true _ (sym c.ne.ensures ∙ c.if-ne.true)))

pub fetch-fetch-requires : goal.fetch-fetch-requires
fetch-fetch-requires c = (reached-here c.args.station.now c.args.seat.now c.args.walk.now c.args.registers.now c.args.stack.now c.args.out.now c.args.asked _ c.in_ok-shape.ensures, small-here c.args.station.now c.args.seat.now c.args.walk.now c.args.registers.now c.args.stack.now c.args.out.now c.args.asked _ c.in_ok-shape.ensures)

pub copy_out-requires : goal.copy_out-requires
copy_out-requires c = copies_here c.args.station.now c.args.seat.now c.args.walk.now c.args.registers.now c.args.stack.now c.args.out.now c.args.asked _ c.in_ok-shape.ensures (eqb-true _ _ (not-false _ (sym c.ne.ensures ∙ c.if-ne.false))) _ c.fetch-fetch.ensures

pub behind-requires : goal.behind-requires
behind-requires c = (reached-here c.args.station.now c.args.seat.now c.args.walk.now c.args.registers.now c.args.stack.now c.args.out.now c.args.asked _ c.in_ok-shape.ensures, small-here c.args.station.now c.args.seat.now c.args.walk.now c.args.registers.now c.args.stack.now c.args.out.now c.args.asked _ c.in_ok-shape.ensures)

pub returns : goal.returns
returns c = leaves-moved c.args.station.now c.args.seat.now c.args.walk.now c.args.registers.now c.args.stack.now c.args.out.now c.args.asked _ c.in_ok-shape.ensures (eqb-true _ _ (not-false _ (sym c.ne.ensures ∙ c.if-ne.false))) _ c.fetch-fetch.ensures _ _ c.copy_out.ensures c.behind.ensures
