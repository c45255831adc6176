-- Where 3.5.7 fetches the argument.
-- Assumes nothing.
use mathlib.Core.List.{[]}
use Rattle.std.proofs.lemmas.Result.{err_from_is_err_and}
use Rattle.walk.proofs.ShownParts.{shown-refused, reached-here, small-here, shown-there}
use Rattle.walk.specs.Orders.{asking}
use Rattle.walk.proofs.showing.shown_at.Goals as goal

pub returns-in_err-shape : goal.returns-in_err-shape
returns-in_err-shape c =
    let p = err_from_is_err_and c.from_residual.result c.from_residual.ensures.1 in
    rw (p.1, p.2) (shown-refused c.args.station c.args.seat.now c.args.walk (asking c.args.registers.now c.args.stack.now c.args.asked []) _ c.in_err-shape.ensures, tt)

pub fetch-requires : goal.fetch-requires
fetch-requires c =
    let a = asking c.args.registers.now c.args.stack.now c.args.asked [] in
    (reached-here c.args.station c.args.seat.now c.args.walk a _ c.in_ok-shape.ensures, small-here c.args.station c.args.seat.now c.args.walk a _ c.in_ok-shape.ensures)

pub returns : goal.returns
returns c =
    shown-there c.args.station c.args.seat.now c.args.walk (asking c.args.registers.now c.args.stack.now c.args.asked []) _ c.in_ok-shape.ensures
    c.fetch.result c.part_of.result c.fetch.ensures c.part_of.ensures
