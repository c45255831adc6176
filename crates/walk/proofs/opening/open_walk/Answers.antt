-- 11 and 13, and the rest in the seat at the station's length.
-- Assumes nothing.
use borrow.Author.Tests.{not-true, not-false}
use mathlib.Core.Path.{sym, ◌∙◌}
use native.Mathlib.Omega.{arith}
use lib.Seq.{length-take-le}
use Rattle.walk.proofs.Opens.{answer-wrong, answer-idle, answer-rest}
use Rattle.station.specs.Paper.{kcb}
use Rattle.station.proofs.Attachments.{right-seat}
use Rattle.walk.proofs.opening.open_walk.Goals as goal

pub returns-then-wrong_seat : goal.returns-then-wrong_seat
returns-then-wrong_seat c = answer-wrong kcb c.args.station c.args.seat.now _ c.from.ensures (sym c.wrong_seat.ensures ∙ c.if-wrong_seat.true)

pub returns-then-not-station : goal.returns-then-not-station
returns-then-not-station c = answer-idle kcb c.args.station c.args.seat.now _ c.from-then-not-station.ensures (sym c.wrong_seat.ensures ∙ c.if-wrong_seat.false) (not-true _ c.if-not-station.true)

pub slice_bounds-open_on-end : goal.slice_bounds-open_on-end
slice_bounds-open_on-end c = let z = right-seat c.args.station c.args.seat.now (sym c.wrong_seat.ensures ∙ c.if-wrong_seat.false) in sym (length-take-le c.args.station.length.0 c.args.seat.now (omega (arith, z.full, z.within)))

pub returns : goal.returns
returns c = answer-rest kcb c.args.station c.args.seat.now c.open_on.result (sym c.wrong_seat.ensures ∙ c.if-wrong_seat.false) (not-false _ c.if-not-station.false) c.open_on.ensures
