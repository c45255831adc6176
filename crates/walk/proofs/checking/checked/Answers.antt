-- 11 and 13, and the rest in the seat at the station's length.
-- Assumes nothing.
use borrow.Author.Tests.{not-true, not-false}
use mathlib.Core.Path.{sym, ◌∙◌}
use mathlib.Core.List.{[]}
use native.Mathlib.Omega.{arith}
use lib.Seq.{length-take-le}
use Rattle.walk.specs.Orders.{asking}
use Rattle.walk.proofs.Checks.{refused_as, show-wrong, show-registers, show-idle, stands_there}
use Rattle.station.specs.Paper.{kcb}
use Rattle.station.proofs.Attachments.{right-seat}
use Rattle.walk.proofs.checking.checked.Goals as goal
use Rattle.walk.proofs.checking.checked.Goals.{then-wrong_seat-via-then-wrong_seat, then-wrong_seat-via-else-wrong_seat+then-registers-ne176}

pub returns-then-wrong_seat : goal.returns-then-wrong_seat
unfolding kcb
returns-then-wrong_seat c =
    elim c.then-wrong_seat.branch [
      | then-wrong_seat-via-then-wrong_seat w ↦ refused_as kcb _ _ 11 c.args.walk.position _ c.from.ensures (omega arith) (show-wrong kcb c.args.station c.args.seat.now c.args.walk (asking c.args.registers.now c.args.stack.now c.args.asked []) (sym c.wrong_seat.ensures ∙ w.if-wrong_seat.true))
      | then-wrong_seat-via-else-wrong_seat+then-registers-ne176 w ↦
          refused_as kcb _ _ 11 c.args.walk.position _ c.from.ensures (omega arith) (show-registers kcb c.args.station c.args.seat.now c.args.walk (asking c.args.registers.now c.args.stack.now c.args.asked []) (sym c.wrong_seat.ensures ∙ w.if-wrong_seat.false) w.if-registers-ne176.true)
    ]

pub returns-then-not-station : goal.returns-then-not-station
unfolding kcb
returns-then-not-station c = refused_as kcb _ _ 13 c.args.walk.position _ c.from-then-not-station.ensures (omega arith) (show-idle kcb c.args.station c.args.seat.now c.args.walk (asking c.args.registers.now c.args.stack.now c.args.asked []) (sym c.wrong_seat.ensures ∙ c.if-wrong_seat.false) c.if-registers-ne176.false (not-true _ c.if-not-station.true))

pub slice_bounds-stands-end : goal.slice_bounds-stands-end
slice_bounds-stands-end c = let z = right-seat c.args.station c.args.seat.now (sym c.wrong_seat.ensures ∙ c.if-wrong_seat.false) in sym (length-take-le c.args.station.length.0 c.args.seat.now (omega (arith, z.full, z.within)))

pub returns : goal.returns
unfolding kcb
returns c = stands_there kcb c.args.station c.args.seat.now c.args.walk c.args.registers.now c.args.stack.now c.args.asked c.stands.result (sym c.wrong_seat.ensures ∙ c.if-wrong_seat.false) c.if-registers-ne176.false (not-false _ c.if-not-station.false) c.stands.ensures
