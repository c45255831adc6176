-- 11 and 13, and the rest in the seat at the station's length.
-- Assumes nothing.
use mathlib.Core.Path.{sym, ◌∙◌}
use native.Mathlib.Omega.{arith}
use lib.Seq.{length-take-le}
use Rattle.finishing.specs.Rest.{asking_rest}
use Rattle.finishing.proofs.Orders.{finish-wrong, finish-registers, finish-idle, finish-seated, finish-own, finish-on}
use Rattle.station.specs.Attachment.{described}
use Rattle.station.specs.Paper.{kcb}
use Rattle.station.proofs.Attachments.{right-seat}
use Rattle.finishing.proofs.finish_walk.Goals as goal
use Rattle.finishing.proofs.finish_walk.Goals.{then-wrong_seat-via-then-wrong_seat, then-wrong_seat-via-else-wrong_seat+then-registers-ne176}

pub returns-then-wrong_seat : goal.returns-then-wrong_seat
unfolding kcb
returns-then-wrong_seat c =
    elim c.then-wrong_seat.branch [
      | then-wrong_seat-via-then-wrong_seat w ↦ finish-own kcb c.args.station.now c.args.seat.now c.args.walk.now (asking_rest c.args.registers.now c.args.stack.now c.args.asked.now c.args.out.now) 11 _ (finish-wrong kcb c.args.station.now c.args.seat.now c.args.walk.now (asking_rest c.args.registers.now c.args.stack.now c.args.asked.now c.args.out.now) (sym c.wrong_seat.ensures ∙ w.if-wrong_seat.true)) (omega arith) c.from.ensures
      | then-wrong_seat-via-else-wrong_seat+then-registers-ne176 w ↦
          finish-own kcb c.args.station.now c.args.seat.now c.args.walk.now (asking_rest c.args.registers.now c.args.stack.now c.args.asked.now c.args.out.now) 11 _ (finish-registers kcb c.args.station.now c.args.seat.now c.args.walk.now (asking_rest c.args.registers.now c.args.stack.now c.args.asked.now c.args.out.now) (sym c.wrong_seat.ensures ∙ w.if-wrong_seat.false) w.if-registers-ne176.true) (omega arith) c.from.ensures
    ]

pub returns-then-not-station : goal.returns-then-not-station
unfolding kcb
returns-then-not-station c = finish-own kcb c.args.station.now c.args.seat.now c.args.walk.now (asking_rest c.args.registers.now c.args.stack.now c.args.asked.now c.args.out.now) 13 _ (finish-idle kcb c.args.station.now c.args.seat.now c.args.walk.now (asking_rest c.args.registers.now c.args.stack.now c.args.asked.now c.args.out.now) (sym c.wrong_seat.ensures ∙ c.if-wrong_seat.false) c.if-registers-ne176.false c.if-not-station.true) (omega arith) c.from-then-not-station.ensures

pub slice_bounds-d-end : goal.slice_bounds-d-end
slice_bounds-d-end c =
    let z = right-seat c.args.station.now c.args.seat.now (sym c.wrong_seat.ensures ∙ c.if-wrong_seat.false) in
    sym (length-take-le c.args.station.now.length.0 c.args.seat.now (omega (arith, z.full, z.within)))

pub returns : goal.returns
unfolding described kcb
returns c = finish-on kcb c.args.station.now c.args.seat.now c.args.walk.now (asking_rest c.args.registers.now c.args.stack.now c.args.asked.now c.args.out.now) _ _ _ (finish-seated kcb c.args.station.now c.args.seat.now c.args.walk.now (asking_rest c.args.registers.now c.args.stack.now c.args.asked.now c.args.out.now) (sym c.wrong_seat.ensures ∙ c.if-wrong_seat.false) c.if-registers-ne176.false c.if-not-station.false) c.finish_seated.ensures
