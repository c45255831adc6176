-- The order 11, 14, 15, 1..10, each number by its law.
-- Assumes nothing.
use mathlib.Core.Path.{sym, ◌∙◌}
use native.Mathlib.Omega.{arith}
use Rattle.station.specs.Paper.{kcb}
use Rattle.station.proofs.Attachments.{attach-wrong, attach-busy, attach-last, attach-judged, under-refused}
use Rattle.station.proofs.Kcb.{checked-as}
use Rattle.station.proofs.may_attach.Goals as goal

pub returns-then-wrong_seat : goal.returns-then-wrong_seat
returns-then-wrong_seat c = under-refused kcb _ _ 11 _ tt c.from.ensures (omega arith) (attach-wrong kcb c.args.station c.args.seat.now c.args.d.now (sym c.wrong_seat.ensures ∙ c.if-wrong_seat.true))

pub returns-then-station : goal.returns-then-station
returns-then-station c = under-refused kcb _ _ 14 _ tt c.from-then-station.ensures (omega arith) (attach-busy kcb c.args.station c.args.seat.now c.args.d.now (sym c.wrong_seat.ensures ∙ c.if-wrong_seat.false) c.if-station.true)

pub returns-then-station-eq4294967295 : goal.returns-then-station-eq4294967295
returns-then-station-eq4294967295 c = under-refused kcb _ _ 15 _ tt c.from-then-station-eq4294967295.ensures (omega arith) (attach-last kcb c.args.station c.args.seat.now c.args.d.now (sym c.wrong_seat.ensures ∙ c.if-wrong_seat.false) c.if-station.false (omega (arith, c.if-station-eq4294967295.true)))

pub returns : goal.returns
returns c = c.check.ensures ∙ checked-as c.args.d.now _ (attach-judged kcb c.args.station c.args.seat.now c.args.d.now (sym c.wrong_seat.ensures ∙ c.if-wrong_seat.false) c.if-station.false (omega (arith, c.if-station-eq4294967295.false, c.well_formed)))
