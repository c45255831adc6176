-- The order 11, 13, each number by its law.
-- Assumes nothing.
use mathlib.Core.Path.{refl, sym, ◌∙◌}
use native.Mathlib.Omega.{arith}
use borrow.Author.Tests.{not-true, not-false}
use Rattle.station.proofs.Attachments.{detach-wrong, detach-idle, detach-right, of-refused, of-done}
use Rattle.station.proofs.may_detach.Goals as goal

pub returns-then-wrong_seat : goal.returns-then-wrong_seat
returns-then-wrong_seat c = of-refused _ 11 _ tt c.from.ensures (omega arith) (detach-wrong c.args.station c.args.seat.now (sym c.wrong_seat.ensures ∙ c.if-wrong_seat.true))

pub returns-then-not-station : goal.returns-then-not-station
returns-then-not-station c = of-refused _ 13 _ tt c.from-then-not-station.ensures (omega arith) (detach-idle c.args.station c.args.seat.now (sym c.wrong_seat.ensures ∙ c.if-wrong_seat.false) (not-true _ c.if-not-station.true))

pub returns : goal.returns
returns c = of-done _ tt tt (detach-right c.args.station c.args.seat.now (sym c.wrong_seat.ensures ∙ c.if-wrong_seat.false) (not-false _ c.if-not-station.false)) refl
