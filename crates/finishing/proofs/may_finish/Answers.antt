-- 17, 18, 24, 20 and 11, each by its law.
-- Assumes nothing.
use mathlib.Core.Path.{sym, ◌∙◌}
use native.Mathlib.Omega.{arith}
use borrow.Author.Tests.{not-true, not-false, eqb-true, eqb-false}
use Rattle.finishing.proofs.Checks.{later-other, later-astray, at_most, later-count, count-whole, later-type, later-image, later-short, later-right}
use Rattle.finishing.proofs.may_finish.Goals as goal
use Rattle.finishing.proofs.may_finish.Goals.{then-ne-via-then-ne, then-ne-via-else-ne+then-ne-2}

pub returns-then-walk-station : goal.returns-then-walk-station
returns-then-walk-station c = later-other c.args.station c.args.known.bytes.now c.args.walk c.args.stack.now c.args.asked.now c.args.room.0 _ c.from.ensures c.if-walk-station.true

pub returns-then-is_astray : goal.returns-then-is_astray
returns-then-is_astray c = later-astray c.args.station c.args.known.bytes.now c.args.walk c.args.stack.now c.args.asked.now c.args.room.0 c.if-walk-station.false _ c.from-then-is_astray.ensures (sym c.is_astray.ensures ∙ c.if-is_astray.true)

pub overflow_sub-arguments : goal.overflow_sub-arguments
overflow_sub-arguments c = omega (arith, at_most c.args.station c.args.known.bytes.now c.args.walk c.args.stack.now c.args.asked.now c.args.room.0 c.if-walk-station.false (sym c.is_astray.ensures ∙ c.if-is_astray.false), c.arguments.ensures)

pub returns-then-asked-arguments : goal.returns-then-asked-arguments
returns-then-asked-arguments c = later-count c.args.station c.args.known.bytes.now c.args.walk c.args.stack.now c.args.asked.now c.args.room.0 c.if-walk-station.false (sym c.is_astray.ensures ∙ c.if-is_astray.false) _ c.from-then-asked-arguments.ensures (rw c.arguments.ensures at c.if-asked-arguments.true)

pub other_types-requires : goal.other_types-requires
other_types-requires c = count-whole c.args.station c.args.known.bytes.now c.args.walk c.args.stack.now c.args.asked.now c.args.room.0 c.if-walk-station.false (sym c.is_astray.ensures ∙ c.if-is_astray.false) (rw c.arguments.ensures at c.if-asked-arguments.false)

pub returns-then-other_types : goal.returns-then-other_types
returns-then-other_types c = later-type c.args.station c.args.known.bytes.now c.args.walk c.args.stack.now c.args.asked.now c.args.room.0 c.if-walk-station.false (sym c.is_astray.ensures ∙ c.if-is_astray.false) (rw c.arguments.ensures at c.if-asked-arguments.false) _ c.from-then-other_types.ensures (sym c.other_types.ensures ∙ c.if-other_types.true)

pub bytes_left-requires : goal.bytes_left-requires
bytes_left-requires c = at_most c.args.station c.args.known.bytes.now c.args.walk c.args.stack.now c.args.asked.now c.args.room.0 c.if-walk-station.false (sym c.is_astray.ensures ∙ c.if-is_astray.false)

pub returns-then-ne : goal.returns-then-ne
returns-then-ne c =
    elim c.then-ne.branch [
      | then-ne-via-then-ne w ↦
          later-image c.args.station c.args.known.bytes.now c.args.walk c.args.stack.now c.args.asked.now c.args.room.0 c.if-walk-station.false (sym c.is_astray.ensures ∙ c.if-is_astray.false) (rw c.arguments.ensures at c.if-asked-arguments.false) (sym c.other_types.ensures ∙ c.if-other_types.false) _ c.from-then-ne.ensures (λ q. eqb-false _ _ (not-true _ (sym c.ne.ensures ∙ w.if-ne.true)) (q ∙ sym c.requires))
      | then-ne-via-else-ne+then-ne-2 w ↦
          later-short c.args.station c.args.known.bytes.now c.args.walk c.args.stack.now c.args.asked.now c.args.room.0 c.if-walk-station.false (sym c.is_astray.ensures ∙ c.if-is_astray.false) (rw c.arguments.ensures at c.if-asked-arguments.false) (sym c.other_types.ensures ∙ c.if-other_types.false) (eqb-true _ _ (not-false _ (sym c.ne.ensures ∙ w.if-ne.false)) ∙ c.requires) _ w.bytes_left.ensures _ c.from-then-ne.ensures
          (eqb-false _ _ (not-true _ (sym w.ne-else-ne.ensures ∙ w.if-ne-2.true)))
    ]

pub returns : goal.returns
returns c = later-right c.args.station c.args.known.bytes.now c.args.walk c.args.stack.now c.args.asked.now c.args.room.0 c.if-walk-station.false (sym c.is_astray.ensures ∙ c.if-is_astray.false) (rw c.arguments.ensures at c.if-asked-arguments.false) (sym c.other_types.ensures ∙ c.if-other_types.false) (eqb-true _ _ (not-false _ (sym c.ne.ensures ∙ c.if-ne.false)) ∙ c.requires) _ c.bytes_left.ensures (eqb-true _ _ (not-false _ (sym c.ne-else-ne.ensures ∙ c.if-ne-2.false)))
