-- Of four bytes, or none.
-- Assumes nothing.
use mathlib.Core.List.{[], ◌∷◌}
use native.Mathlib.Omega.{arith}
use Rattle.planning.proofs.Writing.{fours-four, fours-none, wrote_as, wrote_none, room_as}
use Rattle.planning.proofs.lists.put_four.Goals as goal

pub returns-then-bytes-ne4 : goal.returns-then-bytes-ne4
returns-then-bytes-ne4 c = wrote_none c.args.plan.now _ c.args.at (fours-none c.args.source c.args.target c.args.bytes c.if-bytes-ne4.true)

pub put_two-requires : goal.put_two-requires
put_two-requires c = (room_as (c.args.source ∷ c.args.target ∷ []) _ c.args.at _ (fours-four c.args.source c.args.target c.args.bytes c.if-bytes-ne4.false) c.requires.0, omega (arith, c.requires.1.source), omega (arith, c.requires.1.target))

pub returns : goal.returns
returns c = wrote_as c.args.plan.now _ (c.args.source ∷ c.args.target ∷ []) _ c.args.at _ (fours-four c.args.source c.args.target c.args.bytes c.if-bytes-ne4.false) c.put_two.ensures
