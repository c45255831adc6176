-- `of_call` meets its contract.
-- Assumes nothing.
use mathlib.Core.Path.{◌∙◌}
use Rattle.tidying.proofs.All.{all_reached}
use Rattle.tidying.proofs.numbering.Numbering.of_call.Goals as goal

pub returns : goal.returns
returns c =
    let here = c.reach_return.ensures.0 ∙ c.new-numbering.ensures.0 in (
      c.reach_arguments.ensures.0 ∙ here,
      all_reached c.args.types.bytes.now c.reach_arguments.new.self.numbers c.reach_arguments.new.self.originals c.reach_arguments.new.self.count
          (rw (c.reach_arguments.ensures.0 ∙ here) at c.reach_arguments.new.self.right) c.new-numbering.result.originals c.reach_return.new.self.numbers c.reach_return.new.self.originals c.reach_return.new.self.count
          (rw (c.new-numbering.ensures.0, c.new-numbering.ensures.1) at c.reach_return.ensures.1) (rw c.new-numbering.ensures.0 at c.reach_return.ensures.2) (rw here at c.reach_arguments.ensures.1) (rw here at c.reach_arguments.ensures.2) c.reach_arguments.ensures.3,
    )
