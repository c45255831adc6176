-- `word_at` meets its contract.
-- Assumes nothing.
use mathlib.Core.Path.{ap, ◌∙◌}
use Rattle.description.specs.Description.{model_in}
use Rattle.classify.specs.Table.{word_of}
use Rattle.classify.proofs.Steps.{whole-basic}
use Rattle.types.proofs.Runs.{basic-low}
use Rattle.classify.proofs.class_table.word_at.Goals as goal

pub basic-requires : goal.basic-requires
basic-requires c =
    let r = c.in-Basic.ensures.1 in
    basic-low c.args.d.now c.args.k c.in-Basic.code c.requires.0 r.1.second r.0

pub returns-in-Basic : goal.returns-in-Basic
returns-in-Basic c =
    let r = c.in-Basic.ensures.1 in
    (c.basic.ensures (model_in c.args.d.now) ∙ ap word_of (whole-basic c.args.d.now c.args.k c.requires.0 r.0 c.in-Basic.code r.1.second), c.requires.1.right)
