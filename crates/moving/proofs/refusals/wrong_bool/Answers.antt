-- `wrong_bool` meets its contract: where no type is _Bool, none is broken.
-- Assumes nothing.
use mathlib.Core.Path.{sym, ◌∙◌}
use borrow.Author.Tests.{ltb-false}
use Rattle.moving.proofs.Turns.{whole}
use Rattle.moving.proofs.Searching.{none_broken}
use Rattle.moving.proofs.refusals.wrong_bool.Goals as goal

pub has_bool-requires : goal.has_bool-requires
has_bool-requires c = whole _ c.requires.0

pub returns-else-has_bool : goal.returns-else-has_bool
returns-else-has_bool c = c.if-has_bool.false ∙ none_broken _ c.args.values.now c.requires.0 (ltb-false _ _ (sym c.has_bool.ensures ∙ c.if-has_bool.false))
