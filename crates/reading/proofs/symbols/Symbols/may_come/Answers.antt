-- A token may come where some symbol takes it. Assumes nothing.
use mathlib.Core.Path.{sym, ◌∙◌}
use Rattle.reading.proofs.Takers.{fits-live, counted-test}
use Rattle.grammar.specs.Prototype.{declarations}
use Rattle.reading.proofs.symbols.Symbols.may_come.Goals as goal

pub returns : goal.returns
returns c = c.is_some.ensures ∙ counted-test _ ∙ fits-live declarations _ _ _ _ (sym c.taker.ensures.0)
