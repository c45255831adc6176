-- `is_token` meets its contract: the same length, and the same bytes.
-- Assumes nothing.
use mathlib.Core.Path.{◌∙◌}
use mathlib.Core.List.{[]}
use lib.ListN.{get_or}
use borrow.Author.Tests.{ne_eqb}
use Rattle.reading.proofs.Spelling.{is-other, is_same}
use Rattle.grammar.specs.Prototype.{spellings}
use Rattle.reading.proofs.tokens.is_token.Goals as goal

pub returns-else-spelling_length-token : goal.returns-else-spelling_length-token
returns-else-spelling_length-token c = ne_eqb _ _ c.if-spelling_length-token.false ∙ is-other c.args.token.now (get_or spellings c.args.i []) _ c.spelling_length.ensures.0 c.if-spelling_length-token.false

pub returns-then-spelling_length-token : goal.returns-then-spelling_length-token
returns-then-spelling_length-token c = is_same c.args.token.now (get_or spellings c.args.i []) _ _ c.spelling_length.ensures.0 c.if-spelling_length-token.true c.begins_token.ensures
