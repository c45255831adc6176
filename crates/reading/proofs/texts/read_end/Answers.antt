-- The last token, and then nothing that must come. Assumes nothing.
use mathlib.Core.Path.{◌∙◌}
use lib.ListN.{length}
use lib.Seq.{slice}
use Rattle.reading.specs.Code.{tops}
use Rattle.reading.proofs.Steps.{close-nowhere, close-ends}
use Rattle.reading.proofs.texts.read_end.Goals as goal

pub returns-else-end_token : goal.returns-else-end_token
returns-else-end_token c = c.if-end_token.false ∙ close-nowhere (slice c.args.start (length c.args.text.now) c.args.text.now) (tops c.args.symbols.now.cells c.args.symbols.now.depth) _ _ _ c.end_token.ensures.0 c.if-end_token.false

pub returns-then-end_token : goal.returns-then-end_token
returns-then-end_token c = close-ends (slice c.args.start (length c.args.text.now) c.args.text.now) (tops c.args.symbols.now.cells c.args.symbols.now.depth) _ _ _ _ c.end_token.ensures.0 c.if-end_token.true c.may_end.ensures
