-- `tidy_length` meets its contract.
-- Assumes nothing.
use mathlib.Core.Path.{◌∙◌}
use Rattle.std.proofs.lemmas.Result.{err_from_is_err_and}
use Rattle.tidying.proofs.Answering.{length-refused, length-known}
use Rattle.tidying.proofs.calls.tidy_length.Goals as goal

pub returns-in_err-tidied : goal.returns-in_err-tidied
returns-in_err-tidied c = let p = err_from_is_err_and c.from_residual.result c.from_residual.ensures.1 in rw (p.1, p.2) (length-refused c.args.d.now c.in_err-tidied.ensures.0 _ c.in_err-tidied.ensures.1)

pub returns : goal.returns
returns c = length-known c.args.d.now c.in_ok-tidied.ensures.0 _ (c.length.ensures ∙ rw c.in_ok-tidied.ensures.1)
