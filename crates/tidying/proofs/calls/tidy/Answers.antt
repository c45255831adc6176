-- `tidy` meets its contract, answer by answer.
-- Assumes nothing.
use mathlib.Core.Path.{sym, ◌∙◌}
use Rattle.std.proofs.lemmas.Result.{err_from_is_err_and}
use Rattle.tidying.proofs.Answering.{tidy-early, tidy-room, tidy-done}
use Rattle.tidying.proofs.calls.tidy.Goals as goal

pub returns-in_err-tidied : goal.returns-in_err-tidied
returns-in_err-tidied c = let p = err_from_is_err_and c.from_residual.result c.from_residual.ensures.1 in rw (p.1, p.2) (tidy-early c.args.d.now c.args.out.now c.in_err-tidied.ensures.0 _ c.in_err-tidied.ensures.1)

pub returns-then-out-length : goal.returns-then-out-length
returns-then-out-length c = tidy-room c.args.d.now c.args.out.now c.in_ok-tidied.ensures.0 (λ z. c.if-out-length.true (z ∙ sym (c.length-length.ensures ∙ rw c.in_ok-tidied.ensures.1))) c.from.result c.from.ensures

pub returns : goal.returns
returns c =
    tidy-done c.args.d.now c.args.out.now c.in_ok-tidied.ensures.0 (c.if-out-length.false ∙ c.length-length.ensures ∙ rw c.in_ok-tidied.ensures.1) c.write.new.out (c.write.ensures ∙ rw c.in_ok-tidied.ensures.1)
