-- The refusal of the checks.
-- Assumes nothing.
use Rattle.std.proofs.lemmas.Result.{err_from_is_err_and}
use Rattle.walk.proofs.ShownParts.{number-not, number-none}
use Rattle.station.specs.Paper.{kcb}
use Rattle.walk.proofs.showing.show_number.Goals as goal

pub returns-in_err-checked : goal.returns-in_err-checked
returns-in_err-checked c =
    let p = err_from_is_err_and c.from_residual.result c.from_residual.ensures.1 in
    rw (p.1, p.2) (number-not kcb _ _ c.args.walk.position _ c.in_err-checked.ensures)

pub returns : goal.returns
returns c = number-none kcb _ _ c.args.walk.position _ c.in_ok-checked.ensures
