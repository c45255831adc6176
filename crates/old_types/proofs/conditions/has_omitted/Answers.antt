-- `has_omitted` meets its contract.
-- Assumes nothing.
use mathlib.Core.Path.{refl}
use native.Mathlib.Omega.{arith}
use Rattle.std.proofs.Common.{rules, tests}
use Rattle.std.proofs.lemmas.Iterator.{YieldsList-from_range}
use Rattle.description.specs.Description.{types_in}
use Rattle.form.proofs.Search.{found_any}
use Rattle.old_types.specs.Conditions.{omitted, left_out}
use Rattle.old_types.proofs.conditions.has_omitted.Goals as goal

pub returns : goal.returns
unfolding left_out
returns c =
    found_any (omitted c.args.d.now) 0 (types_in c.args.d.now) _ _ _ c.any.result c.any.ensures.ran (YieldsList-from_range 0 _ _ refl (omega (arith, c.byte_at.ensures.0))) (omega arith) (λ x b q k. search (rules, tests))
