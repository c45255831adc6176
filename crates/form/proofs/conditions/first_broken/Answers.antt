use Rattle.std.proofs.Common.{rules, tests, refl}
use Rattle.std.proofs.lemmas.Iterator.{YieldsList-from_range}
use native.Mathlib.Omega.{arith}
use Rattle.form.specs.Conditions.{broken_record}
use Rattle.form.proofs.Search.{found}
use Rattle.form.proofs.conditions.first_broken.Goals as goal

pub returns : goal.returns
returns c = found (broken_record c.args.d.now) 0 _ _ _ c.find.result c.find.ensures.ran (YieldsList-from_range 0 _ _ refl (omega (arith, c.byte_at.ensures.0))) (λ x b q k. search (rules, tests))
