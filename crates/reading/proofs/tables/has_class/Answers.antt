-- The table's test is computed. Assumes nothing.
use mathlib.Core.Path.{ap, ◌∙◌}
use Prim.Native.Nat.{ℕ}
use lib.Dec.{eqb}
use native.Mathlib.Omega.{arith}
use Rattle.reading.specs.Coded.{class_code}
use Rattle.reading.proofs.Lists.{class_list}
use Rattle.reading.proofs.Tested.{class_right}
use Rattle.grammar.specs.Tokens.{class_of}
use Rattle.reading.proofs.tables.has_class.Goals as goal

pub returns : goal.returns
unfolding class_list
returns c =
    ap (λ (z : ℕ). eqb z c.number.result) (class_right c.from.result (omega (arith, c.from.ensures)) ∙ ap (λ (z : ℕ). class_code (class_of z)) c.from.ensures)
    ∙ ap (eqb (class_code (class_of c.args.b))) c.number.ensures
