-- Written by tools/tightness: each public function of `finishing` meets its contract, and the contract is tight. Assumes nothing.
use Rattle.std.specs.Prelude.{◌≡◌}
use mathlib.Core.Path.{sym, ◌∙◌}
use Rattle.tightness.specs.Tight.{Meets, Tight}
use Rattle.tightness.proofs.Laws.{bytes, result, settle}
use Rattle.walk.specs.contracts.Walk as walk_Walk
use Rattle.finishing.specs.contracts.finish_walk
use Rattle.finishing.proofs.finish_walk.Met as finish_walk_met
use Rattle.finishing.proofs.finish_walk.Symbol as finish_walk_symbol

pub meets_finishing_finish_walk : Meets finish_walk.ended (λ M 𝓤 𝓛. finish_walk.clauses 𝓛) finish_walk_symbol.name finish_walk_symbol.code
meets_finishing_finish_walk M = finish_walk_met.met

pub tight_finishing_finish_walk : Tight finish_walk.ended (λ M 𝓤 𝓛. finish_walk.clauses 𝓛)
tight_finishing_finish_walk c r q w v a b = (settle (result finish_walk.ended c) a.ensured b.ensured (λ e f. e.0 ∙ sym f.0), λ i. (tt, (tt, (same_walk i, (tt, (tt, (tt, (same_out i, tt))))))))
  where
    same_walk : w.1.1.0 ≡ v.1.1.0
    same_walk = settle (walk_Walk.the_row).coded a.ensured b.ensured (λ e f. e.1 ∙ sym f.1)

    same_out : w.1.1.1.1.1.1.0 ≡ v.1.1.1.1.1.1.0
    same_out = settle bytes a.ensured b.ensured (λ e f. e.2 ∙ sym f.2)
