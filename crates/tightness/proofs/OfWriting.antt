-- Written by tools/tightness: each public function of `writing` meets its contract, and the contract is tight. Assumes nothing.
use Rattle.std.specs.Prelude.{◌≡◌}
use mathlib.Core.Path.{sym, ◌∙◌}
use Rattle.tightness.specs.Tight.{Meets, Tight}
use Rattle.tightness.proofs.Laws.{bytes, result, settle}
use Rattle.writing.specs.contracts.write_declaration
use Rattle.writing.proofs.write_declaration.Met as write_declaration_met
use Rattle.writing.proofs.write_declaration.Symbol as write_declaration_symbol

pub meets_writing_write_declaration : Meets write_declaration.ended (λ M 𝓤 𝓛. write_declaration.clauses 𝓛) write_declaration_symbol.name write_declaration_symbol.code
meets_writing_write_declaration M = write_declaration_met.met

pub tight_writing_write_declaration : Tight write_declaration.ended (λ M 𝓤 𝓛. write_declaration.clauses 𝓛)
tight_writing_write_declaration c r q w v a b = (settle (result write_declaration.ended c) a.ensured b.ensured (λ e f. e.0 ∙ sym f.0), λ i. (tt, (same_out i, tt)))
  where
    same_out : w.1.0 ≡ v.1.0
    same_out = settle bytes a.ensured b.ensured (λ e f. e.1 ∙ sym f.1)
