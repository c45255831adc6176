-- Written by tools/tightness: each public function of `listing` meets its contract, and the contract is tight. Assumes nothing.
use Rattle.std.specs.Prelude.{◌≡◌, refl}
use mathlib.Core.Path.{sym, ◌∙◌}
use mir.Syntax.{erased}
use Rattle.tightness.specs.Tight.{Meets, Tight}
use Rattle.tightness.proofs.Laws.{bytes, result, settle}
use Rattle.listing.specs.contracts.texts.Text as listing_Text
use Rattle.listing.specs.contracts.write_listing
use Rattle.listing.proofs.write_listing.Met as write_listing_met
use Rattle.listing.proofs.write_listing.Symbol as write_listing_symbol
use Rattle.listing.specs.contracts.texts.Text.put as Text_put
use Rattle.listing.proofs.texts.Text.put.Met as Text_put_met
use Rattle.listing.proofs.texts.Text.put.Symbol as Text_put_symbol
use Rattle.listing.specs.contracts.texts.Text.put_decimal as Text_put_decimal
use Rattle.listing.proofs.texts.Text.put_decimal.Met as Text_put_decimal_met
use Rattle.listing.proofs.texts.Text.put_decimal.Symbol as Text_put_decimal_symbol

pub meets_listing_write_listing : Meets write_listing.ended (λ M 𝓤 𝓛. write_listing.clauses 𝓛) write_listing_symbol.name write_listing_symbol.code
meets_listing_write_listing M = write_listing_met.met

pub tight_listing_write_listing : Tight write_listing.ended (λ M 𝓤 𝓛. write_listing.clauses 𝓛)
tight_listing_write_listing c r q w v a b = (settle (result write_listing.ended c) a.ensured b.ensured (λ e f. e.0 ∙ sym f.0), λ i. (tt, (same_out i, tt)))
  where
    same_out : w.1.0 ≡ v.1.0
    same_out = settle bytes a.ensured b.ensured (λ e f. e.2 ∙ sym f.2)

pub meets_listing_Text_put : Meets Text_put.ended (λ M 𝓤 𝓛. Text_put.clauses 𝓛) Text_put_symbol.name Text_put_symbol.code
meets_listing_Text_put M = Text_put_met.met

pub tight_listing_Text_put : Tight Text_put.ended (λ M 𝓤 𝓛. Text_put.clauses 𝓛)
tight_listing_Text_put c r q w v a b = (refl, λ i. (same_self i, (tt, tt)))
  where
    same_self : w.0 ≡ v.0
    same_self = settle ((listing_Text.the_row (record { mir = erased; lft = c.lifetimes.0 })).coded) a.ensured b.ensured (λ e f. e.is ∙ sym f.is)

pub meets_listing_Text_put_decimal : Meets Text_put_decimal.ended (λ M 𝓤 𝓛. Text_put_decimal.clauses 𝓛) Text_put_decimal_symbol.name Text_put_decimal_symbol.code
meets_listing_Text_put_decimal M = Text_put_decimal_met.met

pub tight_listing_Text_put_decimal : Tight Text_put_decimal.ended (λ M 𝓤 𝓛. Text_put_decimal.clauses 𝓛)
tight_listing_Text_put_decimal c r q w v a b = (refl, λ i. (same_self i, (tt, tt)))
  where
    same_self : w.0 ≡ v.0
    same_self = settle ((listing_Text.the_row (record { mir = erased; lft = c.lifetimes.0 })).coded) a.ensured b.ensured (λ e f. e.is ∙ sym f.is)
