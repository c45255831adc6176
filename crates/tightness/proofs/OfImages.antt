-- Written by tools/tightness: each public function of `images` meets its contract, and the contract is tight. Assumes nothing.
use Rattle.std.specs.Prelude.{◌≡◌, refl, ◌++◌, length}
use mathlib.Core.Path.{sym, ◌∙◌}
use mathlib.Core.Logic.{∥∥₁_prop, ∥∥₁_elim, ∥∥₁_map}
use denote.Triple.Entry.{Res}
use denote.Triple.Clauses.{Lasts}
use denote.RattleType.{RattleType}
use Rattle.tightness.specs.Tight.{Meets, MeetsNumber, Tight, Admits}
use Rattle.tightness.proofs.Laws.{bytes, equal, result, settle, settle_parts}
use Rattle.images.specs.contracts.address_of
use Rattle.images.proofs.address_of.Met as address_of_met
use Rattle.images.proofs.address_of.Symbol as address_of_symbol
use Rattle.images.specs.contracts.copy_word
use Rattle.images.proofs.copy_word.Met as copy_word_met
use Rattle.images.proofs.copy_word.Symbol as copy_word_symbol
use Rattle.images.specs.contracts.place_one
use Rattle.images.proofs.place_one.Met as place_one_met
use Rattle.images.proofs.place_one.Symbol as place_one_symbol
use Rattle.images.specs.contracts.gather_one
use Rattle.images.proofs.gather_one.Met as gather_one_met
use Rattle.images.proofs.gather_one.Symbol as gather_one_symbol
use Rattle.images.specs.contracts.put_address
use Rattle.images.proofs.put_address.Met as put_address_met
use Rattle.images.proofs.put_address.Symbol as put_address_symbol
use Rattle.images.specs.contracts.address_in
use Rattle.images.proofs.address_in.Met as address_in_met
use Rattle.images.proofs.address_in.Symbol as address_in_symbol

pub meets_images_address_of : Meets address_of.ended (λ M 𝓤 𝓛. address_of.clauses 𝓛) address_of_symbol.name address_of_symbol.code
meets_images_address_of M = address_of_met.met

pub tight_images_address_of : Tight address_of.ended (λ M 𝓤 𝓛. address_of.clauses 𝓛)
tight_images_address_of c r q w v a b = (settle (result address_of.ended c) a.ensured b.ensured (λ e f i. record { 0 = (e ∙ sym f) i }), refl)

pub meets_images_copy_word : MeetsNumber copy_word.ended (λ N M 𝓤 𝓛. copy_word.clauses N 𝓛) copy_word_symbol.name copy_word_symbol.code
meets_images_copy_word M = copy_word_met.met

pub tight_images_copy_word : (N : RattleType) → Tight (copy_word.ended N) (λ M 𝓤 𝓛. copy_word.clauses N 𝓛)
tight_images_copy_word N c r q w v a b = (refl, λ i. (same_dst i, (tt, (tt, (tt, tt)))))
  where
    same_dst : w.0 ≡ v.0
    same_dst = equal bytes a.ensured b.ensured

pub meets_images_place_one : Meets place_one.ended (λ M 𝓤 𝓛. place_one.clauses 𝓛) place_one_symbol.name place_one_symbol.code
meets_images_place_one M = place_one_met.met

pub tight_images_place_one : Tight place_one.ended (λ M 𝓤 𝓛. place_one.clauses 𝓛)
tight_images_place_one c r q w v a b = (refl, λ i. (parts_registers.0 i, (parts_upper.0 i, (parts_upper.1 i, (tt, (tt, (tt, (tt, tt))))))))
  where
    kept_registers : (r : Res place_one.ended.signature c.lifetimes) (w : Lasts place_one.ended c.lifetimes c.passed) → Admits place_one.ended (λ M 𝓤 𝓛. place_one.clauses 𝓛) c r w → ∥ length w.0 ≡ length c.passed.0.now ∥₁
    kept_registers r w a = ∥∥₁_elim a.lent ∥∥₁_prop (λ s. ∥∥₁_elim s.3 ∥∥₁_prop (λ t. ∥∥₁_elim t.3 ∥∥₁_prop (λ t. ∥∥₁_map t.4 (λ u. u.0))))

    parts_registers : (w.0 ≡ v.0) × (w.1.0 ++ w.1.1.0 ≡ v.1.0 ++ v.1.1.0)
    parts_registers = settle_parts a.ensured b.ensured (λ e f. e ∙ sym f) (kept_registers r w a) (kept_registers q v b)

    kept_upper : (r : Res place_one.ended.signature c.lifetimes) (w : Lasts place_one.ended c.lifetimes c.passed) → Admits place_one.ended (λ M 𝓤 𝓛. place_one.clauses 𝓛) c r w → ∥ length w.1.0 ≡ length c.passed.1.0.now ∥₁
    kept_upper r w a = ∥∥₁_elim a.lent ∥∥₁_prop (λ s. ∥∥₁_elim s.4 ∥∥₁_prop (λ s. ∥∥₁_elim s.3 ∥∥₁_prop (λ t. ∥∥₁_elim t.3 ∥∥₁_prop (λ t. ∥∥₁_map t.4 (λ u. u.0)))))

    parts_upper : (w.1.0 ≡ v.1.0) × (w.1.1.0 ≡ v.1.1.0)
    parts_upper = settle_parts a.ensured b.ensured (λ e f. parts_registers.1) (kept_upper r w a) (kept_upper q v b)

pub meets_images_gather_one : Meets gather_one.ended (λ M 𝓤 𝓛. gather_one.clauses 𝓛) gather_one_symbol.name gather_one_symbol.code
meets_images_gather_one M = gather_one_met.met

pub tight_images_gather_one : Tight gather_one.ended (λ M 𝓤 𝓛. gather_one.clauses 𝓛)
tight_images_gather_one c r q w v a b = (refl, λ i. (tt, (tt, (tt, (tt, (tt, (same_values i, (tt, tt))))))))
  where
    same_values : w.1.1.1.1.1.0 ≡ v.1.1.1.1.1.0
    same_values = equal bytes a.ensured b.ensured

pub meets_images_put_address : Meets put_address.ended (λ M 𝓤 𝓛. put_address.clauses 𝓛) put_address_symbol.name put_address_symbol.code
meets_images_put_address M = put_address_met.met

pub tight_images_put_address : Tight put_address.ended (λ M 𝓤 𝓛. put_address.clauses 𝓛)
tight_images_put_address c r q w v a b = (refl, λ i. (same_registers i, (tt, tt)))
  where
    same_registers : w.0 ≡ v.0
    same_registers = equal bytes a.ensured b.ensured

pub meets_images_address_in : Meets address_in.ended (λ M 𝓤 𝓛. address_in.clauses 𝓛) address_in_symbol.name address_in_symbol.code
meets_images_address_in M = address_in_met.met

pub tight_images_address_in : Tight address_in.ended (λ M 𝓤 𝓛. address_in.clauses 𝓛)
tight_images_address_in c r q w v a b = (equal (result address_in.ended c) a.ensured b.ensured, refl)
