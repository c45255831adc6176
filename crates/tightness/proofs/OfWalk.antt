-- Written by tools/tightness: each public function of `walk` meets its contract, and the contract is tight. Assumes nothing.
use Rattle.std.specs.Prelude.{◌≡◌, refl}
use mathlib.Core.Path.{sym, ◌∙◌}
use Rattle.tightness.specs.Tight.{Meets, Tight, TightPart}
use Rattle.tightness.proofs.Laws.{bytes, equal, result, settle, source-same, standing-same}
use Rattle.walk.specs.contracts.Walk as walk_Walk
use Rattle.walk.specs.contracts.checked
use Rattle.walk.proofs.checked.Met as checked_met
use Rattle.walk.proofs.checked.Symbol as checked_symbol
use Rattle.walk.specs.contracts.Walk.is_astray as Walk_is_astray
use Rattle.walk.proofs.Walk.is_astray.Met as Walk_is_astray_met
use Rattle.walk.proofs.Walk.is_astray.Symbol as Walk_is_astray_symbol
use Rattle.walk.specs.contracts.fetching.CountsFromKind.from as CountsFromKind_from
use Rattle.walk.proofs.fetching.CountsFromKind.from.Met as CountsFromKind_from_met
use Rattle.walk.proofs.fetching.CountsFromKind.from.Symbol as CountsFromKind_from_symbol
use Rattle.walk.specs.contracts.fetching.CountsAdd.add as CountsAdd_add
use Rattle.walk.proofs.fetching.CountsAdd.add.Met as CountsAdd_add_met
use Rattle.walk.proofs.fetching.CountsAdd.add.Symbol as CountsAdd_add_symbol
use Rattle.walk.specs.contracts.fetching.CountsFromKinds.from as CountsFromKinds_from
use Rattle.walk.proofs.fetching.CountsFromKinds.from.Met as CountsFromKinds_from_met
use Rattle.walk.proofs.fetching.CountsFromKinds.from.Symbol as CountsFromKinds_from_symbol
use Rattle.walk.specs.contracts.Walk.fetch as Walk_fetch
use Rattle.walk.proofs.Walk.fetch.Met as Walk_fetch_met
use Rattle.walk.proofs.Walk.fetch.Symbol as Walk_fetch_symbol
use Rattle.walk.specs.contracts.Walk.behind as Walk_behind
use Rattle.walk.proofs.Walk.behind.Met as Walk_behind_met
use Rattle.walk.proofs.Walk.behind.Symbol as Walk_behind_symbol
use Rattle.walk.specs.contracts.open_walk
use Rattle.walk.proofs.open_walk.Met as open_walk_met
use Rattle.walk.proofs.open_walk.Symbol as open_walk_symbol
use Rattle.walk.specs.contracts.shown_at
use Rattle.walk.proofs.shown_at.Met as shown_at_met
use Rattle.walk.proofs.shown_at.Symbol as shown_at_symbol
use Rattle.walk.specs.contracts.show
use Rattle.walk.proofs.show.Met as show_met
use Rattle.walk.proofs.show.Symbol as show_symbol
use Rattle.walk.specs.contracts.show_number
use Rattle.walk.proofs.show_number.Met as show_number_met
use Rattle.walk.proofs.show_number.Symbol as show_number_symbol
use Rattle.walk.specs.contracts.step
use Rattle.walk.proofs.step.Met as step_met
use Rattle.walk.proofs.step.Symbol as step_symbol
use Rattle.walk.specs.contracts.Fetch.copy_out as Fetch_copy_out
use Rattle.walk.proofs.Fetch.copy_out.Met as Fetch_copy_out_met
use Rattle.walk.proofs.Fetch.copy_out.Symbol as Fetch_copy_out_symbol

pub meets_walk_checked : Meets checked.ended (λ M 𝓤 𝓛. checked.clauses 𝓛) checked_symbol.name checked_symbol.code
meets_walk_checked M = checked_met.met

pub tight_walk_checked : Tight checked.ended (λ M 𝓤 𝓛. checked.clauses 𝓛)
tight_walk_checked c r q w v a b = (settle (result checked.ended c) a.ensured b.ensured (λ e f. standing-same _ _ _ _ r q e f), refl)

pub meets_walk_Walk_is_astray : Meets Walk_is_astray.ended (λ M 𝓤 𝓛. Walk_is_astray.clauses 𝓛) Walk_is_astray_symbol.name Walk_is_astray_symbol.code
meets_walk_Walk_is_astray M = Walk_is_astray_met.met

pub tight_walk_Walk_is_astray : Tight Walk_is_astray.ended (λ M 𝓤 𝓛. Walk_is_astray.clauses 𝓛)
tight_walk_Walk_is_astray c r q w v a b = (equal (result Walk_is_astray.ended c) a.ensured b.ensured, refl)

pub meets_walk_CountsFromKind_from : Meets CountsFromKind_from.ended (λ M 𝓤 𝓛. CountsFromKind_from.clauses 𝓛) CountsFromKind_from_symbol.name CountsFromKind_from_symbol.code
meets_walk_CountsFromKind_from M = CountsFromKind_from_met.met

pub tight_walk_CountsFromKind_from : Tight CountsFromKind_from.ended (λ M 𝓤 𝓛. CountsFromKind_from.clauses 𝓛)
tight_walk_CountsFromKind_from c r q w v a b = (settle (result CountsFromKind_from.ended c) a.ensured b.ensured (λ e f i. record { general = record { 0 = (e.general ∙ sym f.general) i }; vector = record { 0 = (e.vector ∙ sym f.vector) i } }), refl)

pub meets_walk_CountsAdd_add : Meets CountsAdd_add.ended (λ M 𝓤 𝓛. CountsAdd_add.clauses 𝓛) CountsAdd_add_symbol.name CountsAdd_add_symbol.code
meets_walk_CountsAdd_add M = CountsAdd_add_met.met

pub tight_walk_CountsAdd_add : Tight CountsAdd_add.ended (λ M 𝓤 𝓛. CountsAdd_add.clauses 𝓛)
tight_walk_CountsAdd_add c r q w v a b = (settle (result CountsAdd_add.ended c) a.ensured b.ensured (λ e f i. record { general = record { 0 = (e.0 ∙ sym f.0) i }; vector = record { 0 = (e.1 ∙ sym f.1) i } }), refl)

pub meets_walk_CountsFromKinds_from : Meets CountsFromKinds_from.ended (λ M 𝓤 𝓛. CountsFromKinds_from.clauses 𝓛) CountsFromKinds_from_symbol.name CountsFromKinds_from_symbol.code
meets_walk_CountsFromKinds_from M = CountsFromKinds_from_met.met

pub tight_walk_CountsFromKinds_from : Tight CountsFromKinds_from.ended (λ M 𝓤 𝓛. CountsFromKinds_from.clauses 𝓛)
tight_walk_CountsFromKinds_from c r q w v a b = (settle (result CountsFromKinds_from.ended c) a.ensured b.ensured (λ e f i. record { general = record { 0 = (e.general ∙ sym f.general) i }; vector = record { 0 = (e.vector ∙ sym f.vector) i } }), refl)

pub meets_walk_Walk_fetch : Meets Walk_fetch.ended (λ M 𝓤 𝓛. Walk_fetch.clauses 𝓛) Walk_fetch_symbol.name Walk_fetch_symbol.code
meets_walk_Walk_fetch M = Walk_fetch_met.met

pub tight_walk_Walk_fetch : Tight Walk_fetch.ended (λ M 𝓤 𝓛. Walk_fetch.clauses 𝓛)
tight_walk_Walk_fetch c r q w v a b = (settle (result Walk_fetch.ended c) a.ensured b.ensured (λ e f. source-same r q (e ∙ sym f)), refl)

pub meets_walk_Walk_behind : Meets Walk_behind.ended (λ M 𝓤 𝓛. Walk_behind.clauses 𝓛) Walk_behind_symbol.name Walk_behind_symbol.code
meets_walk_Walk_behind M = Walk_behind_met.met

pub tight_walk_Walk_behind : Tight Walk_behind.ended (λ M 𝓤 𝓛. Walk_behind.clauses 𝓛)
tight_walk_Walk_behind c r q w v a b = (equal (result Walk_behind.ended c) a.ensured b.ensured, refl)

pub meets_walk_open_walk : Meets open_walk.ended (λ M 𝓤 𝓛. open_walk.clauses 𝓛) open_walk_symbol.name open_walk_symbol.code
meets_walk_open_walk M = open_walk_met.met

pub tight_walk_open_walk : Tight open_walk.ended (λ M 𝓤 𝓛. open_walk.clauses 𝓛)
tight_walk_open_walk c r q w v a b = (equal (result open_walk.ended c) a.ensured b.ensured, refl)

pub meets_walk_shown_at : Meets shown_at.ended (λ M 𝓤 𝓛. shown_at.clauses 𝓛) shown_at_symbol.name shown_at_symbol.code
meets_walk_shown_at M = shown_at_met.met

pub tight_walk_shown_at : Tight shown_at.ended (λ M 𝓤 𝓛. shown_at.clauses 𝓛)
tight_walk_shown_at c r q w v a b = (settle (result shown_at.ended c) a.ensured b.ensured (λ e f. e.0 ∙ sym f.0), refl)

pub meets_walk_show : Meets show.ended (λ M 𝓤 𝓛. show.clauses 𝓛) show_symbol.name show_symbol.code
meets_walk_show M = show_met.met

pub tight_walk_show : TightPart show.ended (λ c r. r.now) (λ M 𝓤 𝓛. show.clauses 𝓛)
tight_walk_show c r q w v a b = (equal bytes a.ensured b.ensured, refl)

pub meets_walk_show_number : Meets show_number.ended (λ M 𝓤 𝓛. show_number.clauses 𝓛) show_number_symbol.name show_number_symbol.code
meets_walk_show_number M = show_number_met.met

pub tight_walk_show_number : Tight show_number.ended (λ M 𝓤 𝓛. show_number.clauses 𝓛)
tight_walk_show_number c r q w v a b = (equal (result show_number.ended c) a.ensured b.ensured, refl)

pub meets_walk_step : Meets step.ended (λ M 𝓤 𝓛. step.clauses 𝓛) step_symbol.name step_symbol.code
meets_walk_step M = step_met.met

pub tight_walk_step : Tight step.ended (λ M 𝓤 𝓛. step.clauses 𝓛)
tight_walk_step c r q w v a b = (settle (result step.ended c) a.ensured b.ensured (λ e f. e.0 ∙ sym f.0), λ i. (tt, (tt, (same_walk i, (tt, (tt, (tt, (same_out i, tt))))))))
  where
    same_walk : w.1.1.0 ≡ v.1.1.0
    same_walk = settle (walk_Walk.the_row).coded a.ensured b.ensured (λ e f. e.1 ∙ sym f.1)

    same_out : w.1.1.1.1.1.1.0 ≡ v.1.1.1.1.1.1.0
    same_out = settle bytes a.ensured b.ensured (λ e f. e.2 ∙ sym f.2)

pub meets_walk_Fetch_copy_out : Meets Fetch_copy_out.ended (λ M 𝓤 𝓛. Fetch_copy_out.clauses 𝓛) Fetch_copy_out_symbol.name Fetch_copy_out_symbol.code
meets_walk_Fetch_copy_out M = Fetch_copy_out_met.met

pub tight_walk_Fetch_copy_out : Tight Fetch_copy_out.ended (λ M 𝓤 𝓛. Fetch_copy_out.clauses 𝓛)
tight_walk_Fetch_copy_out c r q w v a b = (refl, λ i. (tt, (tt, (tt, (tt, (same_out i, tt))))))
  where
    same_out : w.1.1.1.1.0 ≡ v.1.1.1.1.0
    same_out = equal bytes a.ensured b.ensured
