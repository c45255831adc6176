-- What the tests of two counts or sizes say. Assumes nothing.
use mathlib.Core.Path.{◌≡◌, refl, sym, ap, ◌∙◌}
use mathlib.Core.Bool.{Bool, true, false, true≢false}
use Prim.Native.Nat.{ℕ, ◌<◌}
use borrow.Author.Tests.{le-leb, lt-leb}
use lib.Dec.{leb}
use Rattle.std.specs.Ordering.{is_le, is_gt, nat_cmp}
use Rattle.std.proofs.lemmas.Cmp.{ranked, by_ranked}
use Rattle.std.proofs.lemmas.Map.Keys.{le_from_is_le}

module _ (a b : ℕ) where
  pub over_from_gt : is_gt (nat_cmp a b) ≡ true → b < a
  over_from_gt h = by_ranked (a < b) (a ≡ b) (b < a) (nat_cmp a b) (ranked a b _ refl) (λ e _. absurd (true≢false (sym h ∙ ap is_gt e))) (λ e _. absurd (true≢false (sym h ∙ ap is_gt e))) (λ _ l. l)

  pub over_from_not_le : is_le (nat_cmp a b) ≡ false → b < a
  over_from_not_le h = by_ranked (a < b) (a ≡ b) (b < a) (nat_cmp a b) (ranked a b _ refl) (λ e _. absurd (true≢false (sym (ap is_le e) ∙ h))) (λ e _. absurd (true≢false (sym (ap is_le e) ∙ h))) (λ _ l. l)

  pub le-leb_test : is_le (nat_cmp a b) ≡ leb a b
  le-leb_test = by (is_le (nat_cmp a b)) refl
    where
      by : (t : Bool) → is_le (nat_cmp a b) ≡ t → t ≡ leb a b
      by true e = sym (le-leb a b (le_from_is_le a b e))
      by false e = sym (lt-leb a b (over_from_not_le e))
