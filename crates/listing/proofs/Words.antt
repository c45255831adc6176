-- A word that is stored is the register's. Assumes nothing.
use mathlib.Core.Path.{◌≡◌, sym}
use mathlib.Core.Bool.{Bool}
use mathlib.Core.List.{[], ◌∷◌}
use Prim.Native.Nat.{ℕ, ◌≤◌, ◌<◌}
use native.Mathlib.Omega.{arith}
use borrow.Author.Tests.{lt-ltb, le-ltb}
use lib.ListN.{length, get_or, get_or-eq_default}
use Rattle.listing.specs.Decimal.{digit}
use Rattle.listing.specs.declared.texts.Text.{Text}
use Rattle.listing.specs.Puts.{Puts}
use Rattle.listing.proofs.Puts.{puts_none, puts_join, puts_more, puts_same}
use Rattle.listing.specs.Words.{xmm}
use Rattle.listing.specs.PlaceWords.{names, general_word, vector_word}

-- the k-th general register, and one that has no name
pub general-is : {j k : ℕ} {side : Bool} {a b : Text} (back : Bool) (n : ℕ) → back ≡ side → n ≡ k → Puts j a b (get_or (names side) k []) → j ≤ 4 → Puts 4 a b (general_word back n)
unfolding general_word
general-is back n e f w h = rw (e, f) (puts_more w h)

pub general-none : {side : Bool} (back : Bool) (n : ℕ) (a : Text) → back ≡ side → length (names side) ≤ n → Puts 4 a a (general_word back n)
unfolding general_word
general-none {side} back n a e h = rw e (puts_same (puts_more (puts_none a) (omega arith)) (sym (get_or-eq_default (names side) [] h)))

-- the n-th vector register, and none
pub vector-is : {a b c : Text} (n : ℕ) → n < 8 → Puts 4 a b xmm → Puts 1 b c (digit n ∷ []) → Puts 5 a c (vector_word n)
unfolding vector_word
vector-is n h v w = rw (lt-ltb n 8 h) (puts_join v w)

pub vector-none : (n : ℕ) (a : Text) → 8 ≤ n → Puts 5 a a (vector_word n)
unfolding vector_word
vector-none n a h = rw (le-ltb n 8 h) (puts_more (puts_none a) (omega arith))
