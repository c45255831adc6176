-- The lines of a listing, from the words that are stored. Assumes nothing.
use Rattle.std.specs.Prelude.{Ok, Result}
use mathlib.Core.Path.{◌≡◌, sym, ap, ap₂, ◌∙◌}
use mathlib.Core.List.{List, ◌++◌, append_assoc, append-nil}
use Prim.Native.Nat.{ℕ, zero, suc, ◌+◌, ◌*◌, ◌≤◌, ◌<◌}
use native.Mathlib.Nat.{add-zero, zero-add}
use native.Mathlib.Numerals.{add-one}
use native.Mathlib.Omega.{arith}
use borrow.Author.Tests.{ne_eqb}
use lib.ListN.{length, drop}
use Rattle.description.specs.Description.{variadic_in, named_in, arguments_in, return_in}
use Rattle.places.specs.declared.Used.{Used}
use Rattle.layout.specs.declared.Layout.{Layout}
use Rattle.layout.specs.declared.placements.Laying.{Laying}
use Rattle.layout.specs.declared.placements.Placement.{Placement}
use Rattle.layout.specs.Asks.{AskRecord}
use Rattle.layout.specs.Layout.{layout_of, layout_answer}
use Rattle.layout.specs.Placements.{laying_fresh, laying_at, placement_at, step_at}
use Rattle.layout.specs.Verdict.{verdict}
use Rattle.layout.proofs.Verdict.{accepted-uses}
use Rattle.layout.proofs.Layouts.{record_asks, laying_none, laying_next, laid-accepted}
use Rattle.listing.specs.declared.texts.Text.{Text}
use Rattle.listing.specs.Written.{written}
use Rattle.listing.specs.Puts.{Puts}
use Rattle.listing.proofs.Written.{written_is}
use Rattle.listing.proofs.Puts.{puts_none, puts_join, puts_more, puts_same, puts_behind, puts_bytes}
use Rattle.listing.specs.Words.{numbered, walk, gp, fp, over, newline}
use Rattle.listing.specs.Listing.{head_line, record_line, record_lines, return_line, walk_line, laid_text, text_of, listing}
use Rattle.listing.specs.Asks.{Accepted}
use Rattle.form.specs.declared.Refusal.{Refusal}

-- the last record
records-last : (d : List ℕ) (n k : ℕ) → record_lines d k (suc n) ≡ record_lines d k n ++ record_line (k + n) (placement_at d (k + n))
unfolding record_lines
records-last d zero k = append-nil (record_line k (placement_at d k)) ∙ ap (λ (j : ℕ). record_line j (placement_at d j)) (sym (add-zero k))
records-last d (suc n) k =
    ap (λ (l : List ℕ). record_line k (placement_at d k) ++ l) (records-last d n (k + 1))
    ∙ sym (append_assoc (record_line k (placement_at d k)) (record_lines d (k + 1) n) (record_line (k + 1 + n) (placement_at d (k + 1 + n))))
    ∙ ap (λ (j : ℕ). (record_line k (placement_at d k) ++ record_lines d (k + 1) n) ++ record_line j (placement_at d j)) (omega arith)

records-next : (d : List ℕ) (i : ℕ) → record_lines d 0 i ++ record_line i (placement_at d i) ≡ record_lines d 0 (i + 1)
records-next d i =
    ap (λ (j : ℕ). record_lines d 0 i ++ record_line j (placement_at d j)) (sym (zero-add i))
    ∙ sym (records-last d i 0)
    ∙ ap (record_lines d 0) (sym (add-one i))

-- i records are put, and what is laid out before the next is known
pub record Going (d : List ℕ) (before after : Text) (laid : Laying) (i : ℕ) : Type 0 where
  pub right : verdict d ≡ 0
  pub most : i ≤ arguments_in d
  pub laid-is : laid ≡ laying_at d i
  pub puts : Puts (69 * i) before after (record_lines d 0 i)

pub going_first : (d : List ℕ) (text : Text) (l : Layout) (x : Laying) → Accepted d l → x ≡ laying_fresh l.hidden → Going d text text x 0
unfolding record_lines layout_of
going_first d text l x a e = record {
  right = a.right;
  most = omega arith;
  laid-is = e ∙ ap (λ (k : Layout). laying_fresh k.hidden) a.laid ∙ sym (laying_none d);
  puts = puts_none text;
}

module _ {d : List ℕ} {a b : Text} {x : Laying} {i : ℕ} (g : Going d a b x i) where
  pub going_asks : i < arguments_in d → AskRecord d i x
  going_asks h = rw g.laid-is (record_asks d (accepted-uses d g.right) i h)

  pub going_record : (p : Placement) → p ≡ (step_at d x i).placement → p ≡ placement_at d i
  unfolding placement_at step_at
  going_record p e = e ∙ ap (λ (w : Laying). (step_at d w i).placement) g.laid-is

  going_after : (y : Laying) → y ≡ (step_at d x i).after → y ≡ laying_at d (i + 1)
  going_after y e = e ∙ ap (λ (w : Laying). (step_at d w i).after) g.laid-is ∙ laying_next d i

  pub going_next : {c : Text} (p : Placement) (y : Laying) → p ≡ (step_at d x i).placement → y ≡ (step_at d x i).after → i < arguments_in d → Puts 69 b c (record_line i p) → Going d a c y (i + 1)
  going_next p y e f h w = record {
    right = g.right;
    most = omega arith;
    laid-is = going_after y f;
    puts =
        puts_same (puts_more (puts_join g.puts (puts_same w (ap (record_line i) (going_record p e)))) (omega arith))
        (records-next d i);
  }

  pub going_last : arguments_in d ≤ i → arguments_in d ≤ 64 → Puts 4416 a b (record_lines d 0 (arguments_in d))
  going_last h m =
      let n : i ≡ arguments_in d = omega (arith, g.most) in
      puts_same (puts_more g.puts (omega arith)) (ap (record_lines d 0) n)

-- a walk's line
pub walk_is : {a b c e f : Text} (variadic : ℕ) (u : Used) (general vector : ℕ) → (variadic ≡ 0 → ⊥) → general ≡ 8 * u.general.0 → vector ≡ 16 * u.vector.0
    → Puts 13 a b (numbered (walk ++ gp) general) → Puts 9 b c (numbered fp (48 + vector)) → Puts 11 c e (numbered over u.stack.0) → Puts 1 e f newline
    → Puts 34 a f (walk_line variadic u)
unfolding walk_line
walk_is variadic u general vector z g v w x y n =
    rw (ne_eqb variadic 0 z)
    (puts_join (puts_join (puts_join (puts_same w (ap (numbered (walk ++ gp)) g)) (puts_same x (ap (λ (k : ℕ). numbered fp (48 + k)) v))) y) n)

-- the lines of an accepted description
pub laid-is : {a b c e f : Text} (d : List ℕ) (l : Layout) {all first k variadic : ℕ} → all ≡ arguments_in d → first ≡ named_in d → k ≡ return_in d → variadic ≡ variadic_in d
    → Puts 60 a b (head_line all first l) → Puts 4416 b c (record_lines d 0 (arguments_in d)) → Puts 30 c e (return_line k l.returns) → Puts 34 e f (walk_line variadic l.named)
    → Puts 4540 a f (laid_text d l)
unfolding laid_text
laid-is d l all first k variadic v w x y =
    puts_join
    (puts_join (puts_join (puts_same v (ap₂ (λ (m n : ℕ). head_line m n l) all first)) w) (puts_same x (ap (λ (n : ℕ). return_line n l.returns) k)))
    (puts_same y (ap (λ (n : ℕ). walk_line n l.named) variadic))

pub accepted-laid : (d : List ℕ) (l : Layout) → layout_answer d ≡ Ok l → Accepted d l
accepted-laid d l e = let k = laid-accepted d l e in record { right = k.0; laid = k.1 }

pub listing-is : {a b : Text} (d : List ℕ) (answer : Result Layout Refusal) → answer ≡ layout_answer d → Puts 4540 a b (text_of d answer) → Puts 4540 a b (listing d)
unfolding listing
listing-is d answer e w = puts_same w (ap (text_of d) e)

-- the whole text at the start of the buffer
module _ (d out : List ℕ) (room : length out ≡ 8192) {a b : Text} (first : (a.out.now ≡ out) × (a.at ≡ 0)) (w : Puts 4540 a b (listing d)) where
  pub listing-length : b.at ≡ length (listing d)
  listing-length = omega (arith, first.1, puts_behind w)

  pub listing-short : b.at ≤ 4540
  listing-short = omega (arith, first.1, puts_behind w, w.short)

  pub listing-bytes : {new : List ℕ} → new ≡ b.out.now → new ≡ listing d ++ drop (length (listing d)) out
  listing-bytes e =
      e
      ∙ puts_bytes w
      ∙ ap₂ (λ (l : List ℕ) (k : ℕ). written l k (listing d)) first.0 first.1
      ∙ written_is out 0 (listing d) (omega (arith, w.short))
      ∙ ap (λ (k : ℕ). listing d ++ drop k out) (zero-add (length (listing d)))
