-- The answers about a text, exactly. Assumes nothing.
use mathlib.Core.Path.{◌≡◌, refl, sym, ap, ◌∙◌}
use mathlib.Core.Bool.{Bool, true, false}
use mathlib.Core.List.{List}
use mathlib.Core.Logic.{◌↔◌, ◌⊎◌, inl, inr}
use Prim.Native.Nat.{ℕ, ◌+◌, ◌≤◌, ◌<◌}
use native.Mathlib.Omega.{arith}
use lib.Dec.{ltb}
use lib.ListN.{length}
use borrow.Author.Tests.{lt-ltb, le-ltb, ltb-true, ltb-false}
use Rattle.grammar.specs.Grammar.{Event, Sentence}
use Rattle.grammar.specs.Machine.{Outcome, accepted, refused_at, read_text}
use Rattle.grammar.specs.Statements.{FirstWrong, Promises}
use Rattle.grammar.specs.Prototype.{declarations, prototype, types}
use Rattle.grammar.proofs.Prototype.{prototype-promises, types-promises}
use Rattle.std.specs.Prelude.{Result, Ok, Err}
use Rattle.reading.specs.declared.ReadError.{ReadError}
use Rattle.reading.specs.declared.ReadError.TheVariants.{TooLong, RefusedAt}
use Rattle.reading.specs.Code.{answer_of, reading_of}
use Rattle.reading.specs.Statements.{ReadsRightly}

pub too_long_lem : (start t : List ℕ) → 4096 < length t → Err TooLong ≡ reading_of start t
unfolding reading_of
too_long_lem start t h = rw (lt-ltb 4096 (length t) h) refl

pub short-enough : (start t : List ℕ) → length t ≤ 4096 → reading_of start t ≡ answer_of (read_text declarations start t)
unfolding reading_of
short-enough start t h = rw (le-ltb 4096 (length t) h) refl

abbrev mark : Result Unit ReadError → ℕ
mark (Ok t) = 0
mark (Err TooLong) = 1
mark (Err (RefusedAt p)) = 2 + p

-- what the answer says of the text's length, and which answer of the grammar it is
by_length : (start t : List ℕ) → ((4096 < length t) × (reading_of start t ≡ Err TooLong)) ⊎ ((length t ≤ 4096) × (reading_of start t ≡ answer_of (read_text declarations start t)))
by_length start t = by (ltb 4096 (length t)) refl
  where
    by : (b : Bool) → ltb 4096 (length t) ≡ b → ((4096 < length t) × (reading_of start t ≡ Err TooLong)) ⊎ ((length t ≤ 4096) × (reading_of start t ≡ answer_of (read_text declarations start t)))
    by true e = let l = ltb-true 4096 (length t) e in inl (l, sym (too_long_lem start t l))
    by false e = let l = ltb-false 4096 (length t) e in inr (l, short-enough start t l)

never_long : (o : Outcome) → answer_of o ≡ Err TooLong → ⊥
never_long (accepted es) q = let z : ◌≡◌ {A = ℕ} 0 1 = ap mark q in omega arith
never_long (refused_at p) q = let z : ◌≡◌ {A = ℕ} (2 + p) 1 = ap mark q in omega arith

answers-accepted : (o : Outcome) → answer_of o ≡ Ok tt → (es : List Event) × (o ≡ accepted es)
answers-accepted (accepted es) q = (es, refl)
answers-accepted (refused_at p) q = let z : ◌≡◌ {A = ℕ} (2 + p) 0 = ap mark q in absurd (omega arith)

answers-refused : (o : Outcome) (p : ℕ) → answer_of o ≡ Err (RefusedAt p) → o ≡ refused_at p
answers-refused (accepted es) p q = let z : ◌≡◌ {A = ℕ} 0 (2 + p) = ap mark q in absurd (omega arith)
answers-refused (refused_at r) p q = let z : ◌≡◌ {A = ℕ} (2 + r) (2 + p) = ap mark q in let e : r ≡ p = omega arith in ap refused_at e

module _ (start : List ℕ) (right : Promises declarations start) where
  long-exactly : (t : List ℕ) → (reading_of start t ≡ Err TooLong) ↔ (4096 < length t)
  long-exactly t = (to (by_length start t), λ l. sym (too_long_lem start t l))
    where
      to : ((4096 < length t) × (reading_of start t ≡ Err TooLong)) ⊎ ((length t ≤ 4096) × (reading_of start t ≡ answer_of (read_text declarations start t))) → reading_of start t ≡ Err TooLong → 4096 < length t
      to (inl h) q = h.0
      to (inr h) q = absurd (never_long (read_text declarations start t) (sym h.1 ∙ q))

  accepted-exactly : (t : List ℕ) → (reading_of start t ≡ Ok tt) ↔ ((length t ≤ 4096) × (es : List Event) × Sentence declarations start t es)
  accepted-exactly t = (to (by_length start t), λ h. short-enough start t h.0 ∙ ap answer_of ((right.accepts t h.1).1 h.2))
    where
      to : ((4096 < length t) × (reading_of start t ≡ Err TooLong)) ⊎ ((length t ≤ 4096) × (reading_of start t ≡ answer_of (read_text declarations start t)))
          → reading_of start t ≡ Ok tt → (length t ≤ 4096) × (es : List Event) × Sentence declarations start t es
      to (inl h) q = let z : ◌≡◌ {A = ℕ} 1 0 = ap mark (sym h.1 ∙ q) in absurd (omega arith)
      to (inr h) q = let (es, e) = answers-accepted (read_text declarations start t) (sym h.1 ∙ q) in (h.0, es, (right.accepts t es).0 e)

  refused-exactly : (t : List ℕ) (p : ℕ) → (reading_of start t ≡ Err (RefusedAt p)) ↔ ((length t ≤ 4096) × FirstWrong declarations start t p)
  refused-exactly t p = (to (by_length start t), λ h. short-enough start t h.0 ∙ ap answer_of ((right.refuses t p).1 h.1))
    where
      to : ((4096 < length t) × (reading_of start t ≡ Err TooLong)) ⊎ ((length t ≤ 4096) × (reading_of start t ≡ answer_of (read_text declarations start t)))
          → reading_of start t ≡ Err (RefusedAt p) → (length t ≤ 4096) × FirstWrong declarations start t p
      to (inl h) q = let z : ◌≡◌ {A = ℕ} 1 (2 + p) = ap mark (sym h.1 ∙ q) in absurd (omega arith)
      to (inr h) q = (h.0, (right.refuses t p).0 (answers-refused (read_text declarations start t) p (sym h.1 ∙ q)))

  reads-rightly : ReadsRightly start
  reads-rightly = record { too_long = long-exactly; accepts = accepted-exactly; refuses = refused-exactly }

pub prototype-reads : ReadsRightly prototype
prototype-reads = reads-rightly prototype prototype-promises

pub types-read : ReadsRightly types
types-read = reads-rightly types types-promises
