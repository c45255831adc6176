-- A step: which number, and what it leaves. Assumes nothing.
use Rattle.std.specs.Prelude.{Err, Ok, Result}
use mathlib.Core.Path.{◌≡◌, refl, sym, ap, ap₂, ◌∙◌}
use mathlib.Core.Logic.{◌≢◌}
use mathlib.Core.Bool.{Bool, true, false, cond, not, ◌||◌}
use mathlib.Core.List.{List, [], ◌∷◌, ◌++◌}
use Prim.Native.Nat.{ℕ, suc, ◌<◌}
use native.Mathlib.Omega.{arith}
use lib.ListN.{length}
use borrow.Author.Tests.{eq-eqb, ne_eqb}
use Rattle.addresses.specs.Addresses.{gather}
use Rattle.form.specs.Order.{Rule, rule, first, Positive}
use Rattle.form.specs.Reading.{refusal_of}
use Rattle.form.specs.declared.Refusal.{Refusal}
use Rattle.places.specs.declared.Shape.{Shape as Coded}
use Rattle.places.specs.Shapes.{Shape}
use Rattle.places.specs.Recorded.{asked, Small}
use Rattle.station.specs.declared.Station.{Station}
use Rattle.station.specs.Paper.{Paper, kcb, answer_under, shape_at}
use Rattle.station.specs.Attachment.{wrong_seat, described}
use Rattle.station.proofs.Attachments.{under-not, under-refused, under-done}
use Rattle.station.proofs.Orders.{kept, left}
use Rattle.walk.specs.declared.Walk.{Walk}
use Rattle.walk.specs.declared.Fetch.{Fetch}
use Rattle.walk.specs.Offsets.{Source, read_at, step, bytes_from, source_of}
use Rattle.walk.specs.Orders.{Ask, asking, offsets_of, with_offsets, wrong_registers, other_number, astray, at_end, other_type, wrong_stack, wrong_out, step_refusal, show_refusal}
use Rattle.walk.specs.Steps.{bytes_at, moved_on, step_walk, step_out}
use Rattle.walk.specs.Asks.{InBounds, Within, IsStanding}
use Rattle.walk.proofs.Passes.{Ready, ready}
use Rattle.places.specs.Places.{eights}

-- ---- step's number from show's

-- one more condition in the last rule: it counts only where nothing else refuses
abbrev Late : ℕ → ℕ → Bool → Type 0
Late n m h = (m ≡ 0 → n ≡ cond h 11 0) × (m ≢ 0 → n ≡ m)

refused-same : (n : ℕ) (h : Bool) → Late (suc n) (suc n) h
refused-same n h = ((λ z. absurd (omega arith)), λ z. refl)

last : (c d e f g h : Bool)
    → Late (first (rule 17 c ∷ rule 18 d ∷ rule 19 e ∷ rule 20 f ∷ rule 11 (g || h) ∷ [])) (first (rule 17 c ∷ rule 18 d ∷ rule 19 e ∷ rule 20 f ∷ rule 11 g ∷ [])) h
last true d e f g h = refused-same 16 h
last false true e f g h = refused-same 17 h
last false false true f g h = refused-same 18 h
last false false false true g h = refused-same 19 h
last false false false false true h = refused-same 10 h
last false false false false false true = ((λ z. refl), λ z. absurd (z refl))
last false false false false false false = ((λ z. refl), λ z. absurd (z refl))

refused-some : (n : ℕ) (h : Bool) → 0 < n → Late n n h
refused-some n h l = ((λ z. absurd (omega arith)), λ z. refl)

behind : (qs : List Rule) → Positive qs → (c d e f g h : Bool)
    → Late (first (qs ++ (rule 17 c ∷ rule 18 d ∷ rule 19 e ∷ rule 20 f ∷ rule 11 (g || h) ∷ [])))
    (first (qs ++ (rule 17 c ∷ rule 18 d ∷ rule 19 e ∷ rule 20 f ∷ rule 11 g ∷ []))) h
behind [] p c d e f g h = last c d e f g h
behind (rule n true ∷ qs) p c d e f g h = refused-some n h p.0
behind (rule n false ∷ qs) p c d e f g h = behind qs p.1 c d e f g h

all : (a b : Bool) (n m : ℕ) (h : Bool) → Late n m h → Late (cond a 11 (cond b 13 n)) (cond a 11 (cond b 13 m)) h
all true b n m h l = refused-same 10 h
all false true n m h l = refused-same 12 h
all false false n m h l = l

module _ (P : Paper) (s : Station) (seat : List ℕ) (w : Walk) (a : Ask) where
  late : Late (step_refusal P s seat w a) (show_refusal P s seat w a) (wrong_out P (described s seat) w a)
  unfolding step_refusal show_refusal
  late =
      let d = described s seat in
      all (wrong_seat s seat || wrong_registers P a) (not s.attached) _ _ (wrong_out P d w a)
      (behind (P.order d) (P.counted d) (other_number s w) (astray P d w) (at_end P d w) (other_type P d w a) (wrong_stack P d a) (wrong_out P d w a))

  -- what show refuses, step refuses with the same number
  pub step-early : show_refusal P s seat w a ≢ 0 → step_refusal P s seat w a ≡ show_refusal P s seat w a
  step-early = late.1

  -- and what show accepts, step refuses for the out buffer alone
  pub step-late : show_refusal P s seat w a ≡ 0 → step_refusal P s seat w a ≡ cond (wrong_out P (described s seat) w a) 11 0
  step-late = late.0

  -- a refusal leaves the record and the out buffer
  pub step_left : step_refusal P s seat w a ≢ 0 → (w ≡ step_walk P s seat w a) × (a.out ≡ step_out P s seat w a)
  unfolding step_walk step_out
  step_left h = (sym (left (step_refusal P s seat w a) _ _ h), sym (left (step_refusal P s seat w a) _ _ h))

  pub step-done : step_refusal P s seat w a ≡ 0 → (step_walk P s seat w a ≡ moved_on P (described s seat) w) × (step_out P s seat w a ≡ bytes_at P (described s seat) w a)
  unfolding step_walk step_out
  step-done e = (kept (step_refusal P s seat w a) _ _ e, kept (step_refusal P s seat w a) _ _ e)

-- ---- as code has it

-- show looks at no out buffer
pub show-blind : (P : Paper) (s : Station) (seat : List ℕ) (w : Walk) (regs stack out : List ℕ) (ty : ℕ)
    → show_refusal P s seat w (asking regs stack ty []) ≡ show_refusal P s seat w (asking regs stack ty out)
unfolding show_refusal wrong_registers other_type wrong_stack
show-blind P s seat w regs stack out ty = refl

module _ (s : Station) (seat : List ℕ) (w : Walk) (regs stack out : List ℕ) (ty : ℕ) where
  abbrev a : Ask
  a = asking regs stack ty out

  abbrev Stands : Result Coded Refusal → Type 0
  Stands r = IsStanding kcb (show_refusal kcb s seat w (asking regs stack ty [])) (described s seat) w.position r

  pub leaves-refused : (r : Refusal) → Stands (Err r)
      → (Err r ≡ answer_under kcb (described s seat) (step_refusal kcb s seat w a) (tt {0})) × (w ≡ step_walk kcb s seat w a) × (out ≡ step_out kcb s seat w a)
  leaves-refused r g =
      let b = show-blind kcb s seat w regs stack out ty in
      let n : show_refusal kcb s seat w a ≢ 0 = λ z. g.0 (b ∙ z) in
      let x = step-early kcb s seat w a n in
      let y = step_left kcb s seat w a (λ z. n (sym x ∙ z)) in
      (under-not kcb _ _ _ r tt g.1 (omega (arith, g.0)) (x ∙ sym b), y.0, y.1)

  module _ (c : Coded) (h : Stands (Ok c)) where
    accepted : show_refusal kcb s seat w a ≡ 0
    accepted = sym (show-blind kcb s seat w regs stack out ty) ∙ h.0

    is-ready : Ready s seat w a
    is-ready = ready s seat w a accepted

    size_is : c.size.0 ≡ (shape_at kcb (described s seat) w.position).size
    size_is = ap (λ (x : Shape). x.size) h.1

    pub leaves-out : (r : Refusal) → r ≡ refusal_of 11 → length out ≢ c.size.0
        → (Err r ≡ answer_under kcb (described s seat) (step_refusal kcb s seat w a) (tt {0})) × (w ≡ step_walk kcb s seat w a) × (out ≡ step_out kcb s seat w a)
    unfolding wrong_out
    leaves-out r p z =
        let k : wrong_out kcb (described s seat) w a ≡ true = rw (ne_eqb (length out) (shape_at kcb (described s seat) w.position).size (λ q. z (q ∙ sym size_is))) in
        let x : step_refusal kcb s seat w a ≡ 11 = step-late kcb s seat w a accepted ∙ (rw k) in
        let y = step_left kcb s seat w a (λ m. omega arith) in
        (under-refused kcb _ _ 11 r tt p (omega arith) x, y.0, y.1)

    pub reached-here : InBounds w
    reached-here = is-ready.reached

    pub small-here : Small (asked c)
    small-here = rw h.1 is-ready.small

    module _ (full : length out ≡ c.size.0) (f : Fetch) (fetched : source_of f ≡ read_at eights (offsets_of w) (asked c)) where
      pub copies_here : (length regs ≡ 176) × (length out ≡ c.size.0) × Within f c.size.0 176 (length stack)
      copies_here = (is-ready.registers, full, rw size_is (is-ready.fetched f (fetched ∙ ap (read_at eights (offsets_of w)) h.1)))

      pub leaves-moved : (v : Walk) (last : List ℕ) → last ≡ gather (regs ++ stack) (bytes_from 176 (source_of f) c.size.0)
          → v ≡ with_offsets w.number (suc w.position) (step eights (offsets_of w) (asked c))
          → (Ok tt ≡ answer_under kcb (described s seat) (step_refusal kcb s seat w a) (tt {0})) × (v ≡ step_walk kcb s seat w a) × (last ≡ step_out kcb s seat w a)
      unfolding wrong_out moved_on bytes_at kcb
      leaves-moved v last m n =
          let k : wrong_out kcb (described s seat) w a ≡ false = rw (eq-eqb (length out) (shape_at kcb (described s seat) w.position).size (full ∙ size_is)) in
          let x : step_refusal kcb s seat w a ≡ 0 = step-late kcb s seat w a accepted ∙ (rw k) in
          let y = step-done kcb s seat w a x in (
            under-done kcb _ _ tt tt x refl,
            n ∙ ap (λ (i : Shape). with_offsets w.number (suc w.position) (step eights (offsets_of w) i)) h.1 ∙ sym y.0,
            m ∙ ap₂ (λ (o : Source) (i : ℕ). gather (regs ++ stack) (bytes_from 176 o i)) (fetched ∙ ap (read_at eights (offsets_of w)) h.1) size_is ∙ sym y.1,
          )
