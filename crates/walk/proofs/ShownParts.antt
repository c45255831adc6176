-- Show: which part, that it lies within its image, and that it holds the bytes that a step would copy. Assumes nothing.
use Rattle.std.specs.Prelude.{Err, None, Ok, Option, Result, Some}
use mathlib.Core.Path.{◌≡◌, refl, sym, ap, subst, ◌∙◌}
use mathlib.Core.Logic.{◌≢◌}
use mathlib.Core.Bool.{Bool, true, false, cond, false≢true, true≢false}
use mathlib.Core.List.{List, [], ◌∷◌, ◌++◌, append-nil}
use Prim.Native.Nat.{ℕ, ◌+◌, ◌*◌, ◌-◌, ◌≤◌, min}
use native.Mathlib.Omega.{arith}
use lib.ListN.{length, take, drop}
use borrow.Author.Tests.{eq-eqb, ne_eqb}
use Rattle.addresses.specs.Addresses.{All, run, gather}
use Rattle.addresses.proofs.Runs.{all-run, run-shift, gather-run}
use Rattle.addresses.proofs.Parts.{gather-left, gather-right}
use Rattle.form.specs.declared.Refusal.{Refusal}
use Rattle.places.specs.declared.Kind.{Kind}
use Rattle.places.specs.declared.Kind.TheVariants.{General as general, Vector as vector, Upper as upper, Wide as wide}
use Rattle.places.specs.declared.Used.{Used}
use Rattle.places.specs.declared.Shape.{Shape as Coded}
use Rattle.places.specs.Shapes.{Shape, widths, Led, Shaped}
use Rattle.places.specs.Places.{Slot, eights, registers_for, fits, start, place_if, place}
use Rattle.places.specs.Images.{slots, spread}
use Rattle.places.specs.Statements.{Seated}
use Rattle.places.specs.Recorded.{asked, Small}
use Rattle.places.proofs.Fits.{fits-true}
use Rattle.places.proofs.Apart.{spread-adjoin, slots-inside}
use Rattle.station.specs.declared.Station.{Station}
use Rattle.station.specs.Paper.{Paper, kcb, answer_under, shape_at, used_at}
use Rattle.station.specs.Attachment.{described}
use Rattle.station.proofs.Attachments.{under-not, under-done}
use Rattle.walk.specs.declared.Walk.{Walk}
use Rattle.walk.specs.declared.Fetch.{Fetch}
use Rattle.walk.specs.Offsets.{Source, read_at, bytes_from, source_of, source_in}
use Rattle.walk.specs.Orders.{Ask, offsets_of, show_refusal}
use Rattle.walk.specs.Steps.{bytes_at}
use Rattle.walk.specs.Asks.{InBounds, IsStanding}
use Rattle.walk.proofs.Unnamed.{narrow-seated}
use Rattle.walk.proofs.Passes.{Ready, ready, kcb-reads, kcb-room}
use Rattle.walk.specs.Show.{one_piece, head_of, whole, part_in, shown_bytes, Lies, shown_in, shown_answer, show_part}
use Rattle.walk.specs.declared.showing.Shown.{Shown}
use Rattle.walk.specs.declared.showing.Shown.TheVariants.{Registers}

-- ---- one part of one image

one-run : (ks : List Kind) (g f n top : ℕ) → Led false ks → one_piece ks ≡ true → n ≤ 8 * widths ks → All (λ a. a + 8 ≤ top) (slots (registers_for g f ks))
    → (spread (slots (registers_for g f ks)) n ≡ run (head_of (slots (registers_for g f ks))) n) × (head_of (slots (registers_for g f ks)) + n ≤ top)
one-run [] g f n top l e h b = absurd (false≢true e)
one-run (general ∷ []) g f n top l e h b =
    let p : min n 8 ≡ n = omega arith in (ap (λ (x : ℕ). run (8 * g) x ++ []) p ∙ append-nil (run (8 * g) n), omega (arith, b.0))
one-run (vector ∷ []) g f n top l e h b =
    let p : min n 8 ≡ n = omega arith in (ap (λ (x : ℕ). run (48 + 16 * f) x ++ []) p ∙ append-nil (run (48 + 16 * f) n), omega (arith, b.0))
one-run (upper ∷ ks) g f n top l e h b = absurd l
one-run (wide ∷ []) g f n top l e h b = absurd (false≢true e)
one-run (wide ∷ k ∷ ks) g f n top l e h b = absurd (true≢false l)
one-run (general ∷ general ∷ []) g f n top l e h b =
    let p : 8 * (g + 1) ≡ 8 * g + 8 = omega arith in
    (ap (λ (x : ℕ). spread ((8 * g) ∷ x ∷ []) n) p ∙ spread-adjoin (8 * g) n (omega arith), omega (arith, b.1.0))
one-run (general ∷ vector ∷ []) g f n top l e h b = absurd (false≢true e)
one-run (general ∷ upper ∷ ks) g f n top l e h b = absurd l
one-run (general ∷ wide ∷ []) g f n top l e h b = absurd (false≢true e)
one-run (vector ∷ general ∷ []) g f n top l e h b = absurd (false≢true e)
one-run (vector ∷ wide ∷ []) g f n top l e h b = absurd (false≢true e)
one-run (vector ∷ vector ∷ []) g f n top l e h b = absurd (false≢true e)
one-run (vector ∷ upper ∷ []) g f n top l e h b =
    let p : 56 + 16 * (f + 1 - 1) ≡ 48 + 16 * f + 8 = omega arith in
    (ap (λ (x : ℕ). spread ((48 + 16 * f) ∷ x ∷ []) n) p ∙ spread-adjoin (48 + 16 * f) n (omega arith), omega (arith, b.1.0))
one-run (general ∷ general ∷ m ∷ ks) g f n top l e h b = absurd (false≢true e)
one-run (general ∷ vector ∷ m ∷ ks) g f n top l e h b = absurd (false≢true e)
one-run (general ∷ wide ∷ m ∷ ks) g f n top l e h b = absurd (false≢true e)
one-run (vector ∷ general ∷ m ∷ ks) g f n top l e h b = absurd (false≢true e)
one-run (vector ∷ vector ∷ m ∷ ks) g f n top l e h b = absurd (false≢true e)
one-run (vector ∷ upper ∷ m ∷ ks) g f n top l e h b = absurd (false≢true e)
one-run (vector ∷ wide ∷ m ∷ ks) g f n top l e h b = absurd (false≢true e)

module _ (base : ℕ) (r s : List ℕ) (e : length r ≡ base) where
  gather-registers : (h n : ℕ) → h + n ≤ base → gather (r ++ s) (run h n) ≡ take n (drop h r)
  gather-registers h n l = gather-left (run h n) r s (all-run h n (λ k a b. omega arith)) ∙ gather-run n h r (omega arith)

  gather-stack : (o n : ℕ) → o + n ≤ length s → gather (r ++ s) (run (base + o) n) ≡ take n (drop o s)
  gather-stack o n l =
      ap (λ (k : ℕ). gather (r ++ s) (run (k + o) n)) (sym e)
      ∙ ap (λ (ps : List ℕ). gather (r ++ s) ps) (sym (run-shift (length r) o n))
      ∙ gather-right (run o n) r s ∙ gather-run n o s l

-- the part lies within the images, and holds the bytes of the place where they are one part
part_lies : (u : Used) (o : Shape) (stack : ℕ) → Shaped o → Seated 176 o → (fits u o.kinds ≡ false → start eights u o + o.size ≤ stack) → Lies (part_in (source_in (place eights u o)) o) 176 stack
unfolding place
part_lies u o stack h seat m = by (fits u o.kinds) refl
  where
    regs : (b : Bool) → fits u o.kinds ≡ true → one_piece o.kinds ≡ b
        → Lies (cond b (Ok (Some (Registers (record { offset = record { 0 = head_of (slots (registers_for u.general.0 u.vector.0 o.kinds)) }; length = record { 0 = o.size } })))) (Ok None)) 176 stack
    regs false e p = tt
    regs true e p = (one-run o.kinds u.general.0 u.vector.0 o.size 176 h.led p (h.room (fits-true u o.kinds e).some).0 (slots-inside 176 u o h seat e)).1

    by : (b : Bool) → fits u o.kinds ≡ b → Lies (part_in (source_in (place_if eights b u o)) o) 176 stack
    by true e = regs (one_piece o.kinds) e refl
    by false e = m e

pub part_bytes : (base : ℕ) (slot : Slot) (u : Used) (o : Shape) (a : Ask) → Shaped o → Seated base o → length a.registers ≡ base → (fits u o.kinds ≡ false → start slot u o + o.size ≤ length a.stack)
    → shown_bytes (part_in (source_in (place slot u o)) o) a.registers a.stack ≡ cond (whole (source_in (place slot u o)) o) (gather (a.registers ++ a.stack) (bytes_from base (source_in (place slot u o)) o.size)) []
unfolding place
part_bytes base slot u o a h seat l m = by (fits u o.kinds) refl
  where
    regs : (b : Bool) → fits u o.kinds ≡ true → one_piece o.kinds ≡ b
        → shown_bytes (cond b (Ok (Some (Registers (record { offset = record { 0 = head_of (slots (registers_for u.general.0 u.vector.0 o.kinds)) }; length = record { 0 = o.size } })))) (Ok None)) a.registers a.stack
        ≡ cond b (gather (a.registers ++ a.stack) (spread (slots (registers_for u.general.0 u.vector.0 o.kinds)) o.size)) []
    regs false e p = refl
    regs true e p =
        let z = one-run o.kinds u.general.0 u.vector.0 o.size base h.led p (h.room (fits-true u o.kinds e).some).0 (slots-inside base u o h seat e) in
        sym (ap (gather (a.registers ++ a.stack)) z.0 ∙ gather-registers base a.registers a.stack l (head_of (slots (registers_for u.general.0 u.vector.0 o.kinds))) o.size z.1)

    by : (b : Bool) → fits u o.kinds ≡ b
        → shown_bytes (part_in (source_in (place_if slot b u o)) o) a.registers a.stack ≡ cond (whole (source_in (place_if slot b u o)) o) (gather (a.registers ++ a.stack) (bytes_from base (source_in (place_if slot b u o)) o.size)) []
    by true e = regs (one_piece o.kinds) e refl
    by false e = sym (gather-stack base a.registers a.stack l (start slot u o) o.size (m e))

-- ---- where show accepts

shown-lies : (s : Station) (seat : List ℕ) (w : Walk) (a : Ask) → Ready s seat w a → Lies (shown_in kcb (described s seat) w) 176 (length a.stack)
unfolding shown_in kcb
shown-lies s seat w a z =
    rw (kcb-reads (described s seat) w z.genuine z.shaped z.narrow)
    (part_lies (used_at kcb (described s seat) w.position) (shape_at kcb (described s seat) w.position) (length a.stack) z.shaped (narrow-seated _ z.narrow)
    (λ f. rw z.stack (kcb-room (described s seat) w.position z.before f)))

-- C9: an accepted show answers the bytes that a step would copy, where they lie in one part, and else the empty part
pub shows : (s : Station) (seat : List ℕ) (w : Walk) (a : Ask) → show_refusal kcb s seat w a ≡ 0
    → show_part kcb s seat w a
    ≡ cond (whole (read_at eights (offsets_of w) (shape_at kcb (described s seat) w.position)) (shape_at kcb (described s seat) w.position)) (bytes_at kcb (described s seat) w a) []
unfolding show_part shown_answer shown_in bytes_at kcb
shows s seat w a e =
    let z = ready s seat w a e in
    let d = described s seat in
    rw (eq-eqb (show_refusal kcb s seat w a) 0 e, kcb-reads d w z.genuine z.shaped z.narrow)
    (part_bytes 176 eights (used_at kcb d w.position) (shape_at kcb d w.position) a z.shaped (narrow-seated _ z.narrow) z.registers
    (λ f. rw z.stack (kcb-room d w.position z.before f)))

-- a refused one answers the empty part
pub shows_none : (P : Paper) (s : Station) (seat : List ℕ) (w : Walk) (a : Ask) → show_refusal P s seat w a ≢ 0 → show_part P s seat w a ≡ []
unfolding show_part shown_answer
shows_none P s seat w a h = rw (ne_eqb (show_refusal P s seat w a) 0 h)

-- ---- as code has it

pub number-not : (P : Paper) (n : ℕ) (d : List ℕ) (p : ℕ) (r : Refusal) → IsStanding P n d p (Err r) → Err r ≡ answer_under P d n (tt {0})
number-not P n d p r h = under-not P d n n r tt h.1 (omega (arith, h.0)) refl

pub number-none : (P : Paper) (n : ℕ) (d : List ℕ) (p : ℕ) (c : Coded) → IsStanding P n d p (Ok c) → Ok tt ≡ answer_under P d n (tt {0})
number-none P n d p c h = under-done P d n tt tt h.0 refl

module _ (s : Station) (seat : List ℕ) (w : Walk) (a : Ask) where
  pub shown-refused : (r : Refusal) → IsStanding kcb (show_refusal kcb s seat w a) (described s seat) w.position (Err r) → Err r ≡ shown_answer kcb s seat w a
  unfolding shown_answer
  shown-refused r h = rw (ne_eqb (show_refusal kcb s seat w a) 0 h.0) (ap Err h.1)

  module _ (c : Coded) (h : IsStanding kcb (show_refusal kcb s seat w a) (described s seat) w.position (Ok c)) where
    pub reached-here : InBounds w
    reached-here = (ready s seat w a h.0).reached

    pub small-here : Small (asked c)
    small-here = rw h.1 (ready s seat w a h.0).small

    pub shown-there : (f : Fetch) (o : Option Shown) → source_of f ≡ read_at eights (offsets_of w) (asked c) → Ok o ≡ part_in (source_of f) (asked c)
        → (Ok o ≡ shown_answer kcb s seat w a) × Lies (Ok o) (length a.registers) (length a.stack)
    unfolding shown_answer shown_in kcb
    shown-there f o p q =
        let z = ready s seat w a h.0 in
        let x : Ok o ≡ shown_in kcb (described s seat) w = q ∙ ap (λ (i : Source). part_in i (asked c)) p ∙ ap (λ (i : Shape). part_in (read_at eights (offsets_of w) i) i) h.1 in (
          x ∙ (rw (eq-eqb (show_refusal kcb s seat w a) 0 h.0)),
          rw z.registers (subst (λ (v : Result (Option Shown) Refusal). Lies v 176 (length a.stack)) (sym x) (shown-lies s seat w a z)),
        )

-- the bytes that an answer names are what show answers
pub shows-bytes : (P : Paper) (s : Station) (seat : List ℕ) (w : Walk) (a : Ask) (x : Result (Option Shown) Refusal) → x ≡ shown_answer P s seat w a
    → shown_bytes x a.registers a.stack ≡ show_part P s seat w a
unfolding show_part
shows-bytes P s seat w a x e = ap (λ (y : Result (Option Shown) Refusal). shown_bytes y a.registers a.stack) e
