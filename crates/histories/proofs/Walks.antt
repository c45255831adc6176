-- The laws of one walk: where it stands, what a step answers there, reads and leaves. Assumes nothing.
use mathlib.Core.Path.{◌≡◌, refl, sym, ap, ap₂, ◌∙◌}
use mathlib.Core.Bool.{Bool, true, false, cond, not, ◌||◌}
use mathlib.Core.List.{List, [], ◌∷◌, ◌++◌}
use Prim.Native.Nat.{ℕ, zero, suc, ◌≤◌, ◌<◌, ◌%◌}
use native.Mathlib.Omega.{arith}
use lib.Dec.{eqb}
use lib.ListN.{length, get_or, take, drop, length-take, length-drop}
use borrow.Author.Tests.{le-ltb, eq-eqb}
use Rattle.addresses.specs.Addresses.{gather, All}
use Rattle.form.specs.Order.{Rule, rule, first}
use Rattle.places.specs.Shapes.{Shape, Shaped}
use Rattle.places.specs.Places.{slot_size, place}
use Rattle.places.specs.Statements.{Seated}
use Rattle.places.specs.Images.{bytes_of, addresses, total}
use Rattle.places.proofs.Prefix.{after-at}
use Rattle.places.proofs.Offsets.{after-slotted}
use Rattle.station.specs.declared.Station.{Station}
use Rattle.station.specs.Paper.{Paper, verdict_of, arguments, shape_at, type_at, used_at, area_of}
use Rattle.walk.specs.declared.Walk.{Walk}
use Rattle.walk.specs.Offsets.{Offsets, Source, read_at, bytes_from, walk_at, Narrow, source_in}
use Rattle.walk.specs.Orders.{Ask, offsets_of, with_offsets, wrong_registers, other_number, standing, open_refusal, astray, at_end, other_type, wrong_stack, wrong_out, step_refusal, show_refusal}
use Rattle.walk.proofs.Agreement.{read-agrees, step-agrees, bytes-in}
use Rattle.walk.proofs.Unnamed.{seated-lower, gather-taken}
use Rattle.walk.specs.Steps.{open_walk, bytes_at, moved_on}
use Rattle.histories.specs.Calls.{Lends}
use Rattle.histories.specs.Lawful.{Lawful, Holds}
use Rattle.histories.specs.Values.{cut, images_for}
use Rattle.histories.proofs.Attachments.{described-held, right-held}
use Rattle.histories.proofs.Images.{cut-gathered, length-images, gather-images}
use Rattle.form.proofs.Order.{first-behind}

-- what holds of all from the n-th on holds of the p-th
behind-at : (Q : Shape → Type 0) (o : Shape) (ss : List Shape) (n p : ℕ) → All Q (drop n ss) → n ≤ p → p < length ss → Q (get_or ss p o)
behind-at Q o [] n p h m l = absurd (omega arith)
behind-at Q o (s ∷ ss) zero zero h m l = h.0
behind-at Q o (s ∷ ss) zero (suc p) h m l = behind-at Q o ss zero p h.1 (omega arith) (omega arith)
behind-at Q o (s ∷ ss) (suc n) zero h m l = absurd (omega arith)
behind-at Q o (s ∷ ss) (suc n) (suc p) h m l = behind-at Q o ss n p h (omega arith) (omega arith)

module _ (P : Paper) where
  -- what is known of p, an unnamed argument of an accepted description
  pub record Known (d : List ℕ) (p : ℕ) : Type 0 where
    pub before : p < arguments P d
    pub all-shaped : All Shaped (P.shapes d)
    pub all-seated : All (Seated P.stack_at) (P.shapes d)
    pub shaped : Shaped (shape_at P d p)
    pub narrow : Narrow (shape_at P d p)
    pub seated : Seated P.registers (shape_at P d p)
    pub slotted : (used_at P d p).stack.0 % slot_size P.slot ≡ 0

  pub known : Lawful P → (d : List ℕ) → verdict_of P d ≡ 0 → (p : ℕ) → P.named d ≤ p → p < arguments P d → Known d p
  unfolding used_at shape_at arguments
  known L d e p m l =
      record {
        before = l;
        all-shaped = L.shaped d e;
        all-seated = L.seated d e;
        shaped = behind-at Shaped _ (P.shapes d) 0 p (L.shaped d e) (omega arith) l;
        narrow = behind-at Narrow _ (P.shapes d) (P.named d) p (L.narrow d e) m l;
        seated = behind-at (Seated P.registers) _ (P.shapes d) (P.named d) p (L.stepped d e) m l;
        slotted = after-slotted P.slot (take p (P.shapes d)) (P.first d) (L.starts d e);
      }

  -- ---- a held description: 1 to 10 do not come up

  pub open_held : Lawful P → (s : Station) (seat d : List ℕ) → Holds P s seat d → open_refusal P s seat ≡ cond (P.variadic d) 0 16
  unfolding open_refusal verdict_of
  open_held L s seat d h =
      rw (right-held P L s seat d h, described-held P s seat d h, h.attached)
      (first-behind (P.order d) (rule 16 (not (P.variadic d)) ∷ []) (P.counted d) h.accepted ∙ by (P.variadic d))
    where
      by : (b : Bool) → first (rule 16 (not b) ∷ []) ≡ cond b 0 16
      by true = refl
      by false = refl

  pub opens : (s : Station) (seat d : List ℕ) → Holds P s seat d → open_walk P s seat ≡ standing P d s.number (P.named d)
  unfolding open_walk
  opens s seat d h = rw (described-held P s seat d h)

  -- what is left of step's order, and of show's
  abbrev pub late_order : Station → List ℕ → Walk → Ask → List Rule → List Rule
  late_order s d w a late =
      rule 17 (other_number s w) ∷ rule 18 (astray P d w) ∷ rule 19 (at_end P d w) ∷ rule 20 (other_type P d w a) ∷ late

  abbrev pub held_order : Station → List ℕ → Walk → Ask → List Rule → List Rule
  held_order s d w a late = rule 11 (wrong_registers P a) ∷ late_order s d w a late

  pub step-held : Lawful P → (s : Station) (seat d : List ℕ) (w : Walk) (a : Ask) → Holds P s seat d
      → step_refusal P s seat w a ≡ first (held_order s d w a (rule 11 (wrong_stack P d a || wrong_out P d w a) ∷ []))
  unfolding step_refusal verdict_of other_number
  step-held L s seat d w a h =
      rw (right-held P L s seat d h, described-held P s seat d h, h.attached)
      (ap (λ (n : ℕ). cond (wrong_registers P a) 11 n)
      (first-behind (P.order d) (late_order s d w a (rule 11 (wrong_stack P d a || wrong_out P d w a) ∷ [])) (P.counted d) h.accepted))

  pub show-held : Lawful P → (s : Station) (seat d : List ℕ) (w : Walk) (a : Ask) → Holds P s seat d
      → show_refusal P s seat w a ≡ first (held_order s d w a (rule 11 (wrong_stack P d a) ∷ []))
  unfolding show_refusal verdict_of other_number
  show-held L s seat d w a h =
      rw (right-held P L s seat d h, described-held P s seat d h, h.attached)
      (ap (λ (n : ℕ). cond (wrong_registers P a) 11 n)
      (first-behind (P.order d) (late_order s d w a (rule 11 (wrong_stack P d a) ∷ [])) (P.counted d) h.accepted))

  -- ---- where a walk stands

  -- it is not astray where it stands
  standing-right : (d : List ℕ) (n p : ℕ) → P.named d ≤ p → p ≤ arguments P d → astray P d (standing P d n p) ≡ false
  unfolding astray standing
  standing-right d n p l m =
      let w = walk_at (used_at P d p) in
      rw (le-ltb p (P.named d) l, le-ltb (arguments P d) p m, eq-eqb w.general w.general refl, eq-eqb w.vector w.vector refl, eq-eqb w.overflow w.overflow refl)

  -- a step from there leads to the next
  pub moves-on : (d : List ℕ) (n p : ℕ) → Known d p → moved_on P d (standing P d n p) ≡ standing P d n (suc p)
  unfolding moved_on standing used_at shape_at arguments
  moves-on d n p h =
      ap (λ (o : Offsets). with_offsets n (suc p) o)
      (step-agrees P.slot (used_at P d p) (shape_at P d p) h.shaped h.slotted ∙ ap walk_at (sym (after-at P.slot (P.shapes d) (P.first d) p _ h.before)))

  pub standing-reads : (d : List ℕ) (n p : ℕ) → Known d p
      → read_at P.slot (offsets_of (standing P d n p)) (shape_at P d p) ≡ source_in (place P.slot (used_at P d p) (shape_at P d p))
  unfolding standing
  standing-reads d n p h = read-agrees P.slot (used_at P d p) (shape_at P d p) h.shaped h.narrow h.slotted

  bytes-at : (d : List ℕ) (n p : ℕ) (a : Ask) → bytes_at P d (standing P d n p) a
      ≡ gather (a.registers ++ a.stack) (bytes_from P.registers (read_at P.slot (offsets_of (standing P d n p)) (shape_at P d p)) (shape_at P d p).size)
  unfolding bytes_at standing
  bytes-at d n p a = refl

  cut-place : (d images : List ℕ) (p : ℕ) → Known d p
      → get_or (cut (P.shapes d) (gather images (addresses P.stack_at P.slot (P.first d) (P.shapes d)))) p []
      ≡ gather images (bytes_of P.stack_at (place P.slot (used_at P d p) (shape_at P d p)) (shape_at P d p).size)
  unfolding used_at shape_at arguments
  cut-place d images p h = cut-gathered P.stack_at P.slot _ (P.shapes d) p (P.first d) images h.all-shaped h.before

  -- and reads the argument's bytes, though what it is lent has no upper image
  pub reads : Lawful P → (d address values : List ℕ) (n p : ℕ) (a : Ask) → Known d p → length values ≡ total (P.shapes d)
      → Lends P (images_for P d address values) a → bytes_at P d (standing P d n p) a ≡ get_or (cut (P.shapes d) values) p []
  reads L d address values n p a h f g =
      let images = images_for P d address values in
      let lent = take P.registers images ++ drop P.stack_at images in
      let o = shape_at P d p in
      let at = place P.slot (used_at P d p) o in
      bytes-at d n p a
      ∙ ap (λ (m : List ℕ). gather m (bytes_from P.registers (read_at P.slot (offsets_of (standing P d n p)) o) o.size)) (ap₂ ◌++◌ g.registers g.stack)
      ∙ ap (λ (q : Source). gather lent (bytes_from P.registers q o.size)) (standing-reads d n p h)
      ∙ ap (λ (ps : List ℕ). gather lent ps) (bytes-in P.registers at o.size)
      ∙ gather-taken images P.registers P.stack_at at o.size L.before (omega (arith, length-images P d address values)) (seated-lower P.registers P.slot (used_at P d p) o h.shaped h.seated)
      ∙ sym (cut-place d images p h)
      ∙ ap (λ (v : List ℕ). get_or (cut (P.shapes d) v) p []) (gather-images P d address values h.all-shaped h.all-seated f)

  -- ---- what a step answers there

  pub lends_right : Lawful P → (d address values : List ℕ) (a : Ask) → Lends P (images_for P d address values) a
      → (length a.registers ≡ P.registers) × (length a.stack ≡ area_of P d)
  lends_right L d address values a g =
      let l = length-images P d address values in
      let b = L.before in
      (rw (g.registers, length-take) (omega arith), rw (g.stack, length-drop) (omega arith))

  abbrev pub standing_order : List ℕ → ℕ → Ask → List Rule
  standing_order d p a =
      rule 19 (eqb p (arguments P d)) ∷ rule 20 (not (eqb a.asked (type_at P d p))) ∷ rule 11 (not (eqb (length a.out) (shape_at P d p).size)) ∷ []

  pub step-standing : Lawful P → (s : Station) (seat d : List ℕ) (p : ℕ) (a : Ask) → Holds P s seat d → P.named d ≤ p → p ≤ arguments P d
      → length a.registers ≡ P.registers → length a.stack ≡ area_of P d
      → step_refusal P s seat (standing P d s.number p) a ≡ first (standing_order d p a)
  step-standing L s seat d p a h l m x y =
      step-held L s seat d (standing P d s.number p) a h
      ∙ rw (standing-right d s.number p l m)
      (unfold standing wrong_registers other_number at_end other_type wrong_stack wrong_out in
      rw (eq-eqb (length a.registers) P.registers x, eq-eqb s.number s.number refl, eq-eqb (length a.stack) (area_of P d) y))

  pub show-standing : Lawful P → (s : Station) (seat d : List ℕ) (p : ℕ) (a : Ask) → Holds P s seat d → P.named d ≤ p → p ≤ arguments P d
      → length a.registers ≡ P.registers → length a.stack ≡ area_of P d
      → show_refusal P s seat (standing P d s.number p) a ≡ first (rule 19 (eqb p (arguments P d)) ∷ rule 20 (not (eqb a.asked (type_at P d p))) ∷ [])
  show-standing L s seat d p a h l m x y =
      show-held L s seat d (standing P d s.number p) a h
      ∙ rw (standing-right d s.number p l m)
      (unfold standing wrong_registers other_number at_end other_type wrong_stack in
      rw (eq-eqb (length a.registers) P.registers x, eq-eqb s.number s.number refl, eq-eqb (length a.stack) (area_of P d) y))
