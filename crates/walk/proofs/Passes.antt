-- What is known where a walk goes on, of any station, seat and record; and that the argument then lies within the images. Assumes nothing.
use mathlib.Core.Path.{◌≡◌, refl, sym, ap, ◌∙◌}
use mathlib.Core.Logic.{◌≢◌}
use mathlib.Core.Bool.{Bool, true, false, not, ◌||◌}
use mathlib.Core.List.{List, [], ◌∷◌}
use Prim.Native.Nat.{ℕ, suc, ◌+◌, ◌*◌, ◌-◌, ◌%◌, ◌≤◌, ◌<◌}
use native.Mathlib.Omega.{arith}
use lib.ListN.{length, take, drop, take-append-drop}
use borrow.Author.Tests.{eqb-true, eqb-false, not-false}
use Rattle.addresses.specs.Addresses.{All}
use Rattle.description.specs.Description.{arguments_in}
use Rattle.form.specs.Order.{Rule, rule, first}
use Rattle.uses.specs.Uses.{uses_refusal}
use Rattle.places.specs.declared.Used.{Used}
use Rattle.places.specs.Shapes.{Shape, Shaped}
use Rattle.places.specs.Places.{Slot, eights, slot_size, registers_for, fits, start, place_if, place, next, after, area}
use Rattle.places.specs.Images.{slots}
use Rattle.places.specs.Statements.{Seated}
use Rattle.places.specs.Recorded.{Small}
use Rattle.places.proofs.Fits.{fits-true}
use Rattle.places.proofs.Prefix.{after-append, after-at}
use Rattle.places.proofs.Apart.{length-slots, slots-inside, stack-room, after-grows}
use Rattle.places.proofs.Offsets.{after-slotted, area-rounded}
use Rattle.layout.specs.Arguments.{used_at as layout_used}
use Rattle.layout.proofs.Verdict.{accepted-uses}
use Rattle.layout.proofs.Bounds.{arguments-few, argument-small, argument-shaped}
use Rattle.layout.proofs.Layouts.{asks_at}
use Rattle.station.specs.declared.Station.{Station}
use Rattle.station.specs.Paper.{Paper, kcb, verdict_of, arguments, shape_at, type_at, used_at, area_of}
use Rattle.station.specs.Attachment.{wrong_seat, described}
use Rattle.station.proofs.Orders.{first_rest, or-false}
use Rattle.station.proofs.Kcb.{kcb-registers, kcb-verdict, kcb-arguments, kcb-used, kcb-shape}
use Rattle.walk.specs.declared.Walk.{Walk}
use Rattle.walk.specs.declared.Fetch.{Fetch}
use Rattle.walk.specs.declared.Fetch.TheVariants.{One, Two, Stack}
use Rattle.walk.specs.Offsets.{from_registers, from_stack, read_at, source_of, source_in, walk_at, Narrow}
use Rattle.walk.specs.Orders.{Ask, offsets_of, with_offsets, standing, wrong_registers, other_number, astray, at_end, other_type, wrong_stack, walk_order, show_refusal}
use Rattle.walk.specs.Asks.{InBounds, Within}
use Rattle.walk.proofs.Agreement.{read-agrees}
use Rattle.walk.proofs.Unnamed.{narrow-seated, kcb-narrow}
use Rattle.walk.proofs.Checks.{Genuine, astray-not}
use Rattle.form.proofs.Order.{first-both}

module _ (P : Paper) where
  -- the order read back: none of its conditions holds
  pub record Passed (s : Station) (seat : List ℕ) (w : Walk) (a : Ask) : Type 0 where
    pub right : wrong_seat s seat ≡ false
    pub registers : length a.registers ≡ P.registers
    pub busy : s.attached ≡ true
    pub accepted : verdict_of P (described s seat) ≡ 0
    pub number : w.number ≡ s.number
    pub on : astray P (described s seat) w ≡ false
    pub before : w.position ≢ arguments P (described s seat)
    pub asked : a.asked ≡ type_at P (described s seat) w.position

  pub walk-passes : (s : Station) (seat : List ℕ) (w : Walk) (a : Ask) (late : List Rule) → first (walk_order P s seat w a late) ≡ 0 → Passed s seat w a × (first late ≡ 0)
  unfolding verdict_of wrong_registers other_number at_end other_type
  walk-passes s seat w a late e =
      let d = described s seat in
      let x = first_rest 10 (wrong_seat s seat || wrong_registers P a) _ e in
      let xs = or-false (wrong_seat s seat) (wrong_registers P a) x.0 in
      let y = first_rest 12 (not s.attached) _ x.1 in
      let z = first-both (P.order d)
      (rule 17 (other_number s w) ∷ rule 18 (astray P d w) ∷ rule 19 (at_end P d w) ∷ rule 20 (other_type P d w a) ∷ late) (P.counted d) y.1 in
      let n = first_rest 16 (other_number s w) _ z.1 in
      let o = first_rest 17 (astray P d w) _ n.1 in
      let p = first_rest 18 (at_end P d w) _ o.1 in
      let q = first_rest 19 (other_type P d w a) _ p.1 in (
        record {
          right = xs.0;
          registers = eqb-true (length a.registers) P.registers (not-false _ xs.1);
          busy = not-false s.attached y.0;
          accepted = z.0;
          number = eqb-true w.number s.number (not-false _ n.0);
          on = o.0;
          before = eqb-false w.position (arguments P d) p.0;
          asked = eqb-true a.asked (type_at P d w.position) (not-false _ q.0);
        },
        q.1,
      )

  pub show-passes : (s : Station) (seat : List ℕ) (w : Walk) (a : Ask) → show_refusal P s seat w a ≡ 0
      → Passed s seat w a × (length a.stack ≡ area_of P (described s seat))
  unfolding show_refusal wrong_stack
  show-passes s seat w a e =
      let z = walk-passes s seat w a (rule 11 (wrong_stack P (described s seat) a) ∷ []) e in
      (z.0, eqb-true (length a.stack) (area_of P (described s seat)) (not-false _ (first_rest 10 (wrong_stack P (described s seat) a) 0 z.1).0))

  -- a stack argument ends within the area
  pub room : (d : List ℕ) (p : ℕ) → p < arguments P d → fits (used_at P d p) (shape_at P d p).kinds ≡ false
      → start P.slot (used_at P d p) (shape_at P d p) + (shape_at P d p).size ≤ area_of P d
  unfolding used_at area_of area arguments shape_at
  room d p l e =
      let ss = P.shapes d in
      let u = P.first d in
      let x = stack-room P.slot (used_at P d p) (shape_at P d p) e in
      let y : (next P.slot (used_at P d p) (shape_at P d p)).stack.0 ≡ (after P.slot u (take (suc p) ss)).stack.0 = ap (λ (v : Used). v.stack.0) (sym (after-at P.slot ss u p _ l)) in
      let z = after-grows P.slot (drop (suc p) ss) (after P.slot u (take (suc p) ss)) in
      let w : (after P.slot (after P.slot u (take (suc p) ss)) (drop (suc p) ss)).stack.0 ≡ (after P.slot u ss).stack.0 =
      ap (λ (v : Used). v.stack.0) (sym (after-append P.slot (take (suc p) ss) (drop (suc p) ss) u) ∙ ap (λ (l' : List Shape). after P.slot u l') (take-append-drop (suc p) ss)) in
      omega (arith, x, y, z, w, (area-rounded P.slot u ss).behind)

  -- a record that stands there fetches where the layout places
  pub genuine_reads : (d : List ℕ) (w : Walk) → Genuine P d w → Shaped (shape_at P d w.position) → Narrow (shape_at P d w.position) → (P.first d).stack.0 % slot_size P.slot ≡ 0
      → read_at P.slot (offsets_of w) (shape_at P d w.position) ≡ source_in (place P.slot (used_at P d w.position) (shape_at P d w.position))
  unfolding standing used_at
  genuine_reads d w g h n m =
      ap (λ (v : Walk). read_at P.slot (offsets_of v) (shape_at P d w.position)) g.same
      ∙ read-agrees P.slot (used_at P d w.position) (shape_at P d w.position) h n
      (after-slotted P.slot (take w.position (P.shapes d)) (P.first d) m)

-- ---- within the images

same-list : {xs ys : List ℕ} → from_registers xs ≡ from_registers ys → xs ≡ ys
same-list e = cc

never_stack : {o : ℕ} {xs : List ℕ} → from_stack o ≡ from_registers xs → ⊥
never_stack e = let z : ◌≡◌ {A = ℕ} 0 1 = cc in omega arith

same-offset : {o p : ℕ} → from_stack o ≡ from_stack p → o ≡ p
same-offset e = cc

in_registers_lem : (f : Fetch) (os : List ℕ) (n regs stack : ℕ) → source_of f ≡ from_registers os → n ≤ 8 * length os → 8 * length os < n + 8
    → All (λ a. a + 8 ≤ regs) os → Within f n regs stack
in_registers_lem (One a) os n regs stack e l m b = by os (same-list e) l m b
  where
    by : (xs : List ℕ) → a.0 ∷ [] ≡ xs → n ≤ 8 * length xs → 8 * length xs < n + 8 → All (λ x. x + 8 ≤ regs) xs → (n ≤ 8) × (a.0 + n ≤ regs)
    by [] q l m b = absurd (omega (arith, ap length q))
    by (x ∷ []) q l m b = let z : a.0 ≡ x = cc in (omega arith, omega (arith, b.0))
    by (x ∷ y ∷ xs) q l m b = absurd (omega (arith, ap length q))
in_registers_lem (Two a c) os n regs stack e l m b = by os (same-list e) l m b
  where
    by : (xs : List ℕ) → a.0 ∷ c.0 ∷ [] ≡ xs → n ≤ 8 * length xs → 8 * length xs < n + 8 → All (λ x. x + 8 ≤ regs) xs
        → (8 ≤ n) × (n ≤ 16) × (a.0 + 8 ≤ regs) × (c.0 + (n - 8) ≤ regs)
    by [] q l m b = absurd (omega (arith, ap length q))
    by (x ∷ []) q l m b = absurd (omega (arith, ap length q))
    by (x ∷ y ∷ []) q l m b =
        let u : a.0 ≡ x = cc in
        let v : c.0 ≡ y = cc in
        (omega arith, omega arith, omega (arith, b.0), omega (arith, b.1.0))
    by (x ∷ y ∷ z ∷ xs) q l m b = absurd (omega (arith, ap length q))
in_registers_lem (Stack o) os n regs stack e l m b = absurd (never_stack e)

on-stack : (f : Fetch) (o n regs stack : ℕ) → source_of f ≡ from_stack o → o + n ≤ stack → Within f n regs stack
on-stack (One a) o n regs stack e l = absurd (never_stack (sym e))
on-stack (Two a b) o n regs stack e l = absurd (never_stack (sym e))
on-stack (Stack p) o n regs stack e l = let q = same-offset e in omega arith

within : (slot : Slot) (u : Used) (s : Shape) (f : Fetch) (stack : ℕ) → Shaped s → Seated 176 s → source_of f ≡ source_in (place slot u s) → (fits u s.kinds ≡ false → start slot u s + s.size ≤ stack)
    → Within f s.size 176 stack
unfolding place
within slot u s f stack h w e m = by (fits u s.kinds) refl e
  where
    by : (b : Bool) → fits u s.kinds ≡ b → source_of f ≡ source_in (place_if slot b u s) → Within f s.size 176 stack
    by true p q =
        let z = fits-true u s.kinds p in
        let r = h.room z.some in
        let n = length-slots s.kinds u.general.0 u.vector.0 in
        in_registers_lem f (slots (registers_for u.general.0 u.vector.0 s.kinds)) s.size 176 stack q (omega (arith, r.0, n)) (omega (arith, r.1, n)) (slots-inside 176 u s h w p)
    by false p q = on-stack f (start slot u s) s.size 176 stack q (m p)

-- ---- of document 01's descriptions

pub kcb-reads : (d : List ℕ) (w : Walk) → Genuine kcb d w → Shaped (shape_at kcb d w.position) → Narrow (shape_at kcb d w.position)
    → read_at eights (offsets_of w) (shape_at kcb d w.position) ≡ source_in (place eights (used_at kcb d w.position) (shape_at kcb d w.position))
unfolding kcb
kcb-reads d w g h n = genuine_reads kcb d w g h n refl

pub kcb-room : (d : List ℕ) (p : ℕ) → p < arguments kcb d → fits (used_at kcb d p) (shape_at kcb d p).kinds ≡ false
    → start eights (used_at kcb d p) (shape_at kcb d p) + (shape_at kcb d p).size ≤ area_of kcb d
unfolding kcb
kcb-room d p l e = room kcb d p l e

pub record Ready (s : Station) (seat : List ℕ) (w : Walk) (a : Ask) : Type 0 where
  pub passed : Passed kcb s seat w a
  pub registers : length a.registers ≡ 176
  pub genuine : Genuine kcb (described s seat) w
  pub before : w.position < arguments kcb (described s seat)
  pub stack : length a.stack ≡ area_of kcb (described s seat)
  pub reached : InBounds w
  pub small : Small (shape_at kcb (described s seat) w.position)
  pub shaped : Shaped (shape_at kcb (described s seat) w.position)
  pub narrow : Narrow (shape_at kcb (described s seat) w.position)
  pub fetched : (f : Fetch) → source_of f ≡ read_at eights (offsets_of w) (shape_at kcb (described s seat) w.position)
      → Within f (shape_at kcb (described s seat) w.position).size 176 (length a.stack)

standing-reached : (d : List ℕ) (w : Walk) → uses_refusal d ≡ 0 → Genuine kcb d w → w.position ≤ arguments_in d → InBounds w
unfolding standing walk_at
standing-reached d w u g l =
    let b = (asks_at d u w.position w.position (omega arith) l).before in
    let e : w ≡ with_offsets w.number w.position (walk_at (layout_used d w.position)) =
    g.same ∙ ap (λ (v : Used). with_offsets w.number w.position (walk_at v)) (kcb-used d w.position l) in
    let x = ap (λ (v : Walk). v.general.0) e in
    let y = ap (λ (v : Walk). v.vector.0) e in
    let z = ap (λ (v : Walk). v.overflow.0) e in
    let k = arguments-few d u in
    record {
      position = omega arith;
      general = omega (arith, b.general, x);
      behind = omega (arith, y);
      vector = omega (arith, b.vector, y);
      overflow = omega (arith, b.stack, z);
    }

-- a record that stands before an argument can be fetched from and stepped on
pub record Fetchable (d : List ℕ) (w : Walk) : Type 0 where
  pub reached : InBounds w
  pub small : Small (shape_at kcb d w.position)
  pub shaped : Shaped (shape_at kcb d w.position)
  pub narrow : Narrow (shape_at kcb d w.position)
  pub fetched : (f : Fetch) → source_of f ≡ read_at eights (offsets_of w) (shape_at kcb d w.position) → Within f (shape_at kcb d w.position).size 176 (area_of kcb d)

pub fetchable : (d : List ℕ) (w : Walk) → uses_refusal d ≡ 0 → Genuine kcb d w → w.position < arguments kcb d → Fetchable d w
fetchable d w u g l =
    let k : w.position < arguments_in d = omega (arith, kcb-arguments d) in
    let h : Shaped (shape_at kcb d w.position) = rw (kcb-shape d w.position k) (argument-shaped d u w.position k) in
    let n : Narrow (shape_at kcb d w.position) = kcb-narrow d w.position g.from k in
    record {
      reached = standing-reached d w u g (omega arith);
      small = rw (kcb-shape d w.position k) (argument-small d u w.position k);
      shaped = h;
      narrow = n;
      fetched = λ f q. within eights (used_at kcb d w.position) (shape_at kcb d w.position) f (area_of kcb d) h (narrow-seated _ n) (q ∙ kcb-reads d w g h n)
          (λ m. kcb-room d w.position l m);
    }

-- where show accepts, it is one
pub ready : (s : Station) (seat : List ℕ) (w : Walk) (a : Ask) → show_refusal kcb s seat w a ≡ 0 → Ready s seat w a
ready s seat w a e =
    let d = described s seat in
    let z = show-passes kcb s seat w a e in
    let g = astray-not kcb d w z.0.on in
    let l : w.position < arguments kcb d = omega (arith, g.to, z.0.before) in
    let x = fetchable d w (accepted-uses d (sym (kcb-verdict d) ∙ z.0.accepted)) g l in
    record {
      passed = z.0;
      registers = z.0.registers ∙ kcb-registers;
      genuine = g;
      before = l;
      stack = z.1;
      reached = x.reached;
      small = x.small;
      shaped = x.shaped;
      narrow = x.narrow;
      fetched = λ f q. rw z.1 (x.fetched f q);
    }
