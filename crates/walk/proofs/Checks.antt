-- Whether a walk goes on: which number, exactly; and what is known where it does. Assumes nothing.
use Rattle.std.specs.Prelude.{Err, Ok, Result}
use mathlib.Core.Path.{◌≡◌, refl, sym, ap, ◌∙◌}
use mathlib.Core.Logic.{◌↔◌, ◌≢◌}
use mathlib.Core.Bool.{Bool, true, false, cond, not, ◌||◌, ◌&&◌}
use mathlib.Core.List.{List, [], ◌∷◌}
use Prim.Native.Nat.{ℕ, ◌≤◌, ◌<◌}
use native.Mathlib.Omega.{arith}
use lib.Dec.{ltb, eqb}
use lib.ListN.{length, take}
use borrow.Author.Tests.{eq-eqb, ne_eqb, lt-ltb, le-ltb, eqb-true, ltb-false, not-false}
use Rattle.description.specs.Description.{named_in, arguments_in, argument_at, model_in}
use Rattle.form.specs.Order.{Rule, rule, first, NoneHolds, Answers, Positive}
use Rattle.form.specs.Reading.{refusal_of}
use Rattle.form.specs.declared.Refusal.{Refusal}
use Rattle.form.proofs.Form.{accepted-headed}
use Rattle.types.specs.Asks.{Sized}
use Rattle.types.proofs.Large.{accepted-form, accepted-sized}
use Rattle.uses.specs.Uses.{uses_refusal}
use Rattle.uses.proofs.Uses.{accepted-types}
use Rattle.places.specs.declared.Used.{Used}
use Rattle.places.specs.declared.Shape.{Shape as Coded}
use Rattle.places.specs.Shapes.{shape_of}
use Rattle.places.specs.Places.{eights, fresh}
use Rattle.places.specs.Recorded.{asked}
use Rattle.places.proofs.Fits.{after-bounds}
use Rattle.types.specs.Decode.{ty_at}
use Rattle.layout.specs.declared.Layout.{Layout}
use Rattle.layout.specs.Arguments.{is_named, shape_at as layout_shape, shapes_from, hidden, used_at as layout_used}
use Rattle.layout.specs.Layout.{layout_of, layout_answer}
use Rattle.layout.proofs.Verdict.{accepted-uses}
use Rattle.layout.proofs.Bounds.{argument-known}
use Rattle.layout.proofs.Layouts.{laid-accepted}
use Rattle.station.specs.declared.Station.{Station}
use Rattle.station.specs.Paper.{Paper, kcb, verdict_of, refusal_under, arguments, shape_at, area_of}
use Rattle.station.specs.Attachment.{wrong_seat, described}
use Rattle.station.proofs.Orders.{or-false}
use Rattle.station.proofs.Attachments.{under-high}
use Rattle.station.proofs.Kcb.{laid-right, laid-not, kcb-arguments, kcb-area, kcb-shape, kcb-type}
use Rattle.walk.specs.declared.Walk.{Walk}
use Rattle.walk.specs.Offsets.{walk_at}
use Rattle.walk.specs.Orders.{Ask, asking, with_offsets, standing, wrong_registers, other_number, astray, at_end, other_type, wrong_stack, walk_order, step_order, show_order, step_refusal, show_refusal, rest_refusal}
use Rattle.walk.specs.Asks.{IsStanding}
use Rattle.walk.proofs.Opens.{standing-is}
use Rattle.form.proofs.Order.{first-behind, first-before, positive-append, accepts-exactly, refuses-exactly}
use Rattle.places.specs.declared.Shape.{Shape}

-- ---- the layout's answer

pub laid-uses : (d : List ℕ) (l : Layout) → layout_answer d ≡ Ok l → uses_refusal d ≡ 0
laid-uses d l e = accepted-uses d (laid-accepted d l e).0

pub headed : (d : List ℕ) → uses_refusal d ≡ 0 → 11 ≤ length d
headed d u = accepted-headed d (accepted-form d (accepted-types d u))

pub used-few : (d : List ℕ) (p : ℕ) (u : Used) → u ≡ layout_used d p → (u.general.0 ≤ 6) × (u.vector.0 ≤ 8)
unfolding layout_used
used-few d p u e = rw e (after-bounds eights (shapes_from d 0 p) (fresh (hidden d)) (hidden-few (hidden d)) (omega arith))
  where
    hidden-few : (b : Bool) → cond b 1 0 ≤ 6
    hidden-few true = omega arith
    hidden-few false = omega arith

pub named-few : (d : List ℕ) (l : Layout) → l ≡ layout_of d → (l.named.general.0 ≤ 6) × (l.named.vector.0 ≤ 8)
unfolding layout_of
named-few d l e = used-few d (named_in d) l.named (ap (λ (m : Layout). m.named) e)

-- ---- 18

pub astray-low : (d : List ℕ) (w : Walk) → w.position < named_in d → true ≡ astray kcb d w
unfolding astray kcb
astray-low d w l = rw (lt-ltb w.position (named_in d) l)

pub astray-high : (d : List ℕ) (w : Walk) → named_in d ≤ w.position → arguments_in d < w.position → true ≡ astray kcb d w
unfolding astray kcb
astray-high d w l h = rw (le-ltb w.position (named_in d) l, kcb-arguments d, lt-ltb (arguments_in d) w.position h)

one_differs : (a b c : Bool) → not (a && (b && c)) ≡ (not a || (not b || not c))
one_differs true true c = refl
one_differs true false c = refl
one_differs false b c = refl

module _ (d : List ℕ) (w v : Walk) (u : Used) (from : named_in d ≤ w.position) (to : w.position ≤ arguments_in d)
    (used : u ≡ layout_used d w.position) (there : v ≡ with_offsets w.number w.position (walk_at u)) where
  astray-is : astray kcb d w ≡ (not (eqb w.general.0 v.general.0) || (not (eqb w.vector.0 v.vector.0) || not (eqb w.overflow.0 v.overflow.0)))
  unfolding astray kcb
  astray-is =
      rw (le-ltb w.position (named_in d) from, kcb-arguments d, le-ltb (arguments_in d) w.position to, ← standing-is d w.number w.position v to (there ∙ ap (λ (x : Used). with_offsets w.number w.position (walk_at x)) used))

  -- the two records are compared whole
  pub astray-differs : not (eqb w.number v.number && (eqb w.position v.position && (eqb w.general.0 v.general.0 && (eqb w.vector.0 v.vector.0 && eqb w.overflow.0 v.overflow.0)))) ≡ astray kcb d w
  astray-differs =
      rw (eq-eqb w.number v.number (sym (ap (λ (x : Walk). x.number) there)), eq-eqb w.position v.position (sym (ap (λ (x : Walk). x.position) there)))
      (one_differs (eqb w.general.0 v.general.0) (eqb w.vector.0 v.vector.0) (eqb w.overflow.0 v.overflow.0) ∙ sym astray-is)

-- a record that is not astray is the one that stands there
module _ (P : Paper) where
  pub record Genuine (d : List ℕ) (w : Walk) : Type 0 where
    pub same : w ≡ standing P d w.number w.position
    pub from : P.named d ≤ w.position
    pub to : w.position ≤ arguments P d

  pub astray-not : (d : List ℕ) (w : Walk) → astray P d w ≡ false → Genuine d w
  unfolding astray standing
  astray-not d w e =
      let v = standing P d w.number w.position in
      let a = or-false (ltb w.position (P.named d)) _ e in
      let b = or-false (ltb (arguments P d) w.position) _ a.1 in
      let c = or-false (not (eqb w.general.0 v.general.0)) _ b.1 in
      let f = or-false (not (eqb w.vector.0 v.vector.0)) (not (eqb w.overflow.0 v.overflow.0)) c.1 in
      let x = eqb-true w.general.0 v.general.0 (not-false _ c.0) in
      let y = eqb-true w.vector.0 v.vector.0 (not-false _ f.0) in
      let z = eqb-true w.overflow.0 v.overflow.0 (not-false _ f.1) in
      record {
        same = λ j. record { number = w.number; position = w.position; general = record { 0 = x j }; vector = record { 0 = y j }; overflow = record { 0 = z j } };
        from = ltb-false w.position (P.named d) a.0;
        to = ltb-false (arguments P d) w.position b.0;
      }

pub on-before : (d : List ℕ) (w : Walk) → astray kcb d w ≡ false → w.position ≢ arguments_in d → w.position < arguments_in d
on-before d w e h = omega (arith, (astray-not kcb d w e).to, kcb-arguments d)

-- ---- the numbers, where the description is accepted

module _ (P : Paper) (s : Station) (d : List ℕ) (w : Walk) (a : Ask) where
  rest-early : verdict_of P d ≢ 0 → rest_refusal P s d w a ≡ verdict_of P d
  unfolding verdict_of rest_refusal
  rest-early h = first-before (P.order d) _ h

  module _ (ok : verdict_of P d ≡ 0) where
    rest-late : rest_refusal P s d w a ≡ first (rule 17 (other_number s w) ∷ rule 18 (astray P d w) ∷ rule 19 (at_end P d w) ∷ rule 20 (other_type P d w a) ∷ rule 11 (wrong_stack P d a) ∷ [])
    unfolding verdict_of rest_refusal
    rest-late = first-behind (P.order d) _ (P.counted d) ok

    rest-17 : other_number s w ≡ true → rest_refusal P s d w a ≡ 17
    rest-17 e = rest-late ∙ rw e

    rest-18 : other_number s w ≡ false → astray P d w ≡ true → rest_refusal P s d w a ≡ 18
    rest-18 e f = rest-late ∙ rw (e, f)

    rest-19 : other_number s w ≡ false → astray P d w ≡ false → at_end P d w ≡ true → rest_refusal P s d w a ≡ 19
    rest-19 e f g = rest-late ∙ rw (e, f, g)

    rest-20 : other_number s w ≡ false → astray P d w ≡ false → at_end P d w ≡ false → other_type P d w a ≡ true → rest_refusal P s d w a ≡ 20
    rest-20 e f g h = rest-late ∙ rw (e, f, g, h)

    rest-11 : other_number s w ≡ false → astray P d w ≡ false → at_end P d w ≡ false → other_type P d w a ≡ false → wrong_stack P d a ≡ true → rest_refusal P s d w a ≡ 11
    rest-11 e f g h k = rest-late ∙ rw (e, f, g, h, k)

    pub rest-right : other_number s w ≡ false → astray P d w ≡ false → at_end P d w ≡ false → other_type P d w a ≡ false → wrong_stack P d a ≡ false → rest_refusal P s d w a ≡ 0
    rest-right e f g h k = rest-late ∙ rw (e, f, g, h, k)

-- ---- a standing, check after check, as code makes them

pub asked-type : (d : List ℕ) → uses_refusal d ≡ 0 → (p k : ℕ) → p < arguments_in d → k ≡ argument_at d p → Sized (model_in d) d k
asked-type d u p k l e = accepted-sized d (accepted-types d u) k (rw e (argument-known d u p l))

-- a walk stands before unnamed arguments only
pub on-unnamed : (d : List ℕ) (w : Walk) → astray kcb d w ≡ false → is_named d w.position ≡ false
unfolding kcb is_named
on-unnamed d w e = le-ltb w.position (named_in d) (astray-not kcb d w e).from

pub shape_here : (d : List ℕ) (p k : ℕ) (s : Coded) → is_named d p ≡ false → p < arguments_in d → k ≡ argument_at d p
    → asked s ≡ shape_of (model_in d) false (ty_at d k) → asked s ≡ shape_at kcb d p
unfolding layout_shape
shape_here d p k s n l e q = q ∙ ap (λ (j : ℕ). shape_of (model_in d) false (ty_at d j)) e ∙ rw (kcb-shape d p l, n)

module _ (P : Paper) (d : List ℕ) (n m : ℕ) (p : ℕ) (r : Refusal) where
  -- a refusal that is passed on
  refused-on : r ≡ refusal_under P d m → 0 < m → n ≡ m → IsStanding P n d p (Err r)
  refused-on e l q = ((λ z. omega arith), e ∙ ap (refusal_under P d) (sym q))

  -- one of the walk's own
  pub refused_as : r ≡ refusal_of m → 7 < m → n ≡ m → IsStanding P n d p (Err r)
  refused_as e l q = refused-on (e ∙ sym (under-high P d m l)) (omega arith) q

module _ (s : Station) (d : List ℕ) (w : Walk) (stack : List ℕ) (ty : ℕ) where
  abbrev a : Ask
  a = asking [] stack ty []

  abbrev Stands : Result Coded Refusal → Type 0
  Stands r = IsStanding kcb (rest_refusal kcb s d w a) d w.position r

  pub stands-not : (r : Refusal) → layout_answer d ≡ Err r → Stands (Err r)
  stands-not r e = let z = laid-not d r e in refused-on kcb _ _ _ w.position r z.0 (omega (arith, z.1)) (rest-early kcb s d w a z.1)

  module _ (l : Layout) (laid : layout_answer d ≡ Ok l) where
    ok : verdict_of kcb d ≡ 0
    ok = (laid-right d l laid).0

    pub stands-17 : (r : Refusal) → r ≡ refusal_of 17 → w.number ≢ s.number → Stands (Err r)
    unfolding other_number
    stands-17 r e h = refused_as kcb _ _ 17 w.position r e (omega arith) (rest-17 kcb s d w a ok (rw (ne_eqb w.number s.number h)))

    module _ (same : w.number ≡ s.number) where
      same_number : other_number s w ≡ false
      unfolding other_number
      same_number = rw (eq-eqb w.number s.number same)

      pub stands-18 : (r : Refusal) → r ≡ refusal_of 18 → astray kcb d w ≡ true → Stands (Err r)
      stands-18 r e h = refused_as kcb _ _ 18 w.position r e (omega arith) (rest-18 kcb s d w a ok same_number h)

      module _ (on : astray kcb d w ≡ false) where
        pub stands-19 : (r : Refusal) → r ≡ refusal_of 19 → w.position ≡ arguments_in d → Stands (Err r)
        unfolding at_end
        stands-19 r e h = refused_as kcb _ _ 19 w.position r e (omega arith) (rest-19 kcb s d w a ok same_number on (rw (kcb-arguments d, eq-eqb w.position (arguments_in d) h)))

        module _ (not_last : w.position ≢ arguments_in d) where
          before : w.position < arguments_in d
          before = on-before d w on not_last

          not_at_end : at_end kcb d w ≡ false
          unfolding at_end
          not_at_end = rw (kcb-arguments d, ne_eqb w.position (arguments_in d) not_last)

          module _ (t : ℕ) (type : t ≡ argument_at d w.position) where
            pub stands-20 : (r : Refusal) → r ≡ refusal_of 20 → t ≢ ty → Stands (Err r)
            unfolding other_type
            stands-20 r e h =
                refused_as kcb _ _ 20 w.position r e (omega arith) (rest-20 kcb s d w a ok same_number on not_at_end
                (rw (kcb-type d w.position before, ne_eqb ty (argument_at d w.position) (λ q. h (type ∙ sym q)))))

            pub sized-here : Sized (model_in d) d t
            sized-here = asked-type d (laid-uses d l laid) w.position t before type

            module _ (asked_for : t ≡ ty) where
              same_type : other_type kcb d w a ≡ false
              unfolding other_type
              same_type = rw (kcb-type d w.position before, eq-eqb ty (argument_at d w.position) (sym asked_for ∙ type))

              area : l.area.0 ≡ area_of kcb d
              unfolding layout_of
              area = ap (λ (m : Layout). m.area.0) (laid-right d l laid).1 ∙ sym (kcb-area d)

              pub stands-11 : (r : Refusal) → r ≡ refusal_of 11 → length stack ≢ l.area.0 → Stands (Err r)
              unfolding wrong_stack
              stands-11 r e h =
                  refused_as kcb _ _ 11 w.position r e (omega arith) (rest-11 kcb s d w a ok same_number on not_at_end same_type (rw (ne_eqb (length stack) (area_of kcb d) (λ q. h (q ∙ sym area)))))

              pub stands-right : (c : Coded) → length stack ≡ l.area.0 → asked c ≡ shape_of (model_in d) false (ty_at d t) → Stands (Ok c)
              unfolding wrong_stack
              stands-right c e q = (
                rest-right kcb s d w a ok same_number on not_at_end same_type (rw (eq-eqb (length stack) (area_of kcb d) (e ∙ area))),
                shape_here d w.position t c (on-unnamed d w on) before type q,
              )

-- ---- all of the order

module _ (P : Paper) (s : Station) (seat : List ℕ) (w : Walk) (a : Ask) where
  pub show-wrong : wrong_seat s seat ≡ true → show_refusal P s seat w a ≡ 11
  unfolding show_refusal
  show-wrong e = rw e

  pub show-registers : wrong_seat s seat ≡ false → length a.registers ≢ P.registers → show_refusal P s seat w a ≡ 11
  unfolding show_refusal wrong_registers
  show-registers e h = rw (e, ne_eqb (length a.registers) P.registers h)

  pub show-idle : wrong_seat s seat ≡ false → length a.registers ≡ P.registers → s.attached ≡ false → show_refusal P s seat w a ≡ 13
  unfolding show_refusal wrong_registers
  show-idle e h b = rw (e, eq-eqb (length a.registers) P.registers h, b)

  pub show-rest : wrong_seat s seat ≡ false → length a.registers ≡ P.registers → s.attached ≡ true → show_refusal P s seat w a ≡ rest_refusal P s (described s seat) w a
  unfolding show_refusal wrong_registers rest_refusal
  show-rest e h b = rw (e, eq-eqb (length a.registers) P.registers h, b)

  rest-positive : (late : List Rule) → Positive late → Positive (walk_order P s seat w a late)
  rest-positive late p =
      (omega arith, (omega arith, positive-append (P.order (described s seat)) _ (P.counted (described s seat)) (omega arith, (omega arith, (omega arith, (omega arith, p))))))

  -- "11 for seat, station and register image, 13, 1..10, 17, 18, 19, 20, then 11 for stack image and out buffer"
  pub step-accepts : (step_refusal P s seat w a ≡ 0) ↔ NoneHolds (step_order P s seat w a)
  unfolding step_refusal
  step-accepts = accepts-exactly (step_order P s seat w a) (rest-positive _ (omega arith, tt))

  pub step-refuses : (n : ℕ) → n ≢ 0 → (step_refusal P s seat w a ≡ n) ↔ Answers (step_order P s seat w a) n
  unfolding step_refusal
  step-refuses n h = refuses-exactly (step_order P s seat w a) n h

  -- "the same checks but for the out buffer"
  pub show-accepts : (show_refusal P s seat w a ≡ 0) ↔ NoneHolds (show_order P s seat w a)
  unfolding show_refusal
  show-accepts = accepts-exactly (show_order P s seat w a) (rest-positive _ (omega arith, tt))

  pub show-refuses : (n : ℕ) → n ≢ 0 → (show_refusal P s seat w a ≡ n) ↔ Answers (show_order P s seat w a) n
  unfolding show_refusal
  show-refuses n h = refuses-exactly (show_order P s seat w a) n h

-- the rest looks at no register image
rest-blind : (P : Paper) (s : Station) (seat : List ℕ) (w : Walk) (regs stack : List ℕ) (ty : ℕ)
    → rest_refusal P s (described s seat) w (asking regs stack ty []) ≡ rest_refusal P s (described s seat) w (asking [] stack ty [])
unfolding rest_refusal other_type wrong_stack
rest-blind P s seat w regs stack ty = refl

-- the rest of the checks, made in the seat at the station's length
pub stands_there : (P : Paper) (s : Station) (seat : List ℕ) (w : Walk) (regs stack : List ℕ) (ty : ℕ) (r : Result Shape Refusal)
    → wrong_seat s seat ≡ false → length regs ≡ P.registers → s.attached ≡ true
    → IsStanding P (rest_refusal P s (take s.length.0 seat) w (asking [] stack ty [])) (take s.length.0 seat) w.position r
    → IsStanding P (show_refusal P s seat w (asking regs stack ty [])) (described s seat) w.position r
unfolding described
stands_there P s seat w regs stack ty r e l b h = rw (show-rest P s seat w (asking regs stack ty []) e l b) (by h)
  where
    by : IsStanding P (rest_refusal P s (take s.length.0 seat) w (asking [] stack ty [])) (take s.length.0 seat) w.position r
        → IsStanding P (rest_refusal P s (described s seat) w (asking regs stack ty [])) (described s seat) w.position r
    by x = rw (rest-blind P s seat w regs stack ty) x
