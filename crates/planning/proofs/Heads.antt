-- What stands before the lists of a plan, and the whole of it from what is written. Assumes nothing.
use mathlib.Core.Path.{◌≡◌, sym, ap, ap₂, ◌∙◌}
use mathlib.Core.Logic.{◌≢◌}
use mathlib.Core.Bool.{Bool, true, false, cond, not, ◌&&◌}
use mathlib.Core.List.{List, [], ◌∷◌, ◌++◌, append_assoc}
use Prim.Native.Nat.{ℕ, ◌+◌, ◌-◌, ◌/◌, ◌≤◌, ◌<◌}
use native.Mathlib.Omega.{arith}
use borrow.Author.Tests.{eq-eqb, ne_eqb, not-true, not-false}
use lib.ListN.{length, length-append}
use Rattle.description.specs.declared.Model.{Model}
use Rattle.description.specs.declared.Model.TheVariants.{Lp64, Ilp32}
use Rattle.description.specs.Description.{types_in, arguments_in, return_in, model_in, Whole}
use Rattle.places.specs.Places.{eights as eightbytes}
use Rattle.places.proofs.Offsets.{area-rounded}
use Rattle.layout.specs.declared.Layout.{Layout}
use Rattle.layout.specs.Arguments.{shapes, hidden, is_void, return_place, used_first, area_of}
use Rattle.layout.specs.Layout.{values_of, layout_of}
use Rattle.layout.specs.Verdict.{verdict}
use Rattle.layout.proofs.Bounds.{all-shaped}
use Rattle.layout.proofs.Verdict.{accepted-area}
use Rattle.moving.specs.Orders.{is_bool}
use Rattle.moving.proofs.Turns.{right}
use Rattle.returning.specs.declared.return_image.Parts.{Parts}
use Rattle.returning.specs.Moved.{parts_of}
use Rattle.returning.specs.Image.{length_for}
use Rattle.returning.specs.ImageAsks.{Returnable}
use Rattle.returning.specs.Returned.{return_length}
use Rattle.returning.proofs.Values.{whole, returned-known, accepted-returnable}
use Rattle.plans.specs.Moves.{Move}
use Rattle.plans.specs.Cuts.{cut, joined, halved, moves_of, eights, fours, parts, twos, threes, bools_from, address_kind, move_of, head_of, plan_of}
use Rattle.plans.proofs.Codes.{length-twos, length-threes}
use Rattle.plans.proofs.Cuts.{within-cut, within-joined}
use Rattle.plans.proofs.Rooms.{all-fit}
use Rattle.plans.proofs.Theorems.{values-few, plan_room_lem, plan_numbers}
use Rattle.planning.specs.Planning.{overwritten, call_numbers, count_numbers, return_numbers}
use Rattle.planning.specs.declared.lists.Kind.TheVariants.{Eights, Fours, Parts as OtherParts}
use Rattle.planning.specs.Joining.{all_of}
use Rattle.planning.specs.Asks.{AskMoves}
use Rattle.planning.proofs.Writing.{over-append, over-comm, all-eights, all-fours, all-parts}

module _ (d : List ℕ) where
  -- ---- the hidden address

  pub kind-none : (b : Bool) → not b ≡ true → ◌≡◌ {A = ℕ} 0 (cond b (address_kind (model_in d)) 0)
  kind-none b e = ap (λ (x : Bool). cond x (address_kind (model_in d)) 0) (sym (not-true b e))

  kind-some : (b : Bool) → not b ≡ false → (m : Model) → model_in d ≡ m → address_kind m ≡ cond b (address_kind (model_in d)) 0
  kind-some b e m f = sym (ap₂ (λ (x : Bool) (n : Model). cond x (address_kind n) 0) (not-false b e) f)

  pub kind-lp64 : (b : Bool) → not b ≡ false → model_in d ≡ Lp64 → ◌≡◌ {A = ℕ} 1 (cond b (address_kind (model_in d)) 0)
  kind-lp64 b e f = kind-some b e Lp64 f

  pub kind-ilp32 : (b : Bool) → not b ≡ false → model_in d ≡ Ilp32 → ◌≡◌ {A = ℕ} 2 (cond b (address_kind (model_in d)) 0)
  kind-ilp32 b e f = kind-some b e Ilp32 f

  -- ---- a returned _Bool

  pub bool-void : (k : ℕ) → k ≡ return_in d → k ≡ 255 → 0 ≡ (head_of d).bool
  unfolding head_of is_void
  bool-void k e f = sym (rw (eq-eqb (return_in d) 255 (sym e ∙ f)))

  module _ (k : ℕ) (e : k ≡ return_in d) (n : k ≢ 255) where
    some : is_void d ≡ false
    unfolding is_void
    some = ne_eqb (return_in d) 255 (λ z. n (e ∙ z))

    pub bool-known : verdict d ≡ 0 → Whole d × (k < types_in d)
    bool-known a = (whole d a, omega (arith, e, returned-known d a some))

    pub bool_is : (b c : Bool) → b ≡ is_bool d k → b ≡ c → cond c 1 0 ≡ (head_of d).bool
    unfolding head_of
    bool_is b c f g = sym (ap₂ (λ (x y : Bool). cond (not x && y) 1 0) some (ap (is_bool d) (sym e) ∙ sym f ∙ g))

  -- ---- numbers 0 to 3

  module _ (accepted : verdict d ≡ 0) (l : Layout) (is : l ≡ layout_of d) where
    is-values : l.values.0 ≡ (head_of d).values
    unfolding head_of layout_of
    is-values = ap (λ (x : Layout). x.values.0) is

    is-area : l.area.0 ≡ (head_of d).area
    unfolding head_of layout_of
    is-area = ap (λ (x : Layout). x.area.0) is

    is-vectors : l.used.vector.0 ≡ (head_of d).vectors
    unfolding head_of layout_of
    is-vectors = ap (λ (x : Layout). x.used.vector.0) is

    pub is_hidden : l.hidden ≡ hidden d
    unfolding layout_of
    is_hidden = ap (λ (x : Layout). x.hidden) is

    is_address : (a : ℕ) → a ≡ cond l.hidden (address_kind (model_in d)) 0 → a ≡ (head_of d).address
    unfolding head_of
    is_address a e = e ∙ ap (λ (b : Bool). cond b (address_kind (model_in d)) 0) is_hidden

    pub call-small : (l.values.0 < 65536) × (l.area.0 < 65536)
    unfolding plan_of
    call-small = let n = plan_numbers d accepted in (omega (arith, is-values, n.0), omega (arith, is-area, n.1.0))

    pub address-small : (a : ℕ) → a ≡ cond l.hidden (address_kind (model_in d)) 0 → (l.used.vector.0 < 65536) × (a < 65536)
    unfolding plan_of
    address-small a e = let n = plan_numbers d accepted in (omega (arith, is-vectors, n.1.1.0), omega (arith, is_address a e, n.1.1.1.0))

    pub call-done : (a : ℕ) → a ≡ cond l.hidden (address_kind (model_in d)) 0 → (p x y : List ℕ) → x ≡ overwritten p 0 (l.values.0 ∷ l.area.0 ∷ [])
        → y ≡ overwritten x 2 (l.used.vector.0 ∷ a ∷ []) → y ≡ overwritten p 0 (call_numbers (head_of d))
    call-done a e p x y f g =
        g ∙ ap₂ (λ (z : List ℕ) (k : ℕ). overwritten z 2 (l.used.vector.0 ∷ k ∷ [])) f (is_address a e) ∙ rw (is-values, is-area, is-vectors)

    -- ---- numbers 8 to 15

    is-place : l.returns ≡ return_place d
    unfolding layout_of
    is-place = ap (λ (x : Layout). x.returns) is

    module _ (n : ℕ) (q : n ≡ length_for l.returns l.returned.0) where
      is-length : n ≡ return_length d
      unfolding return_length layout_of
      is-length = q ∙ ap₂ length_for is-place (ap (λ (x : Layout). x.returned.0) is)

      pub returned-asks : Returnable l.returns n
      returned-asks = rw (is-place, is-length) (accepted-returnable d accepted)

      module _ (m : Parts) (e : m ≡ parts_of l.returns n) where
        is-parts : m ≡ parts_of (return_place d) (return_length d)
        is-parts = e ∙ ap₂ parts_of is-place is-length

        is-low : move_of m.low ≡ (head_of d).first
        unfolding head_of
        is-low = ap (λ (x : Parts). move_of x.low) is-parts

        is-high : move_of m.high ≡ (head_of d).second
        unfolding head_of
        is-high = ap (λ (x : Parts). move_of x.high) is-parts

        is-returned : n ≡ (head_of d).returned
        unfolding head_of
        is-returned = is-length

        pub returned-small : (b : ℕ) → b ≡ (head_of d).bool → (n < 65536) × (b < 65536)
        unfolding plan_of
        returned-small b f =
            let k = (plan_numbers d accepted).1.1.1.1.1.1.1.1 in
            (omega (arith, is-returned, k.0), omega (arith, f, k.1.0))

        pub low_small : (m.low.from.0 < 65536) × (m.low.to.0 < 65536) × (m.low.count.0 < 65536)
        unfolding plan_of
        low_small =
            let k = (plan_numbers d accepted).1.1.1.1.1.1.1.1.1.1 in (
              omega (arith, ap (λ (x : Move). x.source) is-low, k.0),
              omega (arith, ap (λ (x : Move). x.target) is-low, k.1.0),
              omega (arith, ap (λ (x : Move). x.count) is-low, k.1.1.0),
            )

        pub high_small : (m.high.from.0 < 65536) × (m.high.to.0 < 65536) × (m.high.count.0 < 65536)
        unfolding plan_of
        high_small =
            let k = (plan_numbers d accepted).1.1.1.1.1.1.1.1.1.1.1.1.1 in (
              omega (arith, ap (λ (x : Move). x.source) is-high, k.0),
              omega (arith, ap (λ (x : Move). x.target) is-high, k.1.0),
              omega (arith, ap (λ (x : Move). x.count) is-high, k.1.1.0),
            )

        pub returned-done : (b : ℕ) → b ≡ (head_of d).bool → (p x y z : List ℕ) → x ≡ overwritten p 8 (n ∷ b ∷ [])
            → y ≡ overwritten x 10 (m.low.from.0 ∷ m.low.to.0 ∷ m.low.count.0 ∷ []) → z ≡ overwritten y 13 (m.high.from.0 ∷ m.high.to.0 ∷ m.high.count.0 ∷ [])
            → z ≡ overwritten p 8 (return_numbers (head_of d))
        returned-done b f p x y z u v w =
            w ∙ ap (λ (i : List ℕ). overwritten i 13 (m.high.from.0 ∷ m.high.to.0 ∷ m.high.count.0 ∷ [])) v
            ∙ ap (λ (i : List ℕ). overwritten (overwritten i 10 (m.low.from.0 ∷ m.low.to.0 ∷ m.low.count.0 ∷ [])) 13 (m.high.from.0 ∷ m.high.to.0 ∷ m.high.count.0 ∷ [])) u
            ∙ ap₂ (λ (s t : Move). overwritten (overwritten (overwritten p 8 (n ∷ b ∷ [])) 10 (s.source ∷ s.target ∷ s.count ∷ [])) 13 (t.source ∷ t.target ∷ t.count ∷ [])) is-low is-high
            ∙ rw (is-returned, f)

  -- ---- the lists

  abbrev E : List ℕ
  E = twos (eights (moves_of d))

  abbrev F : List ℕ
  F = twos (fours (moves_of d))

  abbrev P : List ℕ
  P = threes (parts (moves_of d))

  abbrev B : List ℕ
  B = bools_from d 0 (arguments_in d)

  pub plan_length : length (plan_of d) ≡ 16 + (length E + (length F + (length P + length B)))
  unfolding plan_of
  plan_length = omega (arith, length-append E (F ++ (P ++ B)), length-append F (P ++ B), length-append P B)

  module _ (accepted : verdict d ≡ 0) (ms : List Move) (are : ms ≡ joined (cut (used_first d) 0 (shapes d))) where
    pub eights-are : all_of Eights ms ≡ E
    unfolding moves_of
    eights-are = all-eights ms ∙ ap (λ (x : List Move). twos (eights (halved x))) are

    pub fours-are : all_of Fours ms ≡ F
    unfolding moves_of
    fours-are = all-fours ms ∙ ap (λ (x : List Move). twos (fours (halved x))) are

    pub parts_are : all_of OtherParts ms ≡ P
    unfolding moves_of
    parts_are = all-parts ms ∙ ap (λ (x : List Move). threes (parts (halved x))) are

    pub lists_ask : AskMoves ms
    unfolding values_of area_of
    lists_ask =
        rw are
        (all-fit 18432 16688 (joined (cut (used_first d) 0 (shapes d)))
        (within-joined 18432 16688 (cut (used_first d) 0 (shapes d))
        (within-cut (shapes d) (used_first d) 0 18432 16688 (all-shaped d (right d accepted)) (omega (arith, values-few d accepted))
        (omega (arith, (area-rounded eightbytes (used_first d) (shapes d)).behind, accepted-area d accepted)))))

    -- there is room for all of them
    module _ (n : ℕ) (room : 392 ≤ n) where
      pub room-eights : 16 + length (all_of Eights ms) ≤ n
      room-eights = omega (arith, ap (λ (x : List ℕ). length x) eights-are, plan_length, plan_room_lem d accepted)

      module _ (a : ℕ) (qa : a ≡ 16 + length (all_of Eights ms)) where
        pub room-fours : a + length (all_of Fours ms) ≤ n
        room-fours = omega (arith, ap (λ (x : List ℕ). length x) eights-are, ap (λ (x : List ℕ). length x) fours-are, plan_length, plan_room_lem d accepted)

        module _ (b : ℕ) (qb : b ≡ a + length (all_of Fours ms)) where
          pub room-parts : b + length (all_of OtherParts ms) ≤ n
          room-parts = omega (arith, ap (λ (x : List ℕ). length x) eights-are, ap (λ (x : List ℕ). length x) fours-are, ap (λ (x : List ℕ). length x) parts_are, plan_length, plan_room_lem d accepted)

          module _ (c : ℕ) (qc : c ≡ b + length (all_of OtherParts ms)) where
            pub room-bools : c + length B ≤ n
            room-bools = omega (arith, ap (λ (x : List ℕ). length x) eights-are, ap (λ (x : List ℕ). length x) fours-are, ap (λ (x : List ℕ). length x) parts_are, plan_length, plan_room_lem d accepted)

            module _ (e : ℕ) (qe : e ≡ c + length B) where
              count-eights : (a - 16) / 2 ≡ length (eights (moves_of d))
              count-eights = omega (arith, qa, ap (λ (x : List ℕ). length x) eights-are, length-twos (eights (moves_of d)))

              count-fours : (b - a) / 2 ≡ length (fours (moves_of d))
              count-fours = omega (arith, qb, ap (λ (x : List ℕ). length x) fours-are, length-twos (fours (moves_of d)))

              count-parts : (c - b) / 3 ≡ length (parts (moves_of d))
              count-parts = omega (arith, qc, ap (λ (x : List ℕ). length x) parts_are, length-threes (parts (moves_of d)))

              count-bools : e - c ≡ length B
              count-bools = omega (arith, qe)

              pub order : (16 ≤ a) × ((a ≤ b) × ((b ≤ c) × (c ≤ e)))
              order = (omega (arith, qa), (omega (arith, qb), (omega (arith, qc), omega (arith, qe))))

              pub counts-small : ((a - 16) / 2 < 65536) × (((b - a) / 2 < 65536) × (((c - b) / 3 < 65536) × (e - c < 65536)))
              unfolding plan_of
              counts-small =
                  let k = (plan_numbers d accepted).1.1.1.1 in
                  (omega (arith, count-eights, k.0), (omega (arith, count-fours, k.1.0), (omega (arith, count-parts, k.1.1.0), omega (arith, count-bools, k.1.1.1.0))))

              -- the lists behind one another, then what stands before them
              module _ (p p1 p2 p3 p4 p5 p6 p7 p8 : List ℕ) (q1 : p1 ≡ overwritten p 16 (all_of Eights ms)) (q2 : p2 ≡ overwritten p1 a (all_of Fours ms)) (q3 : p3 ≡ overwritten p2 b (all_of OtherParts ms))
                  (q4 : p4 ≡ overwritten p3 c B) (q5 : p5 ≡ overwritten p4 0 (call_numbers (head_of d))) (q6 : p6 ≡ overwritten p5 4 ((a - 16) / 2 ∷ (b - a) / 2 ∷ []))
                  (q7 : p7 ≡ overwritten p6 6 ((c - b) / 3 ∷ (e - c) ∷ [])) (q8 : p8 ≡ overwritten p7 8 (return_numbers (head_of d))) where
                lists_two : p2 ≡ overwritten p 16 (E ++ F)
                lists_two =
                    q2 ∙ ap₂ (λ (l : List ℕ) (i : ℕ). overwritten l i (all_of Fours ms)) q1 qa ∙ over-append p 16 (all_of Eights ms) (all_of Fours ms)
                    ∙ ap₂ (λ (x y : List ℕ). overwritten p 16 (x ++ y)) eights-are fours-are

                place-three : b ≡ 16 + length (E ++ F)
                place-three = omega (arith, qb, qa, ap (λ (x : List ℕ). length x) eights-are, ap (λ (x : List ℕ). length x) fours-are, length-append E F)

                lists_three : p3 ≡ overwritten p 16 ((E ++ F) ++ P)
                lists_three =
                    q3 ∙ ap₂ (λ (l : List ℕ) (i : ℕ). overwritten l i (all_of OtherParts ms)) lists_two place-three ∙ over-append p 16 (E ++ F) (all_of OtherParts ms)
                    ∙ ap (λ (y : List ℕ). overwritten p 16 ((E ++ F) ++ y)) parts_are

                place-four : c ≡ 16 + length ((E ++ F) ++ P)
                place-four = omega (arith, qc, place-three, ap (λ (x : List ℕ). length x) parts_are, length-append (E ++ F) P)

                lists_four : p4 ≡ overwritten p 16 (E ++ (F ++ (P ++ B)))
                lists_four =
                    q4 ∙ ap₂ (λ (l : List ℕ) (i : ℕ). overwritten l i B) lists_three place-four ∙ over-append p 16 ((E ++ F) ++ P) B
                    ∙ ap (overwritten p 16) (append_assoc (E ++ F) P B ∙ append_assoc E F (P ++ B))

                abbrev H : List ℕ
                H = call_numbers (head_of d)
                    ++ (count_numbers (length (eights (moves_of d))) (length (fours (moves_of d))) (length (parts (moves_of d))) (length B) ++ return_numbers (head_of d))

                head_written : p8 ≡ overwritten p4 0 H
                head_written =
                    q8 ∙ ap (λ (l : List ℕ). overwritten l 8 (return_numbers (head_of d)))
                    (q7 ∙ ap₂ (λ (l xs : List ℕ). overwritten l 6 xs) (q6 ∙ ap₂ (λ (l xs : List ℕ). overwritten l 4 xs) q5 (ap₂ (λ (x y : ℕ). x ∷ y ∷ []) count-eights count-fours)) (ap₂ (λ (x y : ℕ). x ∷ y ∷ []) count-parts count-bools))

                pub whole-written : (p8 ≡ overwritten p 0 (plan_of d)) × (e ≡ length (plan_of d))
                unfolding plan_of
                whole-written = (
                  head_written ∙ ap (λ (l : List ℕ). overwritten l 0 H) lists_four
                      ∙ over-comm p 0 16 H (E ++ (F ++ (P ++ B))) (omega arith)
                      ∙ over-append p 0 H (E ++ (F ++ (P ++ B))),
                  omega (arith, qe, place-four, length-append (E ++ F) P, length-append E F, plan_length),
                )
