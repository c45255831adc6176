-- The two loops that move bytes: what is left to move from here comes to what was to be moved at first. Assumes nothing.
use mathlib.Core.Path.{◌≡◌, refl, sym, ap, ap₂, ◌∙◌}
use mathlib.Core.List.{List, ◌∷◌, ◌++◌}
use Prim.Native.Nat.{ℕ, ◌+◌, ◌-◌, ◌≤◌, ◌<◌}
use native.Mathlib.Nat.{sub-zero}
use native.Mathlib.Omega.{arith}
use lib.ListN.{length, get_or, drop, take-append-drop, length-map}
use lib.Seq.{drop-drop}
use Rattle.addresses.specs.Addresses.{run, gather, scatter}
use Rattle.addresses.proofs.Scatter.{scatter-append, gather_append}
use Rattle.addresses.proofs.Runs.{length_run, gather-run, run-append, scatter-whole}
use Rattle.description.specs.Description.{arguments_in}
use Rattle.places.specs.declared.Used.{Used}
use Rattle.places.specs.Shapes.{Shape, Shaped}
use Rattle.places.specs.Places.{eights, Place, place, next}
use Rattle.places.specs.Images.{stack_at, bytes_of, addresses, total}
use Rattle.places.specs.Recorded.{place_of}
use Rattle.places.proofs.Apart.{length-bytes, length-addresses}
use Rattle.layout.specs.Arguments.{shape_at, shapes_from, shapes, hidden, used_first}
use Rattle.layout.specs.Layout.{values_of}
use Rattle.layout.specs.Placements.{Step, laying_fresh, step_at}
use Rattle.layout.specs.declared.placements.Laying.{Laying}
use Rattle.layout.proofs.Arguments.{shapes-cons, shapes-end}
use Rattle.layout.proofs.Bounds.{argument-shaped, all-shaped}
use Rattle.moving.specs.Images.{addresses_of, frame_of}
use Rattle.moving.specs.Frames.{gathered_in}
use Rattle.moving.specs.Asks.{Lent}
use Rattle.moving.proofs.Turns.{right, Turn, turn_first, turn_start, turn_next, step-size, step-at, step-used, step-values, step-place, value-inside}

-- ---- one argument, and the rest

drop-run : (vals : List ℕ) (k z : ℕ) → k + z ≤ length vals → drop k vals ≡ gather vals (run k z) ++ drop (k + z) vals
drop-run vals k z h = sym (take-append-drop z (drop k vals)) ∙ ap₂ ◌++◌ (sym (gather-run z k vals h)) (drop-drop z k vals)

module _ (u : Used) (s : Shape) (ss : List Shape) (img vals : List ℕ) (k : ℕ) (h : Shaped s) where
  scatter-argument : k + s.size ≤ length vals
      → scatter img (addresses stack_at eights u (s ∷ ss)) (drop k vals)
      ≡ scatter (scatter img (bytes_of stack_at (place eights u s) s.size) (gather vals (run k s.size))) (addresses stack_at eights (next eights u s) ss) (drop (k + s.size) vals)
  scatter-argument l =
      ap (λ (vs : List ℕ). scatter img (addresses stack_at eights u (s ∷ ss)) vs) (drop-run vals k s.size l)
      ∙ scatter-append (bytes_of stack_at (place eights u s) s.size) (addresses stack_at eights (next eights u s) ss) img (gather vals (run k s.size)) (drop (k + s.size) vals)
      (length-bytes stack_at eights u s h ∙ sym (length-map (run k s.size) (λ p. get_or vals p 0) ∙ length_run k s.size))

  gather-argument : scatter vals (run k (s.size + total ss)) (gather img (addresses stack_at eights u (s ∷ ss)))
      ≡ scatter (scatter vals (run k s.size) (gather img (bytes_of stack_at (place eights u s) s.size))) (run (k + s.size) (total ss)) (gather img (addresses stack_at eights (next eights u s) ss))
  gather-argument =
      ap₂ (λ (ps vs : List ℕ). scatter vals ps vs) (run-append k s.size (total ss)) (gather_append (bytes_of stack_at (place eights u s) s.size) (addresses stack_at eights (next eights u s) ss) img)
      ∙ scatter-append (run k s.size) (run (k + s.size) (total ss)) vals (gather img (bytes_of stack_at (place eights u s) s.size)) (gather img (addresses stack_at eights (next eights u s) ss))
      (length_run k s.size ∙ sym (length-map (bytes_of stack_at (place eights u s) s.size) (λ p. get_or img p 0) ∙ length-bytes stack_at eights u s h))

abbrev rest : List ℕ → ℕ → List Shape
rest d i = shapes_from d i (arguments_in d - i)

rest_all : (d : List ℕ) → rest d 0 ≡ shapes d
rest_all d = ap (shapes_from d 0) (sub-zero (arguments_in d))

-- ---- the loop that places

module _ (d vals r₀ y₀ s₀ : List ℕ) where
  pub record Placing (r y s : List ℕ) (t : Laying) (i : ℕ) : Type 0 where
    pub turn : Turn d t i
    pub lent : Lent d (length vals) (length r) (length y) (length s)
    pub registers : length r ≡ length r₀
    pub upper : length y ≡ length y₀
    pub stack : length s ≡ length s₀
    pub same : scatter (r ++ (y ++ s)) (addresses stack_at eights t.used (rest d i)) (drop t.values.0 vals) ≡ scatter (r₀ ++ (y₀ ++ s₀)) (addresses_of d) vals

  pub placing-first : (t : Laying) → Lent d (length vals) (length r₀) (length y₀) (length s₀) → t ≡ laying_fresh (hidden d) → Placing r₀ y₀ s₀ t 0
  unfolding addresses_of laying_fresh
  placing-first t h e = record {
    turn = turn_first d t e;
    lent = h;
    registers = refl;
    upper = refl;
    stack = refl;
    same = rw (e, rest_all d);
  }

  pub placing-next : (r y s : List ℕ) (t : Laying) (i : ℕ) → i < arguments_in d → Placing r y s t i → (z : Step) → z ≡ step_at d t i
      → (r' y' s' : List ℕ) → length r' ≡ length r → length y' ≡ length y → length s' ≡ length s
      → r' ++ (y' ++ s') ≡ scatter (r ++ (y ++ s)) (bytes_of stack_at (place_of z.placement.place) z.placement.size.0) (gather vals (run z.placement.at.0 z.placement.size.0))
      → Placing r' y' s' z.after (i + 1)
  placing-next r y s t i l h z e r' y' s' a c b m =
      let u = t.used in
      let k = t.values.0 in
      let x = shape_at d i in
      let xs = rest d (i + 1) in
      let ok = h.lent.accepted in
      let size = step-size d t i l h.turn z e in
      record {
        turn = turn_next d t i l h.turn z e;
        lent = rw (a, c, b) h.lent;
        registers = a ∙ h.registers;
        upper = c ∙ h.upper;
        stack = b ∙ h.stack;
        same =
            ap₂ (λ (img : List ℕ) (w : Used). scatter img (addresses stack_at eights w xs) (drop z.after.values.0 vals))
            (m
            ∙ ap (λ (n : ℕ). scatter (r ++ (y ++ s)) (bytes_of stack_at (place_of z.placement.place) z.placement.size.0) (gather vals (run n z.placement.size.0))) (step-at d t i l h.turn z e)
            ∙ ap₂ (λ (p : Place) (n : ℕ). scatter (r ++ (y ++ s)) (bytes_of stack_at p n) (gather vals (run k n))) (step-place d t i l h.turn z e ok) size)
            (step-used d t i l h.turn z e)
            ∙ ap (λ (n : ℕ). scatter (scatter (r ++ (y ++ s)) (bytes_of stack_at (place eights u x) x.size) (gather vals (run k x.size))) (addresses stack_at eights (next eights u x) xs) (drop n vals)) (step-values d t i l h.turn z e)
            ∙ sym (scatter-argument u x xs (r ++ (y ++ s)) vals k (argument-shaped d (right d ok) i l) (omega (arith, turn_start d t i h.turn, h.lent.values, value-inside d ok i l)))
            ∙ ap (λ (ss : List Shape). scatter (r ++ (y ++ s)) (addresses stack_at eights u ss) (drop k vals)) (sym (shapes-cons d i (arguments_in d) l))
            ∙ h.same;
      }

  pub placing-last : (r y s : List ℕ) (t : Laying) (i : ℕ) → arguments_in d ≤ i → Placing r y s t i → r ++ (y ++ s) ≡ scatter (r₀ ++ (y₀ ++ s₀)) (addresses_of d) vals
  placing-last r y s t i l h =
      ap (λ (ss : List Shape). scatter (r ++ (y ++ s)) (addresses stack_at eights t.used ss) (drop t.values.0 vals)) (sym (shapes-end d i (arguments_in d) l)) ∙ h.same

-- ---- the loop that gathers

module _ (d r y s v₀ : List ℕ) where
  pub record Gathering (v : List ℕ) (t : Laying) (i : ℕ) : Type 0 where
    pub turn : Turn d t i
    pub lent : Lent d (length v) (length r) (length y) (length s)
    pub values : length v ≡ length v₀
    pub same : scatter v (run t.values.0 (total (rest d i))) (gather (r ++ (y ++ s)) (addresses stack_at eights t.used (rest d i))) ≡ gathered_in (frame_of d) (r ++ (y ++ s))

  pub gathering_first : (t : Laying) → Lent d (length v₀) (length r) (length y) (length s) → t ≡ laying_fresh (hidden d) → Gathering v₀ t 0
  unfolding gathered_in addresses_of values_of laying_fresh
  gathering_first t h e =
      let long : length (gather (r ++ (y ++ s)) (addresses stack_at eights (used_first d) (shapes d))) ≡ total (shapes d) =
      length-map (addresses stack_at eights (used_first d) (shapes d)) (λ p. get_or (r ++ (y ++ s)) p 0) ∙ length-addresses stack_at eights (shapes d) (used_first d) (all-shaped d (right d h.accepted)) in
      record {
        turn = turn_first d t e;
        lent = h;
        values = refl;
        same =
            ap₂ (λ (w : Laying) (ss : List Shape). scatter v₀ (run w.values.0 (total ss)) (gather (r ++ (y ++ s)) (addresses stack_at eights w.used ss))) e (rest_all d)
            ∙ ap (λ (n : ℕ). scatter v₀ (run 0 n) (gather (r ++ (y ++ s)) (addresses stack_at eights (used_first d) (shapes d)))) (sym long)
            ∙ scatter-whole (gather (r ++ (y ++ s)) (addresses stack_at eights (used_first d) (shapes d))) v₀ (h.values ∙ sym long);
      }

  pub gathering_next : (v : List ℕ) (t : Laying) (i : ℕ) → i < arguments_in d → Gathering v t i → (z : Step) → z ≡ step_at d t i
      → (v' : List ℕ) → length v' ≡ length v
      → v' ≡ scatter v (run z.placement.at.0 z.placement.size.0) (gather (r ++ (y ++ s)) (bytes_of stack_at (place_of z.placement.place) z.placement.size.0))
      → Gathering v' z.after (i + 1)
  gathering_next v t i l h z e v' a m =
      let u = t.used in
      let k = t.values.0 in
      let x = shape_at d i in
      let xs = rest d (i + 1) in
      let ok = h.lent.accepted in
      let size = step-size d t i l h.turn z e in
      record {
        turn = turn_next d t i l h.turn z e;
        lent = rw a h.lent;
        values = a ∙ h.values;
        same =
            ap₂ (λ (w : List ℕ) (x' : Used). scatter w (run z.after.values.0 (total xs)) (gather (r ++ (y ++ s)) (addresses stack_at eights x' xs)))
            (m
            ∙ ap (λ (n : ℕ). scatter v (run n z.placement.size.0) (gather (r ++ (y ++ s)) (bytes_of stack_at (place_of z.placement.place) z.placement.size.0))) (step-at d t i l h.turn z e)
            ∙ ap₂ (λ (p : Place) (n : ℕ). scatter v (run k n) (gather (r ++ (y ++ s)) (bytes_of stack_at p n))) (step-place d t i l h.turn z e ok) size)
            (step-used d t i l h.turn z e)
            ∙ ap (λ (n : ℕ). scatter (scatter v (run k x.size) (gather (r ++ (y ++ s)) (bytes_of stack_at (place eights u x) x.size))) (run n (total xs)) (gather (r ++ (y ++ s)) (addresses stack_at eights (next eights u x) xs))) (step-values d t i l h.turn z e)
            ∙ sym (gather-argument u x xs (r ++ (y ++ s)) v k (argument-shaped d (right d ok) i l))
            ∙ ap (λ (ss : List Shape). scatter v (run k (total ss)) (gather (r ++ (y ++ s)) (addresses stack_at eights u ss))) (sym (shapes-cons d i (arguments_in d) l))
            ∙ h.same;
      }

  pub gathering_last : (v : List ℕ) (t : Laying) (i : ℕ) → arguments_in d ≤ i → Gathering v t i → v ≡ gathered_in (frame_of d) (r ++ (y ++ s))
  gathering_last v t i l h =
      ap (λ (ss : List Shape). scatter v (run t.values.0 (total ss)) (gather (r ++ (y ++ s)) (addresses stack_at eights t.used ss))) (sym (shapes-end d i (arguments_in d) l)) ∙ h.same
