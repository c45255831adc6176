-- Nothing is lost in the flat records of an accepted description: what they mean is what the layout says. Assumes nothing.
use mathlib.Core.Path.{◌≡◌, refl, ap, ap₂}
use mathlib.Core.Bool.{Bool, true, false, cond, not, ◌&&◌}
use mathlib.Core.List.{List, [], ◌∷◌}
use Prim.Native.Nat.{ℕ, ◌+◌, ◌≤◌}
use native.Mathlib.Omega.{arith}
use borrow.Author.Tests.{ne_eqb, ltb-false}
use lib.Dec.{eqb}
use lib.ListN.{length, get_or, length-append}
use Rattle.units.specs.declared.Bytes.{Bytes}
use Rattle.description.specs.Description.{arguments_in}
use Rattle.classes.specs.declared.Class.{Class}
use Rattle.classes.specs.declared.Class.TheVariants.{NoClass, Integer, Sse, SseUp, X87, X87Up, ComplexX87, Memory}
use Rattle.classes.specs.Classes.{same}
use Rattle.classes.specs.Ups.{on_stack}
use Rattle.places.specs.declared.Kind.{Kind}
use Rattle.places.specs.declared.Kind.TheVariants.{General as general, Vector as vector, Upper as upper, Wide as wide}
use Rattle.places.specs.declared.Register.{Register}
use Rattle.places.specs.declared.Register.TheVariants.{General, Vector, Upper, Wide}
use Rattle.places.specs.declared.Place.{Place}
use Rattle.places.specs.declared.Place.TheVariants.{One, Two, Stack}
use Rattle.places.specs.declared.ReturnPlace.{ReturnPlace}
use Rattle.places.specs.declared.ReturnPlace.TheVariants.{Void, Memory as InMemory, One as InOne, Two as InTwo, St0, St0St1}
use Rattle.places.specs.Shapes.{kind_of, kinds_in, kinds_of}
use Rattle.places.specs.Places.{eights, register_for, next, general_for, vector_for}
use Rattle.places.specs.Returns.{outside, return_by, return_of, hidden_by, hidden_for}
use Rattle.classify.specs.Vectors.{is_vector}
use Rattle.images.specs.Asks.{Known, Single, Alone, Inside}
use Rattle.images.proofs.Inside.{place_inside}
use Rattle.layout.specs.declared.placements.Placement.{Placement as Record}
use Rattle.layout.specs.declared.Layout.{Layout as Whole}
use Rattle.layout.specs.Arguments.{shape_at, used_at, is_void, return_classes, return_place, hidden}
use Rattle.layout.specs.Layout.{layout_of as whole_of}
use Rattle.layout.specs.Placements.{laying_at, placement_at}
use Rattle.layout.proofs.Verdict.{accepted-uses}
use Rattle.layout.proofs.Bounds.{argument-shaped}
use Rattle.flat.specs.declared.Layout.{Layout}
use Rattle.flat.specs.Numbers.{register_number, return_number}
use Rattle.flat.specs.Stations.{station_meant, flat_station, StationMeans, walk_meant, flat_walk, WalkMeans}
use Rattle.flat.specs.Records.{slot_of, placement_of, pair_of, reached_of, layout_of}
use Rattle.flat.specs.Meanings.{place_meant, placement_meant, return_place_meant, layout_meant, summary_of, PlacementsMean, LayoutMeans}
use Rattle.flat.proofs.Meant.{Back, register-meant, register-low, return_meant_lem, return_not, return_low}

-- ---- the station and the walk

pub station-means : StationMeans
unfolding station_meant flat_station
station-means s = by s.attached
  where
    by : (b : Bool) → station_meant (flat_station (record { attached = b; length = s.length; number = s.number })) ≡ record { attached = b; length = s.length; number = s.number }
    by true = refl
    by false = refl

pub walk-means : WalkMeans
unfolding walk_meant flat_walk
walk-means w = refl

-- ---- one argument

mark-meant : (b : Bool) → eqb (cond b 1 0) 1 ≡ b
mark-meant true = refl
mark-meant false = refl

alone-known : (a : Register) (size : ℕ) → Alone a size → Known a
alone-known (General n) size h = h.0
alone-known (Vector n) size h = h.0
alone-known (Upper n) size h = h.0
alone-known (Wide n) size h = h.0

single-known : (a : Register) → Single a → Known a
single-known (General n) h = h
single-known (Vector n) h = h
single-known (Upper n) h = h
single-known (Wide n) h = absurd h

place-meant : (size align value : Bytes) (ty named n : ℕ) (p : Place) → Inside p size.0 n
    → place_meant (record { size = size; align = align; offset = (slot_of p).offset; value = value; ty = ty; first = (slot_of p).first; second = (slot_of p).second; named = named; reserved_4 = 0 }) ≡ p
unfolding place_meant Inside
place-meant size align value ty named n (One a) h =
    let k = alone-known a size.0 h in
    rw (ne_eqb (register_number a) 255 (λ e. omega (arith, register-low a k))) (ap One (register-meant a k))
place-meant size align value ty named n (Two a b) h =
    let k = single-known a h.0 in
    let l = single-known b h.1.0 in
    rw (ne_eqb (register_number a) 255 (λ e. omega (arith, register-low a k)), ne_eqb (register_number b) 255 (λ e. omega (arith, register-low b l)))
    (ap₂ Two (register-meant a k) (register-meant b l))
place-meant size align value ty named n (Stack o) h = refl

placement_meant_lem : (p : Record) (n : ℕ) → Inside p.place p.size.0 n → placement_meant (placement_of p) ≡ p
unfolding placement_meant placement_of
placement_meant_lem p n h =
    ap₂ (λ (q : Place) (b : Bool). record { ty = p.ty; size = p.size; align = p.align; place = q; at = p.at; named = b })
    (place-meant p.size p.align p.at p.ty (cond p.named 1 0) n p.place h)
    (mark-meant p.named)

pub placements_mean : PlacementsMean
unfolding placement_at laying_at
placements_mean d v i h =
    placement_meant_lem (placement_at d i) (next eights (used_at d i) (shape_at d i)).stack.0
    (place_inside (used_at d i) (shape_at d i) (next eights (used_at d i) (shape_at d i)).stack.0 (argument-shaped d (accepted-uses d v) i h) (omega arith)).1

-- ---- the call as a whole

-- a return place that a description can ask for, and whether a hidden address is passed with it
abbrev Sound : ReturnPlace → Bool → Type 0
Sound Void b = b ≡ false
Sound InMemory b = b ≡ true
Sound (InOne a) b = Back a
Sound (InTwo a c) b = Back a × Back c
Sound St0 b = Unit {0}
Sound St0St1 b = Unit {0}

-- a value has at most two eightbytes, or one wide register
kind-short : (c : Class) → length (kind_of c) ≤ 1
kind-short NoClass = omega arith
kind-short Integer = omega arith
kind-short Sse = omega arith
kind-short SseUp = omega arith
kind-short X87 = omega arith
kind-short X87Up = omega arith
kind-short ComplexX87 = omega arith
kind-short Memory = omega arith

kinds-short : (cs : List Class) → length (kinds_in cs) ≤ length cs
kinds-short [] = omega arith
kinds-short (c ∷ cs) = omega (arith, length-append (kind_of c) (kinds_in cs), kind-short c, kinds-short cs)

few-kinds : (cs : List Class) → length (kinds_of cs) ≤ 2
unfolding kinds_of
few-kinds cs = by (on_stack cs) (is_vector cs) refl
  where
    by : (b v : Bool) → is_vector cs ≡ v → length (cond b [] (cond v (wide ∷ []) (kinds_in cs))) ≤ 2
    by true v e = omega arith
    by false true e = omega arith
    by false false e = omega (arith, kinds-short cs, ltb-false 2 (length cs) e)

outside-sound : (c : Class) → Sound (outside c) (hidden_by c)
unfolding hidden_by same
outside-sound NoClass = refl
outside-sound Integer = refl
outside-sound Sse = refl
outside-sound SseUp = refl
outside-sound X87 = tt
outside-sound X87Up = refl
outside-sound ComplexX87 = tt
outside-sound Memory = refl

back-for : (g f : ℕ) (k : Kind) → g ≤ 1 → f ≤ 1 → Back (register_for g f k)
back-for g f general h m = omega arith
back-for g f vector h m = omega arith
back-for g f upper h m = omega arith
back-for g f wide h m = omega arith

one_more : (k : Kind) → (general_for k ≤ 1) × (vector_for k ≤ 1)
one_more general = (omega arith, omega arith)
one_more vector = (omega arith, omega arith)
one_more upper = (omega arith, omega arith)
one_more wide = (omega arith, omega arith)

return_by_lem : (ks : List Kind) (c : Class) → length ks ≤ 2 → Sound (return_by ks c) (hidden_by c)
return_by_lem [] c h = outside-sound c
return_by_lem (k ∷ []) c h = back-for 0 0 k (omega arith) (omega arith)
return_by_lem (k ∷ j ∷ []) c h =
    (back-for 0 0 k (omega arith) (omega arith), back-for (0 + general_for k) (0 + vector_for k) j (omega (arith, (one_more k).0)) (omega (arith, (one_more k).1)))
return_by_lem (k ∷ j ∷ i ∷ ks) c h = absurd (omega arith)

return_sound : (cs : List Class) → Sound (return_of cs) (hidden_for cs)
unfolding return_of
return_sound cs = return_by_lem (kinds_of cs) (get_or cs 0 NoClass) (few-kinds cs)

described-sound : (d : List ℕ) → Sound (return_place d) (hidden d)
unfolding return_place hidden
described-sound d = by (is_void d)
  where
    by : (b : Bool) → Sound (cond b Void (return_of (return_classes d))) (not b && hidden_for (return_classes d))
    by true = refl
    by false = return_sound (return_classes d)

strict-meant : (b : Bool) → eqb (cond b 32 16) 32 ≡ b
strict-meant true = refl
strict-meant false = refl

module _ (l : Whole) (n : ℕ) where
  -- a flat layout with another return place
  abbrev with : ReturnPlace → Bool → Layout
  with p b = record {
    used = reached_of l.used;
    area = l.area;
    align = l.align;
    values = l.values;
    returned = l.returned;
    named = reached_of l.named;
    arguments = n;
    first = (pair_of p).first;
    second = (pair_of p).second;
    hidden = cond b 1 0;
    reserved_1 = 0;
    reserved_4 = 0;
  }

  return_place-meant : (p : ReturnPlace) (b : Bool) → Sound p b → return_place_meant (with p b) ≡ p
  unfolding return_place_meant
  return_place-meant Void b h = rw h
  return_place-meant InMemory b h = rw h
  return_place-meant (InOne a) b h =
      rw (ne_eqb (return_number a) 255 (λ e. omega (arith, return_low a h)), ne_eqb (return_number a) 8 (return_not a h)) (ap InOne (return_meant_lem a h))
  return_place-meant (InTwo a c) b h =
      rw (
        ne_eqb (return_number a) 255 (λ e. omega (arith, return_low a h.0)),
        ne_eqb (return_number a) 8 (return_not a h.0),
        ne_eqb (return_number c) 255 (λ e. omega (arith, return_low c h.1)),
      )
      (ap₂ InTwo (return_meant_lem a h.0) (return_meant_lem c h.1))
  return_place-meant St0 b h = refl
  return_place-meant St0St1 b h = refl

  layout-meant : Sound l.returns l.hidden → eqb l.align.0 32 ≡ l.used.strict → layout_meant (layout_of l n) ≡ summary_of l
  unfolding layout_meant layout_of summary_of
  layout-meant h s j = record {
    used = record { general = l.used.general; vector = l.used.vector; stack = l.used.stack; strict = s j };
    area = l.area;
    align = l.align;
    values = l.values;
    returns = return_place-meant l.returns l.hidden h j;
    returned = l.returned;
    hidden = mark-meant l.hidden j;
    named = record { general = l.named.general; vector = l.named.vector; stack = l.named.stack; strict = false };
  }

pub layout-means : LayoutMeans
unfolding whole_of
layout-means d v n = layout-meant (whole_of d) n (described-sound d) (strict-meant (used_at d (arguments_in d)).strict)
