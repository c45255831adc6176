-- Vectors of 32 bytes in registers and on the stack (request 2026-06), and what the area is rounded up to. Assumes nothing.
use mathlib.Core.Path.{◌≡◌, refl, sym, ap, ◌∙◌}
use mathlib.Core.Logic.{◌⊎◌, inl, inr}
use mathlib.Core.Bool.{Bool, true, false, cond, ◌||◌, true≢false}
use mathlib.Core.List.{List, [], ◌∷◌}
use Prim.Native.Nat.{ℕ, zero, suc, ◌+◌, ◌-◌, ◌≤◌, ◌<◌}
use native.Mathlib.Numerals.{add-one}
use native.Mathlib.Omega.{arith}
use borrow.Author.Tests.{lt-ltb, le-ltb, le-leb, leb-true}
use lib.Dec.{leb}
use Rattle.description.specs.Description.{named_in, arguments_in}
use Rattle.classes.specs.Classes.{same, is_x87}
use Rattle.classify.specs.Vectors.{vector}
use Rattle.types.proofs.Alignments.{is-high}
use Rattle.places.specs.declared.Kind.TheVariants.{Wide as wide}
use Rattle.places.specs.declared.Register.TheVariants.{Wide}
use Rattle.places.specs.declared.Used.{Used}
use Rattle.places.specs.Shapes.{kinds_of, kinds_for, shape_of}
use Rattle.places.specs.Places.{eights, in_registers, on_stack, start, fits}
use Rattle.places.specs.Statements.{Lacks}
use Rattle.places.proofs.Fits.{fits-false, place-fits, place-not, next_fits, next-not, stack-exactly, stack-step}
use Rattle.layout.specs.Arguments.{is_named, shape_at, used_at}
use Rattle.layout.specs.Verdict.{verdict}
use Rattle.layout.specs.Layout.{layout_of}
use Rattle.layout.specs.Placements.{laying_at, placement_at}
use Rattle.layout.proofs.Arguments.{used-none, used-next}
use Rattle.layout.proofs.Bounds.{argument-shaped}
use Rattle.layout.proofs.Layouts.{asks_at}
use Rattle.layout.proofs.Verdict.{accepted-uses}
use Rattle.promises.specs.Demand2.{place_at, classes_at_place, StrictOn}
use Rattle.promises.proofs.Placements.{place-said}

-- ---- what one asks for

named-kinds : (d : List ℕ) (i : ℕ) → classes_at_place d i ≡ vector → i < named_in d → (shape_at d i).kinds ≡ wide ∷ []
unfolding shape_at shape_of is_named kinds_for kinds_of same is_x87
named-kinds d i e l = rw (lt-ltb i (named_in d) l, e) refl

unnamed-kinds : (d : List ℕ) (i : ℕ) → classes_at_place d i ≡ vector → named_in d ≤ i → (shape_at d i).kinds ≡ []
unfolding shape_at shape_of is_named kinds_for
unnamed-kinds d i e l = rw (le-ltb i (named_in d) l, e) refl

-- a wide register fits where a vector register is left
wide_fits : (u : Used) → u.general.0 ≤ 6 → u.vector.0 < 8 → fits u (wide ∷ []) ≡ true
wide_fits u g v = by (fits u (wide ∷ [])) refl
  where
    never : Lacks u (wide ∷ []) → ⊥
    never (inl e) = true≢false e
    never (inr (inl m)) = omega arith
    never (inr (inr m)) = omega arith

    by : (b : Bool) → fits u (wide ∷ []) ≡ b → b ≡ true
    by true e = refl
    by false e = absurd (never (fits-false u (wide ∷ []) e))

module _ (d : List ℕ) (accepted : verdict d ≡ 0) (i : ℕ) (there : i < arguments_in d) (four : classes_at_place d i ≡ vector) where
  pub wide-named : i < named_in d → (used_at d i).vector.0 < 8
      → (place_at d i ≡ in_registers (Wide (used_at d i).vector ∷ [])) × ((used_at d (i + 1)).vector.0 ≡ (used_at d i).vector.0 + 1)
  wide-named n few =
      let u = used_at d i in
      let ks = named-kinds d i four n in
      let before = (asks_at d (accepted-uses d accepted) i (arguments_in d) (omega arith) (omega arith)).before in
      let f : fits u (shape_at d i).kinds ≡ true = rw ks (wide_fits u before.general few) in (
        place-said d accepted i there ∙ place-fits eights u (shape_at d i) f ∙ rw ks refl,
        ap (λ (w : Used). w.vector.0) (used-next d i ∙ next_fits eights u (shape_at d i) f) ∙ rw ks (omega arith),
      )

  pub wide-unnamed : named_in d ≤ i → (o : ℕ) × (place_at d i ≡ on_stack o)
  wide-unnamed n = (
    start eights (used_at d i) (shape_at d i),
    place-said d accepted i there ∙ (stack-exactly eights (used_at d i) (shape_at d i)).1 (inl (rw (unnamed-kinds d i four n) refl)),
  )

-- ---- what the area is rounded up to

or-true : (b c : Bool) → (b || c) ≡ true → (b ≡ true) ⊎ (c ≡ true)
or-true true c e = inl refl
or-true false c e = inr e

true_or : (b c : Bool) → b ≡ true → (b || c) ≡ true
true_or b c e = rw e refl

or_so : (b c : Bool) → c ≡ true → (b || c) ≡ true
or_so true c e = refl
or_so false c e = e

module _ (d : List ℕ) (accepted : verdict d ≡ 0) where
  -- an argument that is aligned to 32 is on the stack, among the first n
  abbrev StrictBefore : ℕ → Type 0
  StrictBefore n = (i : ℕ) × ((o : ℕ) × ((i < n) × ((place_at d i ≡ on_stack o) × (32 ≤ (shape_at d i).align))))

  strict-here : (i : ℕ) → i < arguments_in d → (used_at d (i + 1)).strict ≡ true
      → ((used_at d i).strict ≡ true) ⊎ ((o : ℕ) × ((place_at d i ≡ on_stack o) × (32 ≤ (shape_at d i).align)))
  strict-here i l e = by (fits (used_at d i) (shape_at d i).kinds) refl
    where
      by : (b : Bool) → fits (used_at d i) (shape_at d i).kinds ≡ b → ((used_at d i).strict ≡ true) ⊎ ((o : ℕ) × ((place_at d i ≡ on_stack o) × (32 ≤ (shape_at d i).align)))
      by true f = inl (sym (ap (λ (w : Used). w.strict) (used-next d i ∙ next_fits eights (used_at d i) (shape_at d i) f)) ∙ e)
      by false f =
          let s = sym (ap (λ (w : Used). w.strict) (used-next d i ∙ next-not eights (used_at d i) (shape_at d i) f)) ∙ e in
          which (or-true (used_at d i).strict (leb 32 (shape_at d i).align) s)
        where
          which : ((used_at d i).strict ≡ true) ⊎ (leb 32 (shape_at d i).align ≡ true) → ((used_at d i).strict ≡ true) ⊎ ((o : ℕ) × ((place_at d i ≡ on_stack o) × (32 ≤ (shape_at d i).align)))
          which (inl t) = inl t
          which (inr t) = inr (start eights (used_at d i) (shape_at d i), (place-said d accepted i l ∙ place-not eights (used_at d i) (shape_at d i) f, leb-true 32 (shape_at d i).align t))

  strict-found : (n : ℕ) → n ≤ arguments_in d → (used_at d n).strict ≡ true → StrictBefore n
  strict-found zero l e = absurd (true≢false (sym e ∙ ap (λ (w : Used). w.strict) (used-none d)))
  strict-found (suc n) l e = by (strict-here n (omega arith) (rw add-one e)) (strict-found n (omega arith))
    where
      by : ((used_at d n).strict ≡ true) ⊎ ((o : ℕ) × ((place_at d n ≡ on_stack o) × (32 ≤ (shape_at d n).align))) → ((used_at d n).strict ≡ true → StrictBefore n) → StrictBefore (suc n)
      by (inl t) rec = let (i, (o, (m, p))) = rec t in (i, (o, (omega arith, p)))
      by (inr (o, p)) rec = (n, (o, (omega arith, p)))

  -- once there is one, there is one for good
  strict-stays : (i : ℕ) → (used_at d i).strict ≡ true → (used_at d (i + 1)).strict ≡ true
  strict-stays i e = by (fits (used_at d i) (shape_at d i).kinds) refl
    where
      by : (b : Bool) → fits (used_at d i) (shape_at d i).kinds ≡ b → (used_at d (i + 1)).strict ≡ true
      by true f = ap (λ (w : Used). w.strict) (used-next d i ∙ next_fits eights (used_at d i) (shape_at d i) f) ∙ e
      by false f = ap (λ (w : Used). w.strict) (used-next d i ∙ next-not eights (used_at d i) (shape_at d i) f) ∙ true_or (used_at d i).strict (leb 32 (shape_at d i).align) e

  strict_on : (n i : ℕ) → (used_at d i).strict ≡ true → (used_at d (i + n)).strict ≡ true
  strict_on zero i e = ap (λ (k : ℕ). (used_at d k).strict) (omega arith) ∙ e
  strict_on (suc n) i e = ap (λ (k : ℕ). (used_at d k).strict) (omega arith) ∙ strict_on n (i + 1) (strict-stays i e)

  strict-begins : (i o : ℕ) → i < arguments_in d → place_at d i ≡ on_stack o → 32 ≤ (shape_at d i).align → (used_at d (i + 1)).strict ≡ true
  strict-begins i o l p a =
      ap (λ (w : Used). w.strict) (used-next d i ∙ (stack-step eights (used_at d i) (shape_at d i) o (sym (place-said d accepted i l) ∙ p)).next_is)
      ∙ or_so (used_at d i).strict (leb 32 (shape_at d i).align) (le-leb 32 (shape_at d i).align a)

  pub area-strict : StrictOn d → (layout_of d).align.0 ≡ 32
  unfolding layout_of placement_at laying_at
  area-strict s =
      let i = s.argument in
      let n = arguments_in d in
      let whole : n ≡ i + 1 + (n - (i + 1)) = omega (arith, s.there) in
      rw (ap (λ (k : ℕ). (used_at d k).strict) whole ∙ strict_on (n - (i + 1)) (i + 1) (strict-begins i s.offset s.there s.on (omega (arith, s.strict)))) refl

  pub area-plain : (StrictOn d → ⊥) → (layout_of d).align.0 ≡ 16
  unfolding layout_of placement_at laying_at
  area-plain h = by (used_at d (arguments_in d)).strict refl
    where
      by : (b : Bool) → (used_at d (arguments_in d)).strict ≡ b → ◌≡◌ {A = ℕ} (cond b 32 16) 16
      by true e =
          let (i, (o, (l, (p, a)))) = strict-found (arguments_in d) (omega arith) e in
          absurd (h (record { argument = i; offset = o; there = l; on = p; strict = omega (arith, is-high (argument-shaped d (accepted-uses d accepted) i l).aligned) }))
      by false e = refl
