-- The return place of a type suits the type's size: what moving its value asks. Assumes nothing.
use mathlib.Core.Path.{◌≡◌, refl}
use mathlib.Core.Bool.{true, false}
use mathlib.Core.Logic.{inl, inr}
use mathlib.Core.List.{List, [], ◌∷◌}
use Prim.Native.Nat.{ℕ, ◌+◌, ◌*◌, ◌≤◌, ◌<◌}
use native.Mathlib.Omega.{arith}
use lib.ListN.{length, get_or}
use Rattle.description.specs.declared.Model.{Model}
use Rattle.classes.specs.declared.Class.{Class}
use Rattle.classes.specs.declared.Class.TheVariants.{NoClass, Integer, Sse, SseUp, X87, X87Up, ComplexX87, Memory}
use Rattle.classes.specs.Classes.{same}
use Rattle.types.specs.Tree.{Ty}
use Rattle.types.specs.Size.{size_ty}
use Rattle.types.specs.Filled.{Filled}
use Rattle.classify.specs.Classify.{classes_of}
use Rattle.places.specs.declared.Kind.{Kind}
use Rattle.places.specs.declared.Kind.TheVariants.{General as general, Vector as vector, Upper as upper, Wide as wide}
use Rattle.places.specs.declared.ReturnPlace.{ReturnPlace}
use Rattle.places.specs.Shapes.{kinds_of, kinds_for, shape_of, has_some, has_wide, widths, Led}
use Rattle.places.specs.Returns.{outside, return_by, return_of}
use Rattle.places.proofs.Guaranteed.{shape_shaped}
use Rattle.returning.specs.Image.{length_for}
use Rattle.returning.specs.ImageAsks.{Returnable}
use Rattle.returning.proofs.Long.{x87-size, complex_size}

abbrev Suits : ReturnPlace → ℕ → Type 0
Suits place size = Returnable place (length_for place size)

outside-suits : (c : Class) (size : ℕ) → (same c X87 ≡ true → size ≡ 16) → (same c ComplexX87 ≡ true → size ≡ 32) → Suits (outside c) size
unfolding Returnable same
outside-suits NoClass size x y = refl
outside-suits Integer size x y = refl
outside-suits Sse size x y = refl
outside-suits SseUp size x y = refl
outside-suits X87 size x y = x refl
outside-suits X87Up size x y = refl
outside-suits ComplexX87 size x y = y refl
outside-suits Memory size x y = refl

-- the registers of one or two eightbytes, or xmm0 alone
kinds-suit : (ks : List Kind) (c : Class) (size : ℕ) → Led false ks → length ks ≤ 2 → (has_wide ks ≡ true → length ks ≤ 1)
    → (has_some ks ≡ true → (size ≤ 8 * widths ks) × (8 * widths ks < size + 8))
    → Suits (outside c) size → Suits (return_by ks c) size
unfolding Returnable
kinds-suit [] c size led few lone room out = out
kinds-suit (general ∷ []) c size led few lone room out = (omega arith, omega (arith, room refl))
kinds-suit (vector ∷ []) c size led few lone room out = (omega arith, omega (arith, room refl))
kinds-suit (wide ∷ []) c size led few lone room out = (omega arith, (omega (arith, room refl), omega (arith, room refl)))
kinds-suit (upper ∷ ks) c size led few lone room out = absurd led
kinds-suit (general ∷ general ∷ []) c size led few lone room out =
    (omega arith, (omega arith, (inl (omega arith), (omega (arith, room refl), omega (arith, room refl)))))
kinds-suit (general ∷ vector ∷ []) c size led few lone room out =
    (omega arith, (omega arith, (inl (omega arith), (omega (arith, room refl), omega (arith, room refl)))))
kinds-suit (general ∷ upper ∷ ks) c size led few lone room out = absurd led
kinds-suit (vector ∷ general ∷ []) c size led few lone room out =
    (omega arith, (omega arith, (inr (omega arith), (omega (arith, room refl), omega (arith, room refl)))))
kinds-suit (vector ∷ vector ∷ []) c size led few lone room out =
    (omega arith, (omega arith, (inl (omega arith), (omega (arith, room refl), omega (arith, room refl)))))
kinds-suit (vector ∷ upper ∷ []) c size led few lone room out =
    (omega arith, (omega arith, (inl (omega arith), (omega (arith, room refl), omega (arith, room refl)))))
kinds-suit (general ∷ wide ∷ ks) c size led few lone room out = absurd (omega (arith, lone refl))
kinds-suit (vector ∷ wide ∷ ks) c size led few lone room out = absurd (omega (arith, lone refl))
kinds-suit (wide ∷ k ∷ ks) c size led few lone room out = absurd (omega (arith, lone refl))
kinds-suit (general ∷ general ∷ l ∷ ks) c size led few lone room out = absurd (omega arith)
kinds-suit (general ∷ vector ∷ l ∷ ks) c size led few lone room out = absurd (omega arith)
kinds-suit (vector ∷ general ∷ l ∷ ks) c size led few lone room out = absurd (omega arith)
kinds-suit (vector ∷ vector ∷ l ∷ ks) c size led few lone room out = absurd (omega arith)
kinds-suit (vector ∷ upper ∷ l ∷ ks) c size led few lone room out = absurd (omega arith)

pub type-suits : (model : Model) (t : Ty) → Filled t → Suits (return_of (classes_of model t)) (size_ty model t)
unfolding return_of shape_of kinds_for
type-suits model t f =
    let s = shape_shaped model true t f in
    kinds-suit (kinds_of (classes_of model t)) (get_or (classes_of model t) 0 NoClass) (size_ty model t) s.led s.few s.lone s.room
    (outside-suits (get_or (classes_of model t) 0 NoClass) (size_ty model t) (x87-size model t f) (complex_size model t f))
