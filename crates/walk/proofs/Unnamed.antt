-- Unnamed arguments (request 2026-06): none is wide, so that its bytes lie in the register image or on the stack, and a walk that is lent no
-- upper image finds them. Assumes nothing.
use mathlib.Core.Path.{◌≡◌, refl, sym, ap, ap₂, ◌∙◌}
use mathlib.Core.Bool.{Bool, true, false, cond, true≢false}
use mathlib.Core.List.{List, [], ◌∷◌, ◌++◌, append_assoc}
use Prim.Native.Nat.{ℕ, zero, suc, ◌+◌, ◌-◌, ◌≤◌, ◌<◌, min}
use native.Mathlib.Omega.{arith}
use borrow.Author.Tests.{le-ltb}
use lib.ListN.{length, take, drop, length-append, length-take, length-drop, take-append-drop}
use lib.Seq.{drop_at, drop-drop}
use Rattle.addresses.specs.Addresses.{All, Below, run, gather}
use Rattle.addresses.proofs.Lists.{all_append}
use Rattle.addresses.proofs.Runs.{all-run, run-shift}
use Rattle.addresses.proofs.Parts.{gather-left, gather-right}
use Rattle.description.specs.declared.Model.{Model}
use Rattle.description.specs.Description.{named_in, arguments_in, argument_at, model_in}
use Rattle.types.specs.Tree.{Ty}
use Rattle.types.specs.Decode.{ty_at}
use Rattle.classes.specs.declared.Class.{Class}
use Rattle.classes.specs.declared.Class.TheVariants.{NoClass, Integer, Sse, SseUp, X87, X87Up, ComplexX87, Memory}
use Rattle.classes.specs.Ups.{on_stack as goes_on_stack}
use Rattle.classify.specs.Classify.{classes_of}
use Rattle.classify.specs.Vectors.{is_vector}
use Rattle.places.specs.declared.Kind.TheVariants.{Wide as wide}
use Rattle.places.specs.declared.Used.{Used}
use Rattle.places.specs.Shapes.{Shape, kinds_in, kinds_of, kinds_for, shape_of, has_wide, Shaped}
use Rattle.places.specs.Places.{Slot, Place, in_registers, on_stack, fits, place_if, place}
use Rattle.places.specs.Images.{slots, spread, bytes_of}
use Rattle.places.specs.Statements.{Seated}
use Rattle.places.proofs.Apart.{slots-inside}
use Rattle.layout.specs.Arguments.{is_named, shape_at as layout_shape, shapes_from, shapes}
use Rattle.layout.proofs.Arguments.{length-shapes, shapes-split}
use Rattle.station.specs.Paper.{kcb, shape_at}
use Rattle.station.proofs.Kcb.{kcb-shape}
use Rattle.walk.specs.Offsets.{Narrow}

-- ---- no unnamed argument is wide

single-narrow : (cs : List Class) → has_wide (kinds_in cs) ≡ false
single-narrow [] = refl
single-narrow (NoClass ∷ cs) = single-narrow cs
single-narrow (Integer ∷ cs) = single-narrow cs
single-narrow (Sse ∷ cs) = single-narrow cs
single-narrow (SseUp ∷ cs) = single-narrow cs
single-narrow (X87 ∷ cs) = single-narrow cs
single-narrow (X87Up ∷ cs) = single-narrow cs
single-narrow (ComplexX87 ∷ cs) = single-narrow cs
single-narrow (Memory ∷ cs) = single-narrow cs

-- "an unnamed one, structures included, is always on the stack"
kinds-narrow : (cs : List Class) → has_wide (kinds_for false cs) ≡ false
unfolding kinds_for kinds_of
kinds-narrow cs = by (is_vector cs) (goes_on_stack cs)
  where
    by : (v s : Bool) → has_wide (cond v [] (cond s [] (cond v (wide ∷ []) (kinds_in cs)))) ≡ false
    by true s = refl
    by false true = refl
    by false false = single-narrow cs

shape_narrow : (m : Model) (t : Ty) → Narrow (shape_of m false t)
unfolding shape_of
shape_narrow m t = record { kinds = kinds-narrow (classes_of m t) }

pub argument-narrow : (d : List ℕ) (i : ℕ) → named_in d ≤ i → Narrow (layout_shape d i)
unfolding is_named layout_shape
argument-narrow d i h = rw (le-ltb i (named_in d) h) (shape_narrow (model_in d) (ty_at d (argument_at d i)))

pub kcb-narrow : (d : List ℕ) (p : ℕ) → kcb.named d ≤ p → p < arguments_in d → Narrow (shape_at kcb d p)
unfolding kcb
kcb-narrow d p h l = rw (kcb-shape d p l) (argument-narrow d p h)

from-narrow : (d : List ℕ) (n i : ℕ) → named_in d ≤ i → All Narrow (shapes_from d i n)
unfolding shapes_from
from-narrow d zero i h = tt
from-narrow d (suc n) i h = (argument-narrow d i h, from-narrow d n (i + 1) (omega arith))

pub all-narrow : (d : List ℕ) → named_in d ≤ arguments_in d → All Narrow (drop (named_in d) (shapes d))
all-narrow d l =
    let e : drop (named_in d) (shapes d) ≡ shapes_from d (named_in d) (arguments_in d - named_in d) =
    ap (drop (named_in d)) (shapes-split d (named_in d) (arguments_in d) l)
    ∙ drop_at (shapes_from d 0 (named_in d)) (shapes_from d (named_in d) (arguments_in d - named_in d)) (named_in d) (length-shapes d (named_in d) 0) in
    rw e (from-narrow d (arguments_in d - named_in d) (named_in d) (omega arith))

-- it needs no upper image
pub narrow-seated : (s : Shape) → Narrow s → Seated 176 s
narrow-seated s n = record { registers = λ e. omega arith; upper = λ e. absurd (true≢false (sym e ∙ n.kinds)) }

pub all-seated : (ss : List Shape) → All Narrow ss → All (Seated 176) ss
all-seated [] h = tt
all-seated (s ∷ ss) h = (narrow-seated s h.0, all-seated ss h.1)

-- ---- where its bytes lie

-- a place of which each eightbyte lies in the first m bytes, or on the stack
abbrev pub Lower : ℕ → Place → Type 0
Lower m (in_registers rs) = All (λ a. a + 8 ≤ m) (slots rs)
Lower m (on_stack o) = Unit {0}

pub seated-lower : (base : ℕ) (slot : Slot) (u : Used) (s : Shape) → Shaped s → Seated base s → Lower base (place slot u s)
unfolding place
seated-lower base slot u s h seat = by (fits u s.kinds) refl
  where
    by : (b : Bool) → fits u s.kinds ≡ b → Lower base (place_if slot b u s)
    by true e = slots-inside base u s h seat e
    by false e = tt

spread-below : (bs : List ℕ) (n m : ℕ) → All (λ a. a + 8 ≤ m) bs → Below m (spread bs n)
spread-below [] n m h = tt
spread-below (b ∷ bs) n m h =
    all_append (λ k. k < m) (run b (min n 8)) (spread bs (n - 8)) (all-run b (min n 8) (λ k p q. omega (arith, h.0))) (spread-below bs (n - 8) m h.1)

-- the register image r, the upper image y and the stack image s: a walk that is lent r and s finds by its own addresses, the stack right
-- behind the registers, the bytes that lie at the layout's addresses, the stack behind the upper image
pub gather-lent : (r y s : List ℕ) (p : Place) (n : ℕ) → Lower (length r) p
    → gather (r ++ s) (bytes_of (length r) p n) ≡ gather (r ++ (y ++ s)) (bytes_of (length r + length y) p n)
gather-lent r y s (in_registers rs) n h =
    let b = spread-below (slots rs) n (length r) h in
    gather-left (spread (slots rs) n) r s b ∙ sym (gather-left (spread (slots rs) n) r (y ++ s) b)
gather-lent r y s (on_stack o) n h =
    ap (gather (r ++ s)) (sym (run-shift (length r) o n))
    ∙ gather-right (run o n) r s
    ∙ sym (ap₂ gather (sym (append_assoc r y s)) (ap (λ (k : ℕ). run (k + o) n) (sym (length-append r y)) ∙ sym (run-shift (length (r ++ y)) o n))
    ∙ gather-right (run o n) (r ++ y) s)

-- the same of images that stand in one list
pub gather-taken : (images : List ℕ) (base top : ℕ) (p : Place) (n : ℕ) → base ≤ top → top ≤ length images → Lower base p
    → gather (take base images ++ drop top images) (bytes_of base p n) ≡ gather images (bytes_of top p n)
gather-taken images base top p n l m h =
    let r = take base images in
    let y = take (top - base) (drop base images) in
    let s = drop top images in
    let e : length r ≡ base = rw length-take (omega arith) in
    let f : length r + length y ≡ top = rw (length-take, length-take, length-drop) (omega arith) in
    let k : base + (top - base) ≡ top = omega arith in
    let t : s ≡ drop (top - base) (drop base images) = ap (λ (i : ℕ). drop i images) (sym k) ∙ sym (drop-drop (top - base) base images) in
    let whole : r ++ (y ++ s) ≡ images =
    ap (λ (i : List ℕ). r ++ (y ++ i)) t ∙ ap (λ (i : List ℕ). r ++ i) (take-append-drop (top - base) (drop base images)) ∙ take-append-drop base images in
    ap (λ (i : ℕ). gather (r ++ s) (bytes_of i p n)) (sym e) ∙ gather-lent r y s p n (rw e h) ∙ ap₂ (λ (i : List ℕ) (j : ℕ). gather i (bytes_of j p n)) whole f
