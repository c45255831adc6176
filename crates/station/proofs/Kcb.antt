-- Document 01's own paper, in the layout's words. Assumes nothing.
use Rattle.std.specs.Prelude.{Ok, Err}
use mathlib.Core.Path.{◌≡◌, refl, sym, ap, ◌∙◌}
use mathlib.Core.Logic.{◌≢◌}
use mathlib.Core.List.{List, [], ◌∷◌, ◌++◌, map}
use Prim.Native.Nat.{ℕ, zero, suc, ◌+◌, ◌-◌, ◌≤◌, ◌<◌}
use native.Mathlib.Omega.{arith}
use lib.ListN.{length, get_or, take}
use Rattle.description.specs.Description.{arguments_in, argument_at, IsBytes}
use Rattle.addresses.specs.Addresses.{run}
use Rattle.form.specs.declared.Refusal.{Refusal}
use Rattle.form.proofs.Form.{accepted-length}
use Rattle.form.proofs.Order.{never}
use Rattle.types.specs.Wrong.{refusal_for}
use Rattle.types.proofs.Large.{accepted-form}
use Rattle.uses.proofs.Uses.{accepted-types}
use Rattle.layout.specs.Arguments.{shape_at as layout_shape, shapes_from, used_at as layout_used, area_of as layout_area}
use Rattle.layout.specs.declared.Layout.{Layout}
use Rattle.layout.specs.Layout.{layout_of, layout_answer, check_answer}
use Rattle.layout.specs.Verdict.{check_order, verdict}
use Rattle.layout.proofs.Layouts.{laid-accepted, refused-verdict, refused-nonzero}
use Rattle.layout.proofs.Arguments.{length-shapes, shapes-split}
use Rattle.layout.proofs.Verdict.{accepted-uses}
use Rattle.places.specs.Shapes.{Shape}
use Rattle.places.specs.Places.{eights, after}
use Rattle.station.specs.Paper.{kcb, verdict_of, refusal_under, answer_under, arguments, shape_at, type_at, used_at, area_of}

pub kcb-verdict : (d : List ℕ) → verdict_of kcb d ≡ verdict d
unfolding kcb verdict_of verdict
kcb-verdict d = refl

pub kcb-refusal : (d : List ℕ) (n : ℕ) → refusal_under kcb d n ≡ refusal_for d n
unfolding kcb refusal_under refusal_for
kcb-refusal d n = refl

-- the layout's answer, accepted or not
pub laid-right : (d : List ℕ) (l : Layout) → layout_answer d ≡ Ok l → (verdict_of kcb d ≡ 0) × (l ≡ layout_of d)
laid-right d l e = let z = laid-accepted d l e in (kcb-verdict d ∙ z.0, z.1)

pub laid-not : (d : List ℕ) (r : Refusal) → layout_answer d ≡ Err r → (r ≡ refusal_under kcb d (verdict_of kcb d)) × (verdict_of kcb d ≢ 0)
laid-not d r e =
    (refused-verdict d r e ∙ sym (kcb-refusal d (verdict d)) ∙ ap (refusal_under kcb d) (sym (kcb-verdict d)), λ v. refused-nonzero d r e (sym (kcb-verdict d) ∙ v))

-- the verdict's answer, under the number that it is
pub checked-as : (d : List ℕ) (n : ℕ) → n ≡ verdict_of kcb d → check_answer d ≡ answer_under kcb d n tt
unfolding check_answer answer_under
checked-as d n e = rw (e, kcb-verdict d, kcb-refusal)

pub kcb-registers : kcb.registers ≡ 176
unfolding kcb
kcb-registers = refl

pub kcb-stack : kcb.stack_at ≡ 304
unfolding kcb
kcb-stack = refl

pub kcb-slot : kcb.slot ≡ eights
unfolding kcb
kcb-slot = refl

pub kcb-arguments : (d : List ℕ) → arguments kcb d ≡ arguments_in d
unfolding kcb arguments
kcb-arguments d = length-shapes d (arguments_in d) 0

pub kcb-area : (d : List ℕ) → area_of kcb d ≡ layout_area d
unfolding kcb area_of layout_area
kcb-area d = refl

take-front : (xs ys : List Shape) (n : ℕ) → length xs ≡ n → take n (xs ++ ys) ≡ xs
take-front [] ys zero e = refl
take-front [] ys (suc n) e = absurd (omega arith)
take-front (x ∷ xs) ys zero e = absurd (omega arith)
take-front (x ∷ xs) ys (suc n) e = ap (λ (l : List Shape). x ∷ l) (take-front xs ys n (omega arith))

pub kcb-used : (d : List ℕ) (p : ℕ) → p ≤ arguments_in d → used_at kcb d p ≡ layout_used d p
unfolding kcb used_at layout_used
kcb-used d p l =
    ap (λ (ss : List Shape). after eights (kcb.first d) (take p ss)) (shapes-split d p (arguments_in d) l)
    ∙ ap (λ (ss : List Shape). after eights (kcb.first d) ss) (take-front (shapes_from d 0 p) (shapes_from d p (arguments_in d - p)) p (length-shapes d p 0))

shape_in_lem : (d : List ℕ) (n i p : ℕ) (z : Shape) → p < n → get_or (shapes_from d i n) p z ≡ layout_shape d (i + p)
unfolding shapes_from
shape_in_lem d zero i p z l = absurd (omega arith)
shape_in_lem d (suc n) i zero z l = ap (layout_shape d) (omega arith)
shape_in_lem d (suc n) i (suc p) z l = shape_in_lem d n (i + 1) p z (omega arith) ∙ ap (layout_shape d) (omega arith)

pub kcb-shape : (d : List ℕ) (p : ℕ) → p < arguments_in d → shape_at kcb d p ≡ layout_shape d p
unfolding kcb shape_at
kcb-shape d p l = shape_in_lem d (arguments_in d) 0 p _ l ∙ ap (layout_shape d) (omega arith)

type-in : (d : List ℕ) (n i p : ℕ) → p < n → get_or (map (argument_at d) (run i n)) p 255 ≡ argument_at d (i + p)
type-in d zero i p l = absurd (omega arith)
type-in d (suc n) i zero l = ap (argument_at d) (omega arith)
type-in d (suc n) i (suc p) l = type-in d n (suc i) p (omega arith) ∙ ap (argument_at d) (omega arith)

pub kcb-type : (d : List ℕ) (p : ℕ) → p < arguments_in d → type_at kcb d p ≡ argument_at d p
unfolding kcb type_at
kcb-type d p l = type-in d (arguments_in d) 0 p l ∙ ap (argument_at d) (omega arith)

-- "at most 586", of bytes
pub kcb-short : (d : List ℕ) → IsBytes d → verdict_of kcb d ≡ 0 → length d ≤ 586
kcb-short d b e = accepted-length d (accepted-form d (accepted-types d (accepted-uses d (sym (kcb-verdict d) ∙ e)))) b

-- 11 is none of 1 to 10
pub kcb-lent : (d : List ℕ) → verdict_of kcb d ≢ 11
unfolding kcb verdict_of
kcb-lent d =
    never (check_order d) 11 (λ e. omega (arith, e))
    ((λ e. omega (arith, e)), ((λ e. omega (arith, e)), ((λ e. omega (arith, e)), ((λ e. omega (arith, e)), ((λ e. omega (arith, e)), ((λ e. omega (arith, e)), ((λ e. omega (arith, e)), ((λ e. omega (arith, e)), ((λ e. omega (arith, e)), ((λ e. omega (arith, e)), tt))))))))))
