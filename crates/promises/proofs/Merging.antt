-- The six rules of merging, over all 64 pairs of classes by computation. Assumes nothing.
use mathlib.Core.Path.{◌≡◌, refl, sym, ap, ◌∙◌}
use mathlib.Core.Bool.{true, not, ◌&&◌, ◌||◌}
use Prim.Native.Nat.{ℕ}
use borrow.Author.Tests.{eqb-true}
use lib.ListN.{get_or}
use Rattle.classes.specs.declared.Class.{Class}
use Rattle.classes.specs.declared.Class.TheVariants.{NoClass, Integer, Sse, SseUp, X87, X87Up, ComplexX87, Memory}
use Rattle.classes.specs.Classes.{code_of, same, is_x87, merge_of}
use Rattle.classes.proofs.Laws.{classes, each_two, if_left, merge_commutes}
use Rattle.promises.specs.Demand2.{ruled, Merges}

-- two classes are the same where their codes are
coded : (a : Class) → a ≡ get_or classes (code_of a) NoClass
coded NoClass = refl
coded Integer = refl
coded Sse = refl
coded SseUp = refl
coded X87 = refl
coded X87Up = refl
coded ComplexX87 = refl
coded Memory = refl

same-is : (a b : Class) → same a b ≡ true → a ≡ b
unfolding same
same-is a b h = coded a ∙ ap (λ (i : ℕ). get_or classes i NoClass) (eqb-true (code_of a) (code_of b) h) ∙ sym (coded b)

pub merges : (a b : Class) → Merges a b
unfolding same is_x87 merge_of
merges a b = record {
  equal = λ h. same-is (merge_of a b) a (if_left (same a b) _ (each_two (λ x y. not (same x y) || same (merge_of x y) x) refl a b) h);
  none = λ h. same-is (merge_of a b) b (if_left (same a NoClass) _ (each_two (λ x y. not (same x NoClass) || same (merge_of x y) y) refl a b) h);
  memory = λ h. same-is (merge_of a b) Memory (if_left (same a Memory) _ (each_two (λ x y. not (same x Memory) || same (merge_of x y) Memory) refl a b) h);
  integer = λ h.
      same-is (merge_of a b) Integer
      (if_left (same a Integer && not (same b Memory)) _ (each_two (λ x y. not (same x Integer && not (same y Memory)) || same (merge_of x y) Integer) refl a b) h);
  x87 = λ h.
      same-is (merge_of a b) Memory
      (if_left (is_x87 a && not (same a b || (same b NoClass || same b Integer))) _
      (each_two (λ x y. not (is_x87 x && not (same x y || (same y NoClass || same y Integer))) || same (merge_of x y) Memory) refl a b) h);
  sse = λ h.
      same-is (merge_of a b) Sse
      (if_left (not (same a b || (ruled a || ruled b))) _ (each_two (λ x y. not (not (same x y || (ruled x || ruled y))) || same (merge_of x y) Sse) refl a b) h);
  either_way = merge_commutes a b;
}
