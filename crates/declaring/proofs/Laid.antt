-- The tidy form of a description's named part says that part, and lays it out as the description does. Assumes nothing.
use mathlib.Core.Path.{◌≡◌, refl, sym, ap, ◌∙◌}
use mathlib.Core.Bool.{Bool, true, false, cond}
use mathlib.Core.List.{List, [], ◌∷◌, ◌++◌}
use Prim.Native.Nat.{ℕ, zero, suc, ◌+◌, ◌≤◌, ◌<◌}
use native.Mathlib.Omega.{arith}
use lib.Dec.{ltb}
use lib.ListN.{length, get_or, take, length-append, length-take}
use Rattle.description.specs.declared.Model.{Model}
use Rattle.description.specs.Description.{model_in, named_in, arguments_in, argument_at}
use Rattle.types.specs.Tree.{Ty, Tys, basic, array, struct, union, none, more}
use Rattle.uses.specs.Uses.{uses_refusal}
use Rattle.uses.proofs.Uses.{accepted-typed}
use Rattle.places.specs.Shapes.{Shape, shape_of}
use Rattle.places.specs.Places.{eights, fresh, after}
use Rattle.layout.specs.Placements.{placement_at}
use Rattle.layout.specs.Verdict.{verdict}
use Rattle.layout.proofs.Verdict.{accepted-uses}
use Rattle.tidying.specs.Call.{Call, call_of}
use Rattle.tidying.specs.Numbering.{index_of, completed, reached, reached_all, reached_by, reached_from, table_of}
use Rattle.tidying.specs.Tidy.{tidy_of}
use Rattle.tidying.specs.Laid.{hidden_in, place_in, shapes_by, shapes_in, used_in, placement_in}
use Rattle.tidying.proofs.Decoded.{call-said}
use Rattle.tidying.proofs.Accepted.{types-low}
use Rattle.tidying.proofs.Laid.{model-flags, flags-call, many-call, named-call, return_call, used-call, placement_call}
use Rattle.declaring.specs.Named.{named_part, SameLayout}

-- ---- fewer arguments reach no more types

completed-grows : (table : List Ty) (t : Ty) → length table ≤ length (completed table t)
unfolding completed
completed-grows table t = by (ltb (index_of table t) (length table))
  where
    by : (b : Bool) → length table ≤ length (cond b table (table ++ (t ∷ [])))
    by true = omega arith
    by false = omega (arith, length-append table (t ∷ []))

mutual
  unfolding reached

  reached-grows : (t : Ty) (table : List Ty) → length table ≤ length (reached table t)
  reached-grows (basic c) table = completed-grows table (basic c)
  reached-grows (array t n) table = omega (arith, reached-grows t table, completed-grows (reached table t) (array t n))
  reached-grows (struct ts) table = omega (arith, all-grows ts table, completed-grows (reached_all table ts) (struct ts))
  reached-grows (union ts) table = omega (arith, all-grows ts table, completed-grows (reached_all table ts) (union ts))

  all-grows : (ts : Tys) (table : List Ty) → length table ≤ length (reached_all table ts)
  all-grows none table = omega arith
  all-grows (more t ts) table = omega (arith, reached-grows t table, all-grows ts (reached table t))

from-grows : (ts table : List Ty) → length table ≤ length (reached_from table ts)
unfolding reached_from
from-grows [] table = omega arith
from-grows (t ∷ ts) table = omega (arith, reached-grows t table, from-grows ts (reached table t))

take-grows : (n : ℕ) (ts table : List Ty) → length (reached_from table (take n ts)) ≤ length (reached_from table ts)
unfolding reached_from
take-grows zero ts table = from-grows ts table
take-grows (suc n) [] table = omega arith
take-grows (suc n) (t ∷ ts) table = take-grows n ts (reached table t)

part_low : (c : Call) → length (table_of (named_part c)) ≤ length (table_of c)
unfolding table_of named_part
part_low c = take-grows c.named c.arguments (reached_by [] c.returns)

-- ---- the first arguments, their shapes and places

get_take : (n i : ℕ) (l : List Ty) → i < n → get_or (take n l) i (basic 0) ≡ get_or l i (basic 0)
get_take zero i l h = absurd (omega arith)
get_take (suc n) i [] h = refl
get_take (suc n) zero (t ∷ l) h = refl
get_take (suc n) (suc i) (t ∷ l) h = get_take n i l (omega arith)

shapes-take : (m : Model) (named n k i : ℕ) (l : List Ty) → i ≤ n → take i (shapes_by m named k (take n l)) ≡ take i (shapes_by m named k l)
unfolding shapes_by
shapes-take m named n k zero l h = refl
shapes-take m named zero k (suc i) l h = absurd (omega arith)
shapes-take m named (suc n) k (suc i) [] h = refl
shapes-take m named (suc n) k (suc i) (t ∷ l) h = ap (λ (s : List Shape). shape_of m (ltb k named) t ∷ s) (shapes-take m named n (k + 1) i l (omega arith))

module _ (m : Model) (c : Call) where
  used-part : (i : ℕ) → i ≤ c.named → used_in m (named_part c) i ≡ used_in m c i
  unfolding used_in named_part shapes_in
  used-part i h = ap (after eights (fresh (hidden_in m c.returns))) (shapes-take m c.named c.named 0 i c.arguments h)

  size-part : (i j n : ℕ) → i < c.named → (placement_in m (named_part c) i j).size ≡ (placement_in m c i n).size
  unfolding placement_in named_part
  size-part i j n h = rw (get_take c.named i c.arguments h) refl

  align-part : (i j n : ℕ) → i < c.named → (placement_in m (named_part c) i j).align ≡ (placement_in m c i n).align
  unfolding placement_in named_part
  align-part i j n h = rw (get_take c.named i c.arguments h) refl

  place-part : (i j n : ℕ) → i < c.named → (placement_in m (named_part c) i j).place ≡ (placement_in m c i n).place
  unfolding placement_in named_part
  place-part i j n h = rw (get_take c.named i c.arguments h, used-part i (omega arith)) refl

  flags-part : (named_part c).flags ≡ c.flags
  unfolding named_part
  flags-part = refl

  returns-part : (named_part c).returns ≡ c.returns
  unfolding named_part
  returns-part = refl

  many-part : c.named ≤ length c.arguments → length (named_part c).arguments ≡ c.named
  unfolding named_part
  many-part h = omega (arith, length-take c.named c.arguments)

-- ---- of a description

module _ (d : List ℕ) (right : uses_refusal d ≡ 0) where
  e : List ℕ
  e = tidy_of (named_part (call_of d))

  e_says : call_of e ≡ named_part (call_of d)
  unfolding e
  e_says = call-said (named_part (call_of d)) (omega (arith, part_low (call_of d), types-low d right))

  e_many : arguments_in e ≡ named_in d
  e_many =
      sym (many-call e) ∙ ap (λ (c : Call). length c.arguments) e_says
      ∙ many-part (model_in d) (call_of d) (omega (arith, named-call d, many-call d, (accepted-typed d right).named)) ∙ named-call d

  e_model : model_in e ≡ model_in d
  e_model = model-flags e d (sym (flags-call e) ∙ ap (λ (c : Call). c.flags) e_says ∙ flags-part (model_in d) (call_of d) ∙ flags-call d)

  e_placement : (i : ℕ) → i < named_in d → placement_at e i ≡ placement_in (model_in d) (named_part (call_of d)) i (argument_at e i)
  e_placement i h =
      placement_call e i (omega (arith, e_many)) ∙ ap (λ (m : Model). placement_in m (call_of e) i (argument_at e i)) e_model
      ∙ ap (λ (c : Call). placement_in (model_in d) c i (argument_at e i)) e_says

  d_placement : (i : ℕ) → i < named_in d → placement_at d i ≡ placement_in (model_in d) (call_of d) i (argument_at d i)
  d_placement i h = placement_call d i (omega (arith, (accepted-typed d right).named))

  pub part-laid : SameLayout d
  unfolding e
  part-laid = record {
    says = e_says;
    model = e_model;
    many = e_many;
    sizes = λ i h. ap (λ p. p.size) (e_placement i h) ∙ size-part (model_in d) (call_of d) i (argument_at e i) (argument_at d i) (omega (arith, named-call d)) ∙ sym (ap (λ p. p.size) (d_placement i h));
    aligns = λ i h. ap (λ p. p.align) (e_placement i h) ∙ align-part (model_in d) (call_of d) i (argument_at e i) (argument_at d i) (omega (arith, named-call d)) ∙ sym (ap (λ p. p.align) (d_placement i h));
    places = λ i h. ap (λ p. p.place) (e_placement i h) ∙ place-part (model_in d) (call_of d) i (argument_at e i) (argument_at d i) (omega (arith, named-call d)) ∙ sym (ap (λ p. p.place) (d_placement i h));
    returns = return_call e ∙ ap (λ (m : Model). place_in m (call_of e).returns) e_model ∙ ap (λ (c : Call). place_in (model_in d) c.returns) e_says ∙ ap (place_in (model_in d)) (returns-part (model_in d) (call_of d)) ∙ sym (return_call d);
    used = λ i h. used-call e i (omega (arith, e_many)) ∙ ap (λ (m : Model). used_in m (call_of e) i) e_model ∙ ap (λ (c : Call). used_in (model_in d) c i) e_says ∙ used-part (model_in d) (call_of d) i (omega (arith, named-call d)) ∙ sym (used-call d i (omega (arith, (accepted-typed d right).named)));
  }

pub same_layout : (d : List ℕ) → verdict d ≡ 0 → SameLayout d
same_layout d h = part-laid d (accepted-uses d h)
