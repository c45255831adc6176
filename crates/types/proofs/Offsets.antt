-- Where members lie, in the paper's words (B1). Assumes nothing.
use mathlib.Core.Path.{◌≡◌, refl, ap, ◌∙◌}
use mathlib.Core.Bool.{Bool, true, false}
use mathlib.Core.List.{List}
use Prim.Native.Nat.{ℕ, zero, suc, ◌+◌, ◌%◌, ◌≤◌, ◌<◌}
use native.Mathlib.Nat.{zero-mod}
use native.Mathlib.Omega.{arith}
use lib.ListN.{length, get_or}
use Rattle.description.specs.Description.{member_at}
use Rattle.types.specs.Tree.{Ty, Tys, basic, array, struct, union, none, more, group}
use Rattle.description.specs.declared.Model.{Model}
use Rattle.types.specs.Size.{align_ty, size_ty, end_of, offset_after, end_after}
use Rattle.types.specs.Decode.{tys_from}
use Rattle.types.specs.Offsets.{offsets_from, member_offsets, members_of, count, member_in}
use Rattle.types.proofs.Sizes.{align-low, end_member, ends_low}
use Rattle.types.proofs.Laws.{offset-aligned, offset-least, struct-end, size-after}

-- there are as many offsets as members
offsets-count : (m : Model) (ts : Tys) (u : Bool) (x : ℕ) → length (offsets_from m ts u x) ≡ count ts
unfolding offsets_from count
offsets-count m none u x = refl
offsets-count m (more t ts) u x = ap suc (offsets-count m ts u (end_after u x (align_ty m t) (size_ty m t)))

pub members-count : (m : Model) (t : Ty) → length (member_offsets m t) ≡ count (members_of t)
unfolding member_offsets members_of count
members-count m (basic code) = refl
members-count m (array t n) = refl
members-count m (struct ts) = offsets-count m ts false 0
members-count m (union ts) = offsets-count m ts true 0

-- a struct, or a union, of these members
pub group-offsets : (m : Model) (u : Bool) (ts : Tys) → member_offsets m (group u ts) ≡ offsets_from m ts u 0
unfolding member_offsets
group-offsets m true ts = refl
group-offsets m false ts = refl

pub group-members : (u : Bool) (ts : Tys) → members_of (group u ts) ≡ ts
unfolding members_of
group-members true ts = refl
group-members false ts = refl

-- those of a description's run
pub run-count : (g : ℕ → Ty) (d : List ℕ) (i n : ℕ) → count (tys_from g d i n) ≡ n
unfolding tys_from count
run-count g d i zero = refl
run-count g d i (suc n) = ap suc (run-count g d (i + 1) n)

pub run-member : (g : ℕ → Ty) (d : List ℕ) (i n j : ℕ) → j < n → member_in (tys_from g d i n) j ≡ g (member_at d (i + j))
unfolding tys_from member_in
run-member g d i zero j h = absurd (omega arith)
run-member g d i (suc n) zero h = ap (λ (k : ℕ). g (member_at d k)) (omega arith)
run-member g d i (suc n) (suc j) h = run-member g d (i + 1) n j (omega arith) ∙ ap (λ (k : ℕ). g (member_at d k)) (omega arith)

-- a struct begins with its first member
pub first-offset : (m : Model) (ts : Tys) → get_or (offsets_from m ts false 0) 0 0 ≡ 0
unfolding offsets_from
first-offset m none = refl
first-offset m (more t ts) = omega (arith, offset-least 0 (align_ty m t) (align-low m t) 0 (omega arith))

-- each other member has "the lowest aligned offset after the one before"
pub next-offset : (m : Model) (ts : Tys) (x i : ℕ) → suc i < count ts
    → get_or (offsets_from m ts false x) (suc i) 0 ≡ offset_after false (get_or (offsets_from m ts false x) i 0 + size_ty m (member_in ts i)) (align_ty m (member_in ts (suc i)))
unfolding offsets_from count member_in
next-offset m none x i h = absurd (omega arith)
next-offset m (more t none) x i h = absurd (omega arith)
next-offset m (more t (more s ts)) x zero h = ap (λ (e : ℕ). offset_after false e (align_ty m s)) (struct-end x (align_ty m t) (align-low m t) (size_ty m t))
next-offset m (more t (more s ts)) x (suc i) h = next-offset m (more s ts) (end_after false x (align_ty m t) (size_ty m t)) i (omega arith)

-- "A union's members are at 0"
pub union-offset : (m : Model) (ts : Tys) (x i : ℕ) → get_or (offsets_from m ts true x) i 0 ≡ 0
unfolding offsets_from offset_after
union-offset m none x i = refl
union-offset m (more t ts) x zero = refl
union-offset m (more t ts) x (suc i) = union-offset m ts (end_after true x (align_ty m t) (size_ty m t)) i

after-aligned : (u : Bool) (x a : ℕ) → 0 < a → offset_after u x a % a ≡ 0
unfolding offset_after
after-aligned true x a h = zero-mod a
after-aligned false x a h = offset-aligned x a h

-- each offset is a multiple of its member's alignment
pub member-aligned : (m : Model) (ts : Tys) (u : Bool) (x i : ℕ) → i < count ts → get_or (offsets_from m ts u x) i 0 % align_ty m (member_in ts i) ≡ 0
unfolding offsets_from count member_in
member-aligned m none u x i h = absurd (omega arith)
member-aligned m (more t ts) u x zero h = after-aligned u x (align_ty m t) (align-low m t)
member-aligned m (more t ts) u x (suc i) h = member-aligned m ts u (end_after u x (align_ty m t) (size_ty m t)) i (omega arith)

-- each member ends where all of them end, or before
before-end : (m : Model) (ts : Tys) (u : Bool) (x i : ℕ) → i < count ts → get_or (offsets_from m ts u x) i 0 + size_ty m (member_in ts i) ≤ end_of m ts u x
unfolding offsets_from count member_in end_of
before-end m none u x i h = absurd (omega arith)
before-end m (more t ts) u x zero h =
    omega (arith, end_member u x (align_ty m t) (size_ty m t), ends_low m ts u (end_after u x (align_ty m t) (size_ty m t)))
before-end m (more t ts) u x (suc i) h = before-end m ts u (end_after u x (align_ty m t) (size_ty m t)) i (omega arith)

-- and so within the type
pub member-within : (m : Model) (ts : Tys) (u : Bool) (i : ℕ) → i < count ts → get_or (offsets_from m ts u 0) i 0 + size_ty m (member_in ts i) ≤ size_ty m (group u ts)
member-within m ts u i h = omega (arith, before-end m ts u 0 i h, size-after m ts u)
