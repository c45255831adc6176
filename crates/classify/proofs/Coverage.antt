-- What later crates need of a type's classes (`ClassesCover`). Assumes nothing.
use mathlib.Core.Path.{◌≡◌, refl, sym, ap, ◌∙◌}
use mathlib.Core.Bool.{Bool, true, false, ◌||◌, true≢false, false≢true}
use mathlib.Core.List.{List, [], ◌∷◌}
use mathlib.Core.Logic.{◌⊎◌, inl, inr, ◌↔◌}
use Prim.Native.Nat.{ℕ, zero, suc, ◌*◌, ◌/◌, ◌≤◌, ◌<◌, ◌+◌}
use native.Mathlib.Nat.{zero-mod}
use native.Mathlib.Omega.{arith}
use borrow.Author.Tests.{leb-true, leb-false}
use lib.Dec.{leb}
use lib.ListN.{get_or}
use Rattle.description.specs.declared.Model.{Model}
use Rattle.classes.specs.declared.Class.{Class}
use Rattle.classes.specs.declared.Class.TheVariants.{NoClass, ComplexX87, Memory}
use Rattle.classes.specs.Classes.{same, there, is_x87, merge_of, merge_all}
use Rattle.classes.specs.CleanUp.{up_alone, settled, clean_up}
use Rattle.classes.specs.Ups.{UpsFollow, on_stack}
use Rattle.classes.proofs.Ups.{memory-follows, clean_follows, memory-stack}
use Rattle.types.specs.Tree.{Ty, basic, array, struct, union}
use Rattle.types.specs.Basic.{basic_size}
use Rattle.types.specs.Size.{size_ty, align_ty}
use Rattle.types.specs.Filled.{Filled}
use Rattle.types.proofs.Codes.{each-code}
use Rattle.types.proofs.Laws.{size_low}
use Rattle.classify.specs.Classify.{first_class, second_class, gap, one_class, vector_at, basic_at, closed, classes_at, is_aggregate, memory, classes_of}
use Rattle.classify.specs.Vectors.{vector, Over}
use Rattle.classify.specs.Coverage.{Covered, Ends, ClassesCover}
use Rattle.classify.proofs.Covered.{closed-small, type-covered}
use Rattle.classify.proofs.Wide.{vector-clean, small-classes, wide_or_memory, basic-sort, complex_classes, vector-classes}
use Rattle.classify.proofs.Ends.{type-ends}

-- at most 16 bytes
small-covered : (model : Model) (t : Ty) → Filled t → size_ty model t ≤ 16 → on_stack (classes_at model 2 t 0) ≡ false → (b : ℕ) → b < size_ty model t → there (get_or (classes_at model 2 t 0) (b / 8) NoClass) ≡ true
small-covered model t f l s b h = by (type-covered model t 0 f (zero-mod (align_ty model t)) (omega arith))
  where
    by : Covered (classes_at model 2 t 0) 0 (0 + size_ty model t) → there (get_or (classes_at model 2 t 0) (b / 8) NoClass) ≡ true
    by (inl y) = absurd (true≢false (sym (memory-stack (classes_at model 2 t 0) y) ∙ s))
    by (inr g) = g b (omega arith) (omega arith)

-- a basic type needs no clean-up
basic-clean : (code : ℕ) → code < 17 → clean_up (basic_at 2 code 0) ≡ basic_at 2 code 0
unfolding same is_x87 merge_of merge_all up_alone settled clean_up one_class gap first_class second_class vector_at basic_at
basic-clean =
    each-code (λ code. clean_up (basic_at 2 code 0) ≡ basic_at 2 code 0)
    (refl, (refl, (refl, (refl, (refl, (refl, (refl, (refl, (refl, (refl, (refl, (refl, (refl, (refl, (refl, (refl, (refl, tt)))))))))))))))))

-- a class that goes on the stack, and nothing behind it
first-shaped : (a : Class) (size : ℕ) → 1 ≤ size → (same a Memory || is_x87 a) ≡ true → UpsFollow (a ∷ NoClass ∷ []) → ClassesCover (a ∷ NoClass ∷ []) size
first-shaped a size l h u = record { covered = λ s. absurd (true≢false (sym (rw h) ∙ s)); ends = behind; ups = u }
  where
    behind : (e : ℕ) → size ≤ 8 * e → get_or (a ∷ NoClass ∷ []) e NoClass ≡ NoClass
    behind zero i = absurd (omega arith)
    behind (suc zero) i = refl
    behind (suc (suc e)) i = refl

memory-shaped : (size : ℕ) → 1 ≤ size → ClassesCover memory size
unfolding same is_x87
memory-shaped size l = first-shaped Memory size l refl (memory-follows (NoClass ∷ NoClass ∷ []))

complex_shaped : ClassesCover (ComplexX87 ∷ NoClass ∷ []) 32
unfolding same is_x87 up_alone settled clean_up
complex_shaped = first-shaped ComplexX87 32 (omega arith) refl (clean_follows (ComplexX87 ∷ NoClass ∷ []))

-- one vector register of 32 bytes
vector-shaped : ClassesCover vector 32
unfolding same
vector-shaped = record { covered = λ s b h. at (b / 8) (omega arith); ends = behind; ups = rw (← clean) (clean_follows vector) }
  where
    at : (e : ℕ) → e < 4 → there (get_or vector e NoClass) ≡ true
    at zero h = refl
    at (suc zero) h = refl
    at (suc (suc zero)) h = refl
    at (suc (suc (suc zero))) h = refl
    at (suc (suc (suc (suc e)))) h = absurd (omega arith)

    behind : (e : ℕ) → 32 ≤ 8 * e → get_or vector e NoClass ≡ NoClass
    behind zero i = absurd (omega arith)
    behind (suc zero) i = absurd (omega arith)
    behind (suc (suc zero)) i = absurd (omega arith)
    behind (suc (suc (suc zero))) i = absurd (omega arith)
    behind (suc (suc (suc (suc e)))) i = refl

    clean : clean_up vector ≡ vector
    clean = vector-clean 3

small-ends : (model : Model) (t : Ty) → Filled t → Ends (classes_at model 2 t 0) (size_ty model t)
small-ends model t f = λ e i. type-ends model t 0 f e (omega arith)

-- at most two eightbytes
small-shaped : (model : Model) (t : Ty) → Filled t → size_ty model t ≤ 16 → UpsFollow (classes_at model 2 t 0) → ClassesCover (classes_of model t) (size_ty model t)
small-shaped model t f l u = rw (small-classes model t l) (record { covered = λ s b h. small-covered model t f l s b h; ends = small-ends model t f; ups = u })

-- an aggregate: cleaned up, or over two eightbytes
module _ (model : Model) (t : Ty) (f : Filled t) (a : is_aggregate t ≡ true) (cs : List Class) (is : classes_at model 2 t 0 ≡ closed 0 (size_ty model t) cs) where
  aggregate : (b : Bool) → leb (size_ty model t) 16 ≡ b → ClassesCover (classes_of model t) (size_ty model t)
  aggregate true e =
      let l = leb-true (size_ty model t) 16 e in
      small-shaped model t f l (rw (is, closed-small 0 (size_ty model t) cs l) (clean_follows cs))
  aggregate false e = by (wide_or_memory model t f a (leb-false (size_ty model t) 16 e))
    where
      by : Over (classes_of model t) (size_ty model t) → ClassesCover (classes_of model t) (size_ty model t)
      by (inl i) = rw i (memory-shaped (size_ty model t) (size_low model t f))
      by (inr (i, n)) = rw (i, n) vector-shaped

pub type-shaped : (model : Model) (t : Ty) → Filled t → ClassesCover (classes_of model t) (size_ty model t)
unfolding classes_at Filled size_ty basic_size
type-shaped model (basic code) f = by (basic-sort model code f)
  where
    by : (basic_size model code ≤ 16) ⊎ ((code ≡ 14) ⊎ (code ≡ 16)) → ClassesCover (classes_of model (basic code)) (basic_size model code)
    by (inl l) = small-shaped model (basic code) f l (rw (← basic-clean code f) (clean_follows (basic_at 2 code 0)))
    by (inr (inl e)) = rw (e, complex_classes model) complex_shaped
    by (inr (inr e)) = rw (e, vector-classes model) vector-shaped
type-shaped model (array t n) f = aggregate model (array t n) f refl _ refl (leb (size_ty model (array t n)) 16) refl
type-shaped model (struct ts) f = aggregate model (struct ts) f refl _ refl (leb (size_ty model (struct ts)) 16) refl
type-shaped model (union ts) f = aggregate model (union ts) f refl _ refl (leb (size_ty model (union ts)) 16) refl

-- a value that goes in registers: its second class is NO_CLASS exactly where it has at most 8 bytes
pub second_none : (cs : List Class) (size : ℕ) → ClassesCover cs size → on_stack cs ≡ false → (get_or cs 1 NoClass ≡ NoClass) ↔ (size ≤ 8)
unfolding same
second_none cs size s r = (λ e. by e (leb size 8) refl, λ l. s.ends 1 (omega arith))
  where
    by : get_or cs 1 NoClass ≡ NoClass → (b : Bool) → leb size 8 ≡ b → size ≤ 8
    by e true t = leb-true size 8 t
    by e false t = absurd (false≢true (ap there (sym e) ∙ s.covered r 8 (leb-false size 8 t)))
