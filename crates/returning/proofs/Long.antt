-- A value whose first class is X87 has 16 bytes, and one whose first class is COMPLEX_X87 has 32: only a long double brings the one, and
-- only a complex long double the other. Assumes nothing.
use mathlib.Core.Path.{◌≡◌, refl, sym, ap, ◌∙◌}
use mathlib.Core.Bool.{Bool, true, false, cond, not, ◌&&◌, ◌||◌, false≢true}
use mathlib.Core.Logic.{◌⊎◌, inl, inr}
use mathlib.Core.List.{List, [], ◌∷◌}
use Prim.Native.Nat.{ℕ, zero, suc, ◌+◌, ◌/◌, ◌≤◌, ◌<◌}
use native.Mathlib.Nat.{mul-le-mul}
use native.Mathlib.Decide.{dec_lt}
use native.Mathlib.Omega.{arith}
use borrow.Author.Tests.{leb-true, eqb-true}
use lib.Dec.{leb, ltb, eqb}
use lib.ListN.{get_or, set, get_or-eq_default}
use Rattle.description.specs.declared.Model.{Model}
use Rattle.description.specs.declared.Model.TheVariants.{Lp64, Ilp32}
use Rattle.classes.specs.declared.Class.{Class}
use Rattle.classes.specs.declared.Class.TheVariants.{NoClass, Sse, SseUp, X87, ComplexX87, Memory}
use Rattle.classes.specs.Classes.{same, is_x87, no_classes, merge_of, merge_all}
use Rattle.classes.specs.CleanUp.{any_memory, any_up_alone, settled, settle_all, memory_of, clean_up, one_vector}
use Rattle.classes.proofs.Laws.{each_two, if_left, all-at, or_cases}
use Rattle.classes.proofs.Ups.{memory-behind, settle_at}
use Rattle.types.specs.Tree.{Ty, Tys, basic, array, struct, union, none, more}
use Rattle.types.specs.Basic.{basic_size, basic_align}
use Rattle.types.specs.Size.{size_ty, align_ty, align_tys, end_of, offset_after, end_after}
use Rattle.types.specs.Filled.{Filled}
use Rattle.types.proofs.Codes.{EachFrom, each-code}
use Rattle.types.proofs.Sizes.{end_member, ends_low}
use Rattle.types.proofs.Laws.{align-within, size-after}
use Rattle.classify.specs.Classify.{firsts, seconds, first_class, second_class, gap, one_class, vector_at, basic_at, elements_at, eightbytes_in, own, closed, classes_at, members_at, is_aggregate, eightbytes_of, shown, classes_of}
use Rattle.classify.specs.Vectors.{Over}
use Rattle.classify.proofs.Wide.{small-classes, wide_or_memory}

-- ---- where a class can come from

-- P holds of some member
abbrev Somewhere : (Ty → Type 0) → Tys → Type 0
Somewhere P none = ⊥
Somewhere P (more t ts) = P t ⊎ Somewhere P ts

-- a class that merging and cleaning up never bring in, and that has at least m of f in each basic type that has it, and so in each
-- array and each struct or union over one
record Brought (c : Class) (m : ℕ) (f : Ty → ℕ) : Type 0 where
  nothing : same NoClass c ≡ false
  memory : same Memory c ≡ false
  vectors : (same Sse c ≡ false) × (same SseUp c ≡ false)
  merged : (a b : Class) → same (merge_of a b) c ≡ true → (same a c || same b c) ≡ true
  settles : (p a : Class) → same (settled p a) c ≡ true → same a c ≡ true
  codes : (code : ℕ) → (same (first_class code) c || same (second_class code) c) ≡ true → m ≤ f (basic code)
  arrays : (t : Ty) (n : ℕ) → 1 ≤ n → m ≤ f t → m ≤ f (array t n)
  structs : (ts : Tys) → Somewhere (λ t. m ≤ f t) ts → m ≤ f (struct ts)
  unions : (ts : Tys) → Somewhere (λ t. m ≤ f t) ts → m ≤ f (union ts)

none-at : (n i : ℕ) → get_or (no_classes n) i NoClass ≡ NoClass
none-at zero i = refl
none-at (suc n) zero = refl
none-at (suc n) (suc i) = none-at n i

module _ (model : Model) (c : Class) (m : ℕ) (f : Ty → ℕ) (r : Brought c m f) where
  -- it stands in eightbyte i
  abbrev Has : List Class → ℕ → Type 0
  Has cs i = same (get_or cs i NoClass) c ≡ true

  has-none : (n i : ℕ) → Has (no_classes n) i → ⊥
  has-none n i h = false≢true (sym r.nothing ∙ ap (λ (a : Class). same a c) (sym (none-at n i)) ∙ h)

  has-merged : (xs ys : List Class) (i : ℕ) → Has (merge_all xs ys) i → Has xs i ⊎ Has ys i
  has-merged xs ys i h =
      or_cases (same (get_or xs i NoClass) c) (same (get_or ys i NoClass) c) (Has xs i ⊎ Has ys i)
      (r.merged (get_or xs i NoClass) (get_or ys i NoClass) (rw (all-at xs ys i) at h)) (λ e. inl e) (λ e. inr e)

  has-memory : (cs : List Class) (i : ℕ) → Has (memory_of cs) i → ⊥
  has-memory [] zero h = false≢true (sym r.nothing ∙ h)
  has-memory (a ∷ cs) zero h = false≢true (sym r.memory ∙ h)
  has-memory cs (suc i) h = false≢true (sym r.nothing ∙ ap (λ (a : Class). same a c) (sym (memory-behind cs i)) ∙ h)

  has-cleaned : (cs : List Class) (i : ℕ) → Has (clean_up cs) i → Has cs i
  unfolding clean_up
  has-cleaned cs i h = by (any_memory cs) (any_up_alone NoClass cs) h
    where
      by : (a b : Bool) → Has (cond a (memory_of cs) (cond b (memory_of cs) (settle_all NoClass cs))) i → Has cs i
      by true b g = absurd (has-memory cs i g)
      by false true g = absurd (has-memory cs i g)
      by false false g = r.settles (get_or (NoClass ∷ cs) i NoClass) (get_or cs i NoClass) (rw (settle_at NoClass cs i) at g)

  has-closed : (o s : ℕ) (cs : List Class) (i : ℕ) → Has (closed o s cs) i → Has cs i
  unfolding closed
  has-closed o s cs i h = by (ltb 16 s && not (one_vector (own o s cs))) h
    where
      by : (b : Bool) → Has (cond b (memory_of cs) (clean_up cs)) i → Has cs i
      by true g = absurd (has-memory cs i g)
      by false g = has-cleaned cs i g

  has-put : (o : ℕ) (a : Class) (i : ℕ) → Has (one_class 2 o a) i → same a c ≡ true
  unfolding one_class
  has-put o a i h = by (no_classes 2) (o / 8) i (λ j. has-none 2 j) h
    where
      by : (cs : List Class) (k j : ℕ) → ((l : ℕ) → Has cs l → ⊥) → Has (set cs k a) j → same a c ≡ true
      by [] k j n g = absurd (n j g)
      by (x ∷ cs) zero zero n g = g
      by (x ∷ cs) zero (suc j) n g = absurd (n (suc j) g)
      by (x ∷ cs) (suc k) zero n g = absurd (n zero g)
      by (x ∷ cs) (suc k) (suc j) n g = by cs k j (λ l e. n (suc l) e) g

  -- it is none of SSE and three SSEUP
  has-vector : (o i : ℕ) → Has (vector_at 2 o) i → ⊥
  unfolding vector_at
  has-vector o i h = by (has-merged _ _ i h)
    where
      sse : (q : ℕ) → Has (one_class 2 q Sse) i → ⊥
      sse q g = false≢true (sym r.vectors.0 ∙ has-put q Sse i g)

      up : (q : ℕ) → Has (one_class 2 q SseUp) i → ⊥
      up q g = false≢true (sym r.vectors.1 ∙ has-put q SseUp i g)

      low : Has (one_class 2 o Sse) i ⊎ Has (one_class 2 (o + 8) SseUp) i → ⊥
      low (inl g) = sse o g
      low (inr g) = up (o + 8) g

      high : Has (one_class 2 (o + 16) SseUp) i ⊎ Has (one_class 2 (o + 24) SseUp) i → ⊥
      high (inl g) = up (o + 16) g
      high (inr g) = up (o + 24) g

      by : Has (merge_all (one_class 2 o Sse) (one_class 2 (o + 8) SseUp)) i ⊎ Has (merge_all (one_class 2 (o + 16) SseUp) (one_class 2 (o + 24) SseUp)) i → ⊥
      by (inl g) = low (has-merged _ _ i g)
      by (inr g) = high (has-merged _ _ i g)

  has-basic : (code o i : ℕ) → Has (basic_at 2 code o) i → (same (first_class code) c || same (second_class code) c) ≡ true
  unfolding basic_at
  has-basic code o i h = of (eqb code 16) h
    where
      or_first : (a b : Bool) → a ≡ true → (a || b) ≡ true
      or_first a b e = rw e

      or_second : (a b : Bool) → b ≡ true → (a || b) ≡ true
      or_second true b e = refl
      or_second false b e = e

      by : Has (one_class 2 o (first_class code)) i ⊎ Has (one_class 2 (o + gap code) (second_class code)) i → (same (first_class code) c || same (second_class code) c) ≡ true
      by (inl g) = or_first (same (first_class code) c) (same (second_class code) c) (has-put o (first_class code) i g)
      by (inr g) = or_second (same (first_class code) c) (same (second_class code) c) (has-put (o + gap code) (second_class code) i g)

      of : (b : Bool) → Has (cond b (vector_at 2 o) (merge_all (one_class 2 o (first_class code)) (one_class 2 (o + gap code) (second_class code)))) i
          → (same (first_class code) c || same (second_class code) c) ≡ true
      of true g = absurd (has-vector o i g)
      of false g = by (has-merged (one_class 2 o (first_class code)) (one_class 2 (o + gap code) (second_class code)) i g)

  has-elements : (g : ℕ → List Class) (s i : ℕ) (P : Type 0) → ((q : ℕ) → Has (g q) i → P) → (n q : ℕ) (cs : List Class) → Has (elements_at g s n q cs) i
      → Has cs i ⊎ ((1 ≤ n) × P)
  unfolding elements_at
  has-elements g s i P each zero q cs h = inl h
  has-elements g s i P each (suc n) q cs h = by (has-elements g s i P each n (q + s) (merge_all cs (g q)) h)
    where
      from : Has cs i ⊎ Has (g q) i → Has cs i ⊎ ((1 ≤ suc n) × P)
      from (inl e) = inl e
      from (inr e) = inr (omega arith, each q e)

      by : Has (merge_all cs (g q)) i ⊎ ((1 ≤ n) × P) → Has cs i ⊎ ((1 ≤ suc n) × P)
      by (inl e) = from (has-merged cs (g q) i e)
      by (inr e) = inr (omega arith, e.1)

  -- what a merge gives the members' list
  has-member : (cs ds : List Class) (i : ℕ) (P Q : Type 0) → (Has ds i → P) → Has (merge_all cs ds) i ⊎ Q → Has cs i ⊎ (P ⊎ Q)
  has-member cs ds i P Q each (inr q) = inr (inr q)
  has-member cs ds i P Q each (inl e) = by (has-merged cs ds i e)
    where
      by : Has cs i ⊎ Has ds i → Has cs i ⊎ (P ⊎ Q)
      by (inl g) = inl g
      by (inr g) = inr (inl (each g))

  none_or : (i : ℕ) (P : Type 0) → Has (no_classes 2) i ⊎ P → P
  none_or i P (inl h) = absurd (has-none 2 i h)
  none_or i P (inr p) = p

  mutual
    unfolding classes_at members_at

    has-type : (t : Ty) (o i : ℕ) → Has (classes_at model 2 t o) i → m ≤ f t
    has-type (basic code) o i h = r.codes code (has-basic code o i h)
    has-type (array t n) o i h =
        let e = none_or i _ (has-elements (classes_at model 2 t) (size_ty model t) i (m ≤ f t) (λ q g. has-type t q i g) n o (no_classes 2) (has-closed o _ _ i h)) in
        r.arrays t n e.0 e.1
    has-type (struct ts) o i h = r.structs ts (none_or i _ (has-types ts false 0 o (no_classes 2) i (has-closed o _ _ i h)))
    has-type (union ts) o i h = r.unions ts (none_or i _ (has-types ts true 0 o (no_classes 2) i (has-closed o _ _ i h)))

    has-types : (ts : Tys) (u : Bool) (x o : ℕ) (cs : List Class) (i : ℕ) → Has (members_at model 2 ts u x o cs) i → Has cs i ⊎ Somewhere (λ t. m ≤ f t) ts
    has-types none u x o cs i h = inl h
    has-types (more t ts) u x o cs i h =
        has-member cs (classes_at model 2 t (o + offset_after u x (align_ty model t))) i (m ≤ f t) (Somewhere (λ t. m ≤ f t) ts) (λ g. has-type t (o + offset_after u x (align_ty model t)) i g)
        (has-types ts u (end_after u x (align_ty model t) (size_ty model t)) o (merge_all cs (classes_at model 2 t (o + offset_after u x (align_ty model t)))) i h)

-- ---- X87: aligned to 16

-- a rule of each code, and of what is none
codes_by : (P : ℕ → Type 0) → ((code : ℕ) → code < 16 → P code) → ((code : ℕ) → 16 ≤ code → P code) → (code : ℕ) → P code
codes_by P f g code = by (dec_lt code 16)
  where
    by : Dec (code < 16) → P code
    by (yes l) = f code l
    by (no l) = g code (omega arith)

-- no code has no class
no_code : (c : Class) → same NoClass c ≡ false → (code : ℕ) → 16 ≤ code → (same (first_class code) c || same (second_class code) c) ≡ true → ⊥
unfolding first_class second_class
no_code c e code l h = false≢true (sym (rw (get_or-eq_default firsts NoClass {n = code} l, get_or-eq_default seconds NoClass {n = code} l, e)) ∙ h)

some-align : (model : Model) (m : ℕ) (ts : Tys) → Somewhere (λ t. m ≤ align_ty model t) ts → m ≤ align_tys model ts
unfolding align_tys
some-align model m none h = absurd h
some-align model m (more t ts) (inl h) = omega arith
some-align model m (more t ts) (inr h) = omega (arith, some-align model m ts h)

x87-brought : (model : Model) → Brought X87 16 (align_ty model)
unfolding same is_x87 merge_of settled align_ty first_class second_class basic_align
x87-brought model = record {
  nothing = refl;
  memory = refl;
  vectors = (refl, refl);
  merged = λ a b. if_left (same (merge_of a b) X87) (same a X87 || same b X87) (each_two (λ x y. not (same (merge_of x y) X87) || (same x X87 || same y X87)) refl a b);
  settles = λ p a. if_left (same (settled p a) X87) (same a X87) (each_two (λ x y. not (same (settled x y) X87) || same y X87) refl p a);
  codes =
      codes_by (λ code. (same (first_class code) X87 || same (second_class code) X87) ≡ true → 16 ≤ basic_align model code)
      (λ code l h. leb-true 16 (basic_align model code) (if_left _ _ (low code l) h)) (λ code l h. absurd (no_code X87 refl code l h));
  arrays = λ t n l h. h;
  structs = λ ts h. some-align model 16 ts h;
  unions = λ ts h. some-align model 16 ts h;
}
  where
    low : (code : ℕ) → code < 16 → (not (same (first_class code) X87 || same (second_class code) X87) || leb 16 (basic_align model code)) ≡ true
    low code l =
        each-code (λ code. (not (same (first_class code) X87 || same (second_class code) X87) || leb 16 (basic_align model code)) ≡ true)
        (refl, (refl, (refl, (refl, (refl, (refl, (refl, (refl, (refl, (refl, (refl, (refl, (refl, (refl, (refl, (refl, (refl, tt))))))))))))))))) code (omega arith)

-- ---- COMPLEX_X87: 32 bytes

some_size : (model : Model) (m : ℕ) (ts : Tys) (u : Bool) (x : ℕ) → Somewhere (λ t. m ≤ size_ty model t) ts → m ≤ end_of model ts u x
unfolding end_of
some_size model m none u x h = absurd h
some_size model m (more t ts) u x (inl h) =
    omega (arith, end_member u x (align_ty model t) (size_ty model t), ends_low model ts u (end_after u x (align_ty model t) (size_ty model t)))
some_size model m (more t ts) u x (inr h) = some_size model m ts u (end_after u x (align_ty model t) (size_ty model t)) h

complex_brought : (model : Model) → Brought ComplexX87 32 (size_ty model)
unfolding same is_x87 merge_of settled size_ty first_class second_class basic_size
complex_brought model = record {
  nothing = refl;
  memory = refl;
  vectors = (refl, refl);
  merged =
      λ a b. if_left (same (merge_of a b) ComplexX87) (same a ComplexX87 || same b ComplexX87) (each_two (λ x y. not (same (merge_of x y) ComplexX87) || (same x ComplexX87 || same y ComplexX87)) refl a b);
  settles = λ p a. if_left (same (settled p a) ComplexX87) (same a ComplexX87) (each_two (λ x y. not (same (settled x y) ComplexX87) || same y ComplexX87) refl p a);
  codes =
      codes_by (λ code. (same (first_class code) ComplexX87 || same (second_class code) ComplexX87) ≡ true → 32 ≤ basic_size model code)
      (λ code l h. leb-true 32 (basic_size model code) (if_left _ _ (low code l) h)) (λ code l h. absurd (no_code ComplexX87 refl code l h));
  arrays = λ t n l h. mul-le-mul {n₁ = 32} {m₁ = 1} h l;
  structs = λ ts h. omega (arith, size-after model ts false, some_size model 32 ts false 0 h);
  unions = λ ts h. omega (arith, size-after model ts true, some_size model 32 ts true 0 h);
}
  where
    low : (code : ℕ) → code < 16 → (not (same (first_class code) ComplexX87 || same (second_class code) ComplexX87) || leb 32 (basic_size model code)) ≡ true
    low code l =
        each-code (λ code. (not (same (first_class code) ComplexX87 || same (second_class code) ComplexX87) || leb 32 (basic_size model code)) ≡ true)
        (refl, (refl, (refl, (refl, (refl, (refl, (refl, (refl, (refl, (refl, (refl, (refl, (refl, (refl, (refl, (refl, (refl, tt))))))))))))))))) code (omega arith)

-- ---- the whole

-- of a basic type of this code whose first class is c the size is sure
abbrev FirstSays : Model → Class → ℕ → ℕ → Type 0
FirstSays model c size code = (not (same (get_or (classes_of model (basic code)) 0 NoClass) c) || eqb (basic_size model code) size) ≡ true

first_says : (model : Model) (c : Class) (size : ℕ) → EachFrom (FirstSays model c size) 0 17
    → (code : ℕ) → code < 17 → same (get_or (classes_of model (basic code)) 0 NoClass) c ≡ true → basic_size model code ≡ size
first_says model c size e code l h = eqb-true (basic_size model code) size (if_left _ _ (each-code (FirstSays model c size) e code l) h)

-- an aggregate over 16 bytes is MEMORY or one vector
aggregate_first : (model : Model) (c : Class) (t : Ty) → Filled t → same Memory c ≡ false → same Sse c ≡ false → is_aggregate t ≡ true
    → same (get_or (classes_of model t) 0 NoClass) c ≡ true → (size_ty model t ≤ 16) × (same (get_or (classes_at model 2 t 0) 0 NoClass) c ≡ true)
aggregate_first model c t f m v a h = by (dec_lt 16 (size_ty model t))
  where
    none : Over (classes_of model t) (size_ty model t) → ⊥
    none (inl e) = false≢true (sym m ∙ ap (λ (cs : List Class). same (get_or cs 0 NoClass) c) (sym e) ∙ h)
    none (inr e) = false≢true (sym v ∙ ap (λ (cs : List Class). same (get_or cs 0 NoClass) c) (sym e.0) ∙ h)

    by : Dec (16 < size_ty model t) → (size_ty model t ≤ 16) × (same (get_or (classes_at model 2 t 0) 0 NoClass) c ≡ true)
    by (yes l) = absurd (none (wide_or_memory model t f a l))
    by (no l) =
        let small : size_ty model t ≤ 16 = omega arith in
        (small, ap (λ (cs : List Class). same (get_or cs 0 NoClass) c) (sym (small-classes model t small)) ∙ h)

x87-aggregate : (model : Model) (t : Ty) → Filled t → is_aggregate t ≡ true → same (get_or (classes_of model t) 0 NoClass) X87 ≡ true → size_ty model t ≡ 16
unfolding same
x87-aggregate model t f a h =
    let p = aggregate_first model X87 t f refl refl a h in
    omega (arith, p.0, align-within model t f, has-type model X87 16 (align_ty model) (x87-brought model) t 0 0 p.1)

complex_aggregate : (model : Model) (t : Ty) → Filled t → is_aggregate t ≡ true → same (get_or (classes_of model t) 0 NoClass) ComplexX87 ≡ true → ⊥
unfolding same
complex_aggregate model t f a h =
    let p = aggregate_first model ComplexX87 t f refl refl a h in
    omega (arith, p.0, has-type model ComplexX87 32 (size_ty model) (complex_brought model) t 0 0 p.1)

pub x87-size : (model : Model) (t : Ty) → Filled t → same (get_or (classes_of model t) 0 NoClass) X87 ≡ true → size_ty model t ≡ 16
unfolding same is_x87 merge_of merge_all one_class vector_at gap first_class second_class basic_at basic_size eightbytes_in eightbytes_of shown Filled size_ty classes_of classes_at
x87-size model (basic code) f h =
    first_says model X87 16 (refl, (refl, (refl, (refl, (refl, (refl, (refl, (refl, (refl, (refl, (refl, (refl, (refl, (refl, (refl, (pointer-first model, (refl, tt))))))))))))))))) code f h
  where
    pointer-first : (m : Model) → FirstSays m X87 16 15
    pointer-first Lp64 = refl
    pointer-first Ilp32 = refl
x87-size model (array t n) f h = x87-aggregate model (array t n) f refl h
x87-size model (struct ts) f h = x87-aggregate model (struct ts) f refl h
x87-size model (union ts) f h = x87-aggregate model (union ts) f refl h

pub complex_size : (model : Model) (t : Ty) → Filled t → same (get_or (classes_of model t) 0 NoClass) ComplexX87 ≡ true → size_ty model t ≡ 32
unfolding same is_x87 merge_of merge_all one_class vector_at gap first_class second_class basic_at basic_size eightbytes_in eightbytes_of shown Filled size_ty classes_of classes_at
complex_size model (basic code) f h =
    first_says model ComplexX87 32 (refl, (refl, (refl, (refl, (refl, (refl, (refl, (refl, (refl, (refl, (refl, (refl, (refl, (refl, (refl, (pointer-first model, (refl, tt))))))))))))))))) code f h
  where
    pointer-first : (m : Model) → FirstSays m ComplexX87 32 15
    pointer-first Lp64 = refl
    pointer-first Ilp32 = refl
complex_size model (array t n) f h = absurd (complex_aggregate model (array t n) f refl h)
complex_size model (struct ts) f h = absurd (complex_aggregate model (struct ts) f refl h)
complex_size model (union ts) f h = absurd (complex_aggregate model (union ts) f refl h)
