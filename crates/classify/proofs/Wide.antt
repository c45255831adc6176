-- Over two eightbytes (request 2026-06): an aggregate is MEMORY, or it has 32 bytes and is SSE and three SSEUP. Assumes nothing.
use mathlib.Core.Path.{◌≡◌, refl, sym, ap, ◌∙◌}
use mathlib.Core.Bool.{Bool, true, false, cond, not, ◌&&◌, ◌||◌, true≢false, false≢true}
use mathlib.Core.List.{List, [], ◌∷◌}
use mathlib.Core.Logic.{◌⊎◌, inl, inr}
use Prim.Native.Nat.{ℕ, zero, suc, ◌+◌, ◌*◌, ◌/◌, ◌%◌, ◌≤◌, ◌<◌}
use native.Mathlib.Nat.{mul-suc, zero-mod}
use native.Mathlib.Omega.{arith}
use borrow.Author.Tests.{lt-ltb, le-ltb, ltb-true, ltb-false}
use lib.Dec.{ltb, eqb}
use lib.ListN.{length, get_or, set, take, replicate}
use lib.Seq.{take_all}
use Rattle.description.specs.declared.Model.{Model}
use Rattle.description.specs.declared.Model.TheVariants.{Lp64, Ilp32}
use Rattle.units.specs.Raise.{raise}
use Rattle.units.proofs.Raise.{raise-not_below}
use Rattle.classes.specs.declared.Class.{Class}
use Rattle.classes.specs.declared.Class.TheVariants.{NoClass, Sse, SseUp, ComplexX87}
use Rattle.classes.specs.Classes.{same, is_x87, no_classes, merge_of, merge_all}
use Rattle.classes.specs.CleanUp.{any_memory, up_alone, any_up_alone, settled, settle_all, memory_of, clean_up, all_ups, one_vector}
use Rattle.classes.proofs.Laws.{each_two, if_left, all-at, same-is, or_cases}
use Rattle.classes.proofs.Ups.{memory-behind, settle_at}
use Rattle.types.specs.Tree.{Ty, Tys, basic, array, struct, union, none, more}
use Rattle.types.specs.Basic.{pointer, basic_size, basic_align}
use Rattle.types.specs.Size.{size_ty, align_ty, align_tys, end_of, end_after, offset_after}
use Rattle.types.specs.Filled.{Filled, AllFilled}
use Rattle.types.proofs.Alignments.{max-left, max-right, plus_aligned}
use Rattle.types.proofs.Sizes.{align_is, aligns_is, aligns-low, end_member, end_low}
use Rattle.types.proofs.Codes.{each-code}
use Rattle.types.proofs.Laws.{align-divides}
use Rattle.classify.specs.Classify.{first_class, second_class, gap, one_class, vector_at, basic_at, elements_at, own, closed, classes_at, members_at, is_aggregate, eightbytes_in, eightbytes_of, shown, memory, classes_of}
use Rattle.classify.specs.Vectors.{vector, Over, Held}
use Rattle.classify.proofs.Covered.{some-all, offset-aligned}
use Rattle.classify.proofs.Lengths.{length_at, length-members, length-elements, length_none}

-- where SSEUP stands in the classes of what lies from lo to hi: never in the first of four eightbytes, and in the third only where an
-- __m256 lies over the four
abbrev pub Lie : List Class → ℕ → ℕ → Type 0
Lie cs lo hi = (e : ℕ) → same (get_or cs e NoClass) SseUp ≡ true → (e % 4 ≡ 0 → ⊥) × (e % 4 ≡ 2 → (lo + 16 ≤ 8 * e) × (8 * e + 16 ≤ hi))

pub lie-wider : (cs : List Class) (lo hi low high : ℕ) → low ≤ lo → hi ≤ high → Lie cs lo hi → Lie cs low high
lie-wider cs lo hi low high p q f = λ e h. ((f e h).0, λ r. (omega (arith, (f e h).1 r), omega (arith, (f e h).1 r)))

pub merge_up : (a b : Class) → same (merge_of a b) SseUp ≡ true → (same a SseUp || same b SseUp) ≡ true
unfolding same is_x87 merge_of
merge_up a b = if_left (same (merge_of a b) SseUp) (same a SseUp || same b SseUp) (each_two (λ x y. not (same (merge_of x y) SseUp) || (same x SseUp || same y SseUp)) refl a b)

merge_lie : (xs ys : List Class) (lo hi : ℕ) → Lie xs lo hi → Lie ys lo hi → Lie (merge_all xs ys) lo hi
merge_lie xs ys lo hi f g = λ e h. or_cases _ _ _ (merge_up (get_or xs e NoClass) (get_or ys e NoClass) (rw (all-at xs ys e) at h)) (f e) (g e)

none-at : (n e : ℕ) → get_or (no_classes n) e NoClass ≡ NoClass
none-at zero e = refl
none-at (suc n) zero = refl
none-at (suc n) (suc e) = none-at n e

pub none_lie : (n lo hi : ℕ) → Lie (no_classes n) lo hi
unfolding same
none_lie n lo hi = λ e h. absurd (false≢true (rw (none-at n e) at h))

set-up : (cs : List Class) (j e : ℕ) (c : Class) → same (get_or (set cs j c) e NoClass) SseUp ≡ true
    → ((e ≡ j) × (same c SseUp ≡ true)) ⊎ (same (get_or cs e NoClass) SseUp ≡ true)
set-up [] j e c h = inr h
set-up (x ∷ cs) zero zero c h = inl (refl, h)
set-up (x ∷ cs) zero (suc e) c h = inr h
set-up (x ∷ cs) (suc j) zero c h = inr h
set-up (x ∷ cs) (suc j) (suc e) c h = by (set-up cs j e c h)
  where
    by : ((e ≡ j) × (same c SseUp ≡ true)) ⊎ (same (get_or cs e NoClass) SseUp ≡ true) → ((suc e ≡ suc j) × (same c SseUp ≡ true)) ⊎ (same (get_or cs e NoClass) SseUp ≡ true)
    by (inl p) = inl (ap suc p.0, p.1)
    by (inr q) = inr q

put_up : (n o e : ℕ) (c : Class) → same (get_or (one_class n o c) e NoClass) SseUp ≡ true → (e ≡ o / 8) × (same c SseUp ≡ true)
unfolding one_class same
put_up n o e c h = by (set-up (no_classes n) (o / 8) e c h)
  where
    by : ((e ≡ o / 8) × (same c SseUp ≡ true)) ⊎ (same (get_or (no_classes n) e NoClass) SseUp ≡ true) → (e ≡ o / 8) × (same c SseUp ≡ true)
    by (inl p) = p
    by (inr q) = absurd (false≢true (rw (none-at n e) at q))

-- a class that is not SSEUP, and SSEUP in the second eightbyte of two
plain-lie : (n o lo hi : ℕ) (c : Class) → same c SseUp ≡ false → Lie (one_class n o c) lo hi
plain-lie n o lo hi c f = λ e h. absurd (false≢true (sym f ∙ (put_up n o e c h).1))

half-lie : (n o lo hi : ℕ) (c : Class) → o % 16 ≡ 0 → Lie (one_class n (o + 8) c) lo hi
half-lie n o lo hi c m = λ e h. let p = (put_up n (o + 8) e c h).0 in ((λ z. omega arith), λ z. absurd (omega arith))

vector-lie : (n o : ℕ) → o % 32 ≡ 0 → Lie (vector_at n o) o (o + 32)
unfolding vector_at same
vector-lie n o m =
    merge_lie _ _ o (o + 32) (merge_lie _ _ o (o + 32) (plain-lie n o o (o + 32) Sse refl) (half-lie n o o (o + 32) SseUp (omega arith)))
    (merge_lie _ _ o (o + 32) (λ e h. let p = (put_up n (o + 16) e SseUp h).0 in ((λ z. omega arith), λ z. (omega arith, omega arith)))
    (λ e h. let p = (put_up n (o + 24) e SseUp h).0 in ((λ z. omega arith), λ z. absurd (omega arith))))

-- the rule of one code
abbrev Halves : Model → ℕ → Type 0
Halves model code =
    (same (first_class code) SseUp ≡ false)
    × (((same (second_class code) SseUp ≡ false) ⊎ ((gap code ≡ 8) × ((o : ℕ) → o % basic_align model code ≡ 0 → o % 16 ≡ 0)))
    × (eqb code 16 ≡ true → ((o : ℕ) → o % basic_align model code ≡ 0 → o % 32 ≡ 0) × (basic_size model code ≡ 32)))

basic-halves : (model : Model) (code : ℕ) → code < 17 → Halves model code
unfolding first_class second_class gap basic_align basic_size same
basic-halves model =
    each-code (Halves model)
    (p, (p, (p, (p, (p, (p, (p, (p, (p, (q, (p, (q, (p, (p, (p, (p, ((refl, (inl refl, λ h. ((λ o m. m), refl))), tt)))))))))))))))))
  where
    p : {A B : Type 0} → (false ≡ false) × (((false ≡ false) ⊎ A) × (false ≡ true → B))
    p = (refl, (inl refl, λ h. absurd (false≢true h)))

    q : {B : Type 0} → (false ≡ false) × (((true ≡ false) ⊎ ((◌≡◌ {A = ℕ} 8 8) × ((o : ℕ) → o % 16 ≡ 0 → o % 16 ≡ 0))) × (false ≡ true → B))
    q = (refl, (inr (refl, λ o m. m), λ h. absurd (false≢true h)))

basic-lie : (model : Model) (n code o : ℕ) → code < 17 → o % basic_align model code ≡ 0 → Lie (basic_at n code o) o (o + basic_size model code)
unfolding basic_at
basic-lie model n code o l m = by (basic-halves model code l) (eqb code 16) refl
  where
    second : ((same (second_class code) SseUp ≡ false) ⊎ ((gap code ≡ 8) × ((o : ℕ) → o % basic_align model code ≡ 0 → o % 16 ≡ 0)))
        → Lie (one_class n (o + gap code) (second_class code)) o (o + basic_size model code)
    second (inl f) = plain-lie n (o + gap code) o (o + basic_size model code) (second_class code) f
    second (inr (g, a)) = rw g (half-lie n o o (o + basic_size model code) (second_class code) (a o m))

    by : Halves model code → (b : Bool) → eqb code 16 ≡ b
        → Lie (cond b (vector_at n o) (merge_all (one_class n o (first_class code)) (one_class n (o + gap code) (second_class code)))) o (o + basic_size model code)
    by h true e = rw (h.1.1 e).1 (vector-lie n o ((h.1.1 e).0 o m))
    by h false e =
        merge_lie _ _ o (o + basic_size model code) (plain-lie n o o (o + basic_size model code) (first_class code) h.0) (second h.1.0)

-- clean-up brings no SSEUP in
memory-lie : (cs : List Class) (lo hi : ℕ) → Lie (memory_of cs) lo hi
unfolding same
memory-lie [] lo hi e h = absurd (false≢true h)
memory-lie (a ∷ cs) lo hi zero h = absurd (false≢true h)
memory-lie (a ∷ cs) lo hi (suc e) h = absurd (false≢true (rw (memory-behind (a ∷ cs) e) at h))

settled_up : (p a : Class) → same (settled p a) SseUp ≡ true → same a SseUp ≡ true
unfolding same settled
settled_up p a = if_left (same (settled p a) SseUp) (same a SseUp) (each_two (λ x y. not (same (settled x y) SseUp) || same y SseUp) refl p a)

closed-lie : (o s : ℕ) (cs : List Class) (lo hi : ℕ) → Lie cs lo hi → Lie (closed o s cs) lo hi
unfolding closed clean_up
closed-lie o s cs lo hi f = by (ltb 16 s && not (one_vector (own o s cs))) (any_memory cs) (any_up_alone NoClass cs)
  where
    by : (b p q : Bool) → Lie (cond b (memory_of cs) (cond p (memory_of cs) (cond q (memory_of cs) (settle_all NoClass cs)))) lo hi
    by true p q = memory-lie cs lo hi
    by false true q = memory-lie cs lo hi
    by false false true = memory-lie cs lo hi
    by false false false = λ e h. f e (settled_up (get_or (NoClass ∷ cs) e NoClass) (get_or cs e NoClass) (rw (settle_at NoClass cs e) at h))

pub elements_lie : (f : ℕ → List Class) (a s : ℕ) → s % a ≡ 0 → ((q : ℕ) → q % a ≡ 0 → Lie (f q) q (q + s))
    → (n q o : ℕ) (cs : List Class) → o ≤ q → q % a ≡ 0 → Lie cs o q → Lie (elements_at f s n q cs) o (q + s * n)
unfolding elements_at
elements_lie f a s d each zero q o cs g m c = lie-wider cs o q o (q + s * zero) (omega arith) (omega arith) c
elements_lie f a s d each (suc n) q o cs g m c =
    lie-wider (elements_at f s n (q + s) (merge_all cs (f q))) o (q + s + s * n) o (q + s * suc n) (omega arith) (omega (arith, mul-suc s n))
    (elements_lie f a s d each n (q + s) o (merge_all cs (f q)) (omega arith) (plus_aligned a q s m d)
    (merge_lie cs (f q) o (q + s) (lie-wider cs o q o (q + s) (omega arith) (omega arith) c) (lie-wider (f q) q (q + s) o (q + s) g (omega arith) (each q m))))

group-lie : (model : Model) (ts : Tys) (u : Bool) (o : ℕ) (cs : List Class) → Lie cs o (o + end_of model ts u 0)
    → Lie (closed o (raise (align_tys model ts) (end_of model ts u 0)) cs) o (o + raise (align_tys model ts) (end_of model ts u 0))
group-lie model ts u o cs c =
    let r = raise-not_below (align_tys model ts) (end_of model ts u 0) (aligns-low model ts) in
    closed-lie o (raise (align_tys model ts) (end_of model ts u 0)) cs o (o + raise (align_tys model ts) (end_of model ts u 0))
    (lie-wider cs o (o + end_of model ts u 0) o (o + raise (align_tys model ts) (end_of model ts u 0)) (omega arith) (omega arith) c)

mutual
  unfolding Filled AllFilled size_ty align_ty classes_at

  pub type-lie : (model : Model) (n : ℕ) (t : Ty) (o : ℕ) → Filled t → o % align_ty model t ≡ 0 → Lie (classes_at model n t o) o (o + size_ty model t)
  type-lie model n (basic code) o f m = basic-lie model n code o f m
  type-lie model n (array t count) o f m =
      closed-lie o (size_ty model (array t count)) _ o (o + size_ty model t * count)
      (elements_lie (classes_at model n t) (align_ty model t) (size_ty model t) (align-divides model t) (λ q i. type-lie model n t q f.0 i) count o o (no_classes n) (omega arith) m (none_lie n o o))
  type-lie model n (struct ts) o f m = group-lie model ts false o _ (members-lie model n ts false 0 o (no_classes n) (some-all ts f) m (none_lie n o (o + 0)))
  type-lie model n (union ts) o f m = group-lie model ts true o _ (members-lie model n ts true 0 o (no_classes n) (some-all ts f) m (none_lie n o (o + 0)))

  pub members-lie : (model : Model) (n : ℕ) (ts : Tys) (u : Bool) (x o : ℕ) (cs : List Class) → AllFilled ts → o % align_tys model ts ≡ 0 → Lie cs o (o + x)
      → Lie (members_at model n ts u x o cs) o (o + end_of model ts u x)
  members-lie model n none u x o cs f m c = c
  members-lie model n (more t ts) u x o cs f m c =
      let ia = align_is model t in
      let s = size_ty model t in
      let y = end_after u x (align_ty model t) (size_ty model t) in
      let at = offset_after u x (align_ty model t) in
      let ma : o % align_ty model t ≡ 0 = max-left ia (aligns_is model ts) o m in
      members-lie model n ts u y o (merge_all cs (classes_at model n t (o + at))) f.1 (max-right ia (aligns_is model ts) o m)
      (merge_lie cs (classes_at model n t (o + at)) o (o + y)
      (lie-wider cs o (o + x) o (o + y) (omega arith) (omega (arith, end_low u x (align_ty model t) (size_ty model t))) c)
      (lie-wider (classes_at model n t (o + at)) (o + at) (o + at + s) o (o + y) (omega arith) (omega (arith, end_member u x (align_ty model t) (size_ty model t)))
      (type-lie model n t (o + at) f.0 (plus_aligned (align_ty model t) o at ma (offset-aligned u x (align_ty model t))))))

-- ---- one vector register

abbrev ups : ℕ → List Class
ups k = replicate k SseUp

all-ups : (cs : List Class) → all_ups cs ≡ true → cs ≡ ups (length cs)
all-ups [] h = refl
all-ups (a ∷ cs) h = by (same a SseUp) refl h (all-ups cs)
  where
    by : (b : Bool) → same a SseUp ≡ b → (b && all_ups cs) ≡ true → (all_ups cs ≡ true → cs ≡ ups (length cs)) → a ∷ cs ≡ SseUp ∷ ups (length cs)
    by true e i rec = ap (λ (c : Class). c ∷ cs) (same-is a SseUp e) ∙ ap (λ (l : List Class). SseUp ∷ l) (rec i)
    by false e i rec = absurd (false≢true i)

pub vector-is : (a : Class) (cs : List Class) → one_vector (a ∷ cs) ≡ true → a ∷ cs ≡ Sse ∷ ups (length cs)
vector-is a cs h = by (same a Sse) refl h
  where
    by : (b : Bool) → same a Sse ≡ b → (b && all_ups cs) ≡ true → a ∷ cs ≡ Sse ∷ ups (length cs)
    by true e i = ap (λ (c : Class). c ∷ cs) (same-is a Sse e) ∙ ap (λ (l : List Class). Sse ∷ l) (all-ups cs i)
    by false e i = absurd (false≢true i)

ups-no_memory : (k : ℕ) → any_memory (ups k) ≡ false
unfolding same
ups-no_memory zero = refl
ups-no_memory (suc k) = ups-no_memory k

ups-no_x87 : (p : Class) (k : ℕ) → any_up_alone p (ups k) ≡ false
unfolding same up_alone
ups-no_x87 p zero = refl
ups-no_x87 p (suc k) = ups-no_x87 SseUp k

ups-settled : (k : ℕ) → settle_all SseUp (ups k) ≡ ups k
unfolding same settled
ups-settled zero = refl
ups-settled (suc k) = ap (λ (l : List Class). SseUp ∷ l) (ups-settled k)

vector-settled : (k : ℕ) → settle_all NoClass (Sse ∷ ups k) ≡ Sse ∷ ups k
unfolding same settled
vector-settled zero = refl
vector-settled (suc k) = ap (λ (l : List Class). Sse ∷ SseUp ∷ l) (ups-settled k)

pub vector-clean : (k : ℕ) → clean_up (Sse ∷ ups k) ≡ Sse ∷ ups k
unfolding clean_up same up_alone
vector-clean k = rw (ups-no_memory k, ups-no_x87 Sse k) (vector-settled k)

ups-at : (k e : ℕ) → e < k → get_or (ups k) e NoClass ≡ SseUp
ups-at zero e h = absurd (omega arith)
ups-at (suc k) zero h = refl
ups-at (suc k) (suc e) h = ups-at k e (omega arith)

-- what is shown
memory-shown : (cs : List Class) → 2 ≤ length cs → shown (memory_of cs) ≡ memory
unfolding shown same
memory-shown [] h = absurd (omega arith)
memory-shown (a ∷ []) h = absurd (omega arith)
memory-shown (a ∷ b ∷ cs) h = refl

pub shown-two : (cs : List Class) → length cs ≡ 2 → shown cs ≡ cs
unfolding shown
shown-two cs e = by (one_vector cs)
  where
    by : (b : Bool) → cond b cs (take 2 cs) ≡ cs
    by true = refl
    by false = take_all 2 cs (omega (arith, e))

-- SSE and k SSEUP, where SSEUP lies as it can: three of them
three_ups : (k s : ℕ) → suc k ≡ eightbytes_in s → 16 < s → Lie (Sse ∷ ups k) 0 s → (k ≡ 3) × (s ≡ 32)
unfolding eightbytes_in same
three_ups k s long large lie =
    let wide = (lie 2 (rw (ups-at k 1 (omega arith)))).1 (omega arith) in
    by (ltb 3 k) refl wide
  where
    by : (b : Bool) → ltb 3 k ≡ b → (0 + 16 ≤ 16) × (8 * 2 + 16 ≤ s) → (k ≡ 3) × (s ≡ 32)
    by true e w = absurd ((lie 4 (rw (ups-at k 3 (ltb-true 3 k e)))).0 (omega arith))
    by false e w = let few = ltb-false 3 k e in (omega arith, omega arith)

four-of : (k : ℕ) → k ≡ 3 → shown (Sse ∷ ups k) ≡ vector
unfolding shown same
four-of k e = rw e

two-long : (n s : ℕ) → n ≡ eightbytes_in s → 16 < s → 2 ≤ n
unfolding eightbytes_in
two-long n s e l = omega arith

-- an aggregate over two eightbytes, by the merged classes of its members
pub over-two : (s : ℕ) (cs : List Class) → length cs ≡ eightbytes_in s → 16 < s → Lie (closed 0 s cs) 0 s → Over (shown (closed 0 s cs)) s
unfolding closed
over-two s cs long large lie = by (one_vector cs) refl
  where
    own-all : own 0 s cs ≡ cs
    own-all = let z : 0 + s ≡ s = omega arith in ap (λ (n : ℕ). take (eightbytes_in n) cs) z ∙ take_all (eightbytes_in s) cs (omega (arith, long))

    is-closed : (b : Bool) → one_vector cs ≡ b → closed 0 s cs ≡ cond (not b) (memory_of cs) (clean_up cs)
    is-closed b e = rw (own-all, e, lt-ltb 16 s large)

    by : (b : Bool) → one_vector cs ≡ b → Over (shown (closed 0 s cs)) s
    by false e = inl (ap shown (is-closed false e) ∙ memory-shown cs (two-long (length cs) s long large))
    by true e = whole cs refl e
      where
        whole : (bs : List Class) → bs ≡ cs → one_vector bs ≡ true → Over (shown (closed 0 s cs)) s
        whole [] i h = absurd (false≢true h)
        whole (a ∷ bs) i h =
            let is : closed 0 s cs ≡ Sse ∷ ups (length bs) = is-closed true e ∙ ap clean_up (sym i ∙ vector-is a bs h) ∙ vector-clean (length bs) in
            let k = three_ups (length bs) s (ap length i ∙ long) large (rw (← is) lie) in
            inr (ap shown is ∙ four-of (length bs) k.0, k.1)

-- ---- of types

frame-large : (model : Model) (t : Ty) → 16 < size_ty model t → eightbytes_of model t ≡ eightbytes_in (size_ty model t)
unfolding eightbytes_of eightbytes_in
frame-large model t l = omega arith

pub frame_small : (model : Model) (t : Ty) → size_ty model t ≤ 16 → eightbytes_of model t ≡ 2
unfolding eightbytes_of eightbytes_in
frame_small model t l = omega arith

-- at most two eightbytes: as document 01 has it
pub small-classes : (model : Model) (t : Ty) → size_ty model t ≤ 16 → classes_of model t ≡ classes_at model 2 t 0
unfolding classes_of
small-classes model t l = by (is_aggregate t && ltb 64 (size_ty model t)) refl
  where
    and_right : (a b : Bool) → b ≡ false → (a && b) ≡ false
    and_right true b e = e
    and_right false b e = refl

    by : (b : Bool) → (is_aggregate t && ltb 64 (size_ty model t)) ≡ b → cond b memory (shown (classes_at model (eightbytes_of model t) t 0)) ≡ classes_at model 2 t 0
    by true e = absurd (true≢false (sym e ∙ and_right (is_aggregate t) (ltb 64 (size_ty model t)) (le-ltb 64 (size_ty model t) (omega arith))))
    by false e = rw (frame_small model t l) (shown-two (classes_at model 2 t 0) (length_at model 2 t 0))

-- an aggregate over two eightbytes: MEMORY, or 32 bytes of SSE and three SSEUP
module _ (model : Model) (t : Ty) (f : Filled t) (l : 16 < size_ty model t) where
  over-frame : (cs : List Class) → length cs ≡ eightbytes_of model t → classes_at model (eightbytes_of model t) t 0 ≡ closed 0 (size_ty model t) cs
      → Over (shown (classes_at model (eightbytes_of model t) t 0)) (size_ty model t)
  over-frame cs long is =
      rw is (over-two (size_ty model t) cs (long ∙ frame-large model t l) l
      (lie-wider (closed 0 (size_ty model t) cs) 0 (0 + size_ty model t) 0 (size_ty model t) (omega arith) (omega arith)
      (rw is at (type-lie model (eightbytes_of model t) t 0 f (zero-mod (align_ty model t))))))

over-aggregate : (model : Model) (t : Ty) → Filled t → is_aggregate t ≡ true → 16 < size_ty model t → Over (shown (classes_at model (eightbytes_of model t) t 0)) (size_ty model t)
unfolding classes_at
over-aggregate model (basic code) f h l = absurd (false≢true h)
over-aggregate model (array t count) f h l =
    let n = eightbytes_of model (array t count) in
    over-frame model (array t count) f l _ (length-elements n (classes_at model n t) (size_ty model t) (λ q. length_at model n t q) count 0 (no_classes n) (length_none n)) refl
over-aggregate model (struct ts) f h l =
    let n = eightbytes_of model (struct ts) in
    over-frame model (struct ts) f l _ (length-members model n ts false 0 0 (no_classes n) (length_none n)) refl
over-aggregate model (union ts) f h l =
    let n = eightbytes_of model (union ts) in
    over-frame model (union ts) f l _ (length-members model n ts true 0 0 (no_classes n) (length_none n)) refl

-- "over eight eightbytes is MEMORY; after merging, any aggregate over two eightbytes whose first isn't SSE, or with a later one that isn't
-- SSEUP, is MEMORY": the others have 32 bytes, and are SSE and three SSEUP
pub wide_or_memory : (model : Model) (t : Ty) → Filled t → is_aggregate t ≡ true → 16 < size_ty model t → Over (classes_of model t) (size_ty model t)
unfolding classes_of
wide_or_memory model t f h l = by (is_aggregate t && ltb 64 (size_ty model t))
  where
    by : (b : Bool) → Over (cond b memory (shown (classes_at model (eightbytes_of model t) t 0))) (size_ty model t)
    by true = inl refl
    by false = over-aggregate model t f h l

-- complex long double and __m256 alone of the basic types have more than 16 bytes
pub basic-sort : (model : Model) (code : ℕ) → code < 17 → (basic_size model code ≤ 16) ⊎ ((code ≡ 14) ⊎ (code ≡ 16))
unfolding basic_size
basic-sort model =
    each-code (λ code. (basic_size model code ≤ 16) ⊎ ((code ≡ 14) ⊎ (code ≡ 16)))
    (inl (omega arith), (inl (omega arith), (inl (omega arith), (inl (omega arith), (inl (omega arith), (inl (omega arith), (inl (omega arith), (inl (omega arith), (inl (omega arith), (inl (omega arith), (inl (omega arith), (inl (omega arith), (inl (omega arith), (inl (omega arith), (inr (inl refl), (inl (pointer-small model), (inr (inr refl), tt)))))))))))))))))
  where
    pointer-small : (model : Model) → pointer model ≤ 16
    pointer-small Lp64 = omega arith
    pointer-small Ilp32 = omega arith

pub complex_classes : (model : Model) → classes_of model (basic 14) ≡ ComplexX87 ∷ NoClass ∷ []
unfolding basic_size size_ty same is_x87 merge_of merge_all one_class gap first_class second_class basic_at classes_at eightbytes_in eightbytes_of shown classes_of
complex_classes model = refl

pub vector-classes : (model : Model) → classes_of model (basic 16) ≡ vector
unfolding basic_size size_ty same is_x87 merge_of merge_all one_class vector_at basic_at classes_at eightbytes_in eightbytes_of shown classes_of
vector-classes model = refl

small-held : (model : Model) (t : Ty) → size_ty model t ≤ 16 → Held (classes_of model t)
small-held model t l = inl (ap length (small-classes model t l) ∙ length_at model 2 t 0)

aggregate_held : (model : Model) (t : Ty) → Filled t → is_aggregate t ≡ true → (b : Bool) → ltb 16 (size_ty model t) ≡ b → Held (classes_of model t)
aggregate_held model t f h false e = small-held model t (ltb-false 16 (size_ty model t) e)
aggregate_held model t f h true e = by (wide_or_memory model t f h (ltb-true 16 (size_ty model t) e))
  where
    by : Over (classes_of model t) (size_ty model t) → Held (classes_of model t)
    by (inl is) = inl (ap length is)
    by (inr (is, n)) = inr is

pub held : (model : Model) (t : Ty) → Filled t → Held (classes_of model t)
unfolding Filled size_ty
held model (basic code) f = by (basic-sort model code f)
  where
    by : (basic_size model code ≤ 16) ⊎ ((code ≡ 14) ⊎ (code ≡ 16)) → Held (classes_of model (basic code))
    by (inl l) = small-held model (basic code) l
    by (inr (inl e)) = inl (ap (λ (c : ℕ). length (classes_of model (basic c))) e ∙ ap length (complex_classes model))
    by (inr (inr e)) = inr (ap (λ (c : ℕ). classes_of model (basic c)) e ∙ vector-classes model)
held model (array t n) f = aggregate_held model (array t n) f refl (ltb 16 (size_ty model (array t n))) refl
held model (struct ts) f = aggregate_held model (struct ts) f refl (ltb 16 (size_ty model (struct ts))) refl
held model (union ts) f = aggregate_held model (union ts) f refl (ltb 16 (size_ty model (union ts))) refl

-- ---- 32 bytes

pub frame-thirtytwo : (model : Model) (t : Ty) → size_ty model t ≡ 32 → eightbytes_of model t ≡ 4
unfolding eightbytes_of eightbytes_in
frame-thirtytwo model t e = omega arith
