-- Which aggregates are one vector register, by the classes of their members: what the code goes by (request 2026-06). Assumes nothing.
use mathlib.Core.Path.{◌≡◌, refl, sym, ap, ap₂, ◌∙◌}
use mathlib.Core.Bool.{Bool, true, false, cond, not, ◌&&◌, ◌||◌, true≢false, false≢true, and-true, and-false, and_assoc, or-false, or_assoc}
use mathlib.Core.List.{List, [], ◌∷◌}
use mathlib.Core.Logic.{◌⊎◌, inl, inr}
use Prim.Native.Nat.{ℕ, zero, suc, ◌+◌, ◌*◌, ◌%◌, ◌≤◌, ◌<◌, max}
use native.Mathlib.Nat.{mul-suc, zero-mod}
use native.Mathlib.Omega.{arith}
use borrow.Author.Tests.{ltb-true, ltb-false, lt-ltb}
use lib.Dec.{ltb}
use lib.ListN.{length, get_or, take}
use Rattle.description.specs.declared.Model.{Model}
use Rattle.units.specs.Raise.{raise}
use Rattle.units.proofs.Raise.{raise-not_below, raise-least}
use Rattle.classes.specs.declared.Class.{Class}
use Rattle.classes.specs.declared.Class.TheVariants.{NoClass, Integer, Sse, SseUp, X87, X87Up, ComplexX87, Memory}
use Rattle.classes.specs.Classes.{same, is_x87, no_classes, merge_of, merge_all}
use Rattle.classes.specs.CleanUp.{up_alone, settled, memory_of, clean_up, all_ups, one_vector}
use Rattle.classes.proofs.Laws.{each_two, if_left, all-at, or_cases, merge_commutes, merge_none}
use Rattle.types.specs.Tree.{Ty, Tys, basic, array, struct, union, none, more}
use Rattle.types.specs.Basic.{basic_size}
use Rattle.types.specs.Size.{size_ty, align_ty, align_tys, end_of, end_after, offset_after}
use Rattle.types.specs.Filled.{Filled, SomeFilled, AllFilled}
use Rattle.types.proofs.Alignments.{plus_aligned}
use Rattle.types.proofs.Sizes.{align-low, aligns-low, end_member, end_low, ends_low}
use Rattle.types.proofs.Laws.{align-divides, size_low}
use Rattle.classify.specs.Classify.{first_class, second_class, gap, one_class, vector_at, basic_at, elements_at, own, closed, classes_at, members_at, is_aggregate, eightbytes_in, shown, memory, classes_of}
use Rattle.classify.specs.Vectors.{vector, Over, is_vector, behind, fits_vector, each_fits, some_vector}
use Rattle.classify.specs.Coverage.{ClassesCover}
use Rattle.classify.proofs.Covered.{some-all, offset-aligned}
use Rattle.classify.proofs.Lengths.{length_at, length-elements, length-members}
use Rattle.classify.proofs.Wide.{Lie, small-classes, wide_or_memory, basic-sort, complex_classes, vector-classes, vector-is, frame-thirtytwo, none_lie, elements_lie, members-lie, lie-wider, type-lie, merge_up}
use Rattle.classify.proofs.Coverage.{type-shaped}
use Rattle.classify.proofs.Frames.{longer, frame-four}

-- a class that no vector has in its first eightbyte, and in a later one
abbrev spoils : Class → Bool
spoils c = not (same c NoClass || (same c Sse || same c SseUp))

abbrev Spoilt : List Class → Type 0
Spoilt cs = (spoils (get_or cs 0 NoClass) ≡ true) ⊎ (not (behind (get_or cs 1 NoClass)) ≡ true)

spoils-stay : (a b : Class) → spoils a ≡ true → spoils (merge_of a b) ≡ true
unfolding same is_x87 merge_of
spoils-stay a b = if_left (spoils a) (spoils (merge_of a b)) (each_two (λ x y. not (spoils x) || spoils (merge_of x y)) refl a b)

spoils-come : (a b : Class) → spoils b ≡ true → spoils (merge_of a b) ≡ true
unfolding same is_x87 merge_of
spoils-come a b = if_left (spoils b) (spoils (merge_of a b)) (each_two (λ x y. not (spoils y) || spoils (merge_of x y)) refl a b)

later-stay : (a b : Class) → not (behind a) ≡ true → not (behind (merge_of a b)) ≡ true
unfolding same is_x87 merge_of
later-stay a b = if_left (not (behind a)) (not (behind (merge_of a b))) (each_two (λ x y. not (not (behind x)) || not (behind (merge_of x y))) refl a b)

later-come : (a b : Class) → not (behind b) ≡ true → not (behind (merge_of a b)) ≡ true
unfolding same is_x87 merge_of
later-come a b = if_left (not (behind b)) (not (behind (merge_of a b))) (each_two (λ x y. not (not (behind y)) || not (behind (merge_of x y))) refl a b)

spoilt_stay : (xs ys : List Class) → Spoilt xs → Spoilt (merge_all xs ys)
spoilt_stay xs ys (inl h) = inl (rw (all-at xs ys 0) (spoils-stay (get_or xs 0 NoClass) (get_or ys 0 NoClass) h))
spoilt_stay xs ys (inr h) = inr (rw (all-at xs ys 1) (later-stay (get_or xs 1 NoClass) (get_or ys 1 NoClass) h))

spoilt_come : (xs ys : List Class) → Spoilt ys → Spoilt (merge_all xs ys)
spoilt_come xs ys (inl h) = inl (rw (all-at xs ys 0) (spoils-come (get_or xs 0 NoClass) (get_or ys 0 NoClass) h))
spoilt_come xs ys (inr h) = inr (rw (all-at xs ys 1) (later-come (get_or xs 1 NoClass) (get_or ys 1 NoClass) h))

behind-both : (a b : Class) → behind a ≡ true → behind b ≡ true → behind (merge_of a b) ≡ true
unfolding same is_x87 merge_of
behind-both a b p q =
    if_left (behind a && behind b) (behind (merge_of a b)) (each_two (λ x y. not (behind x && behind y) || behind (merge_of x y)) refl a b) (rw (p, q))

up-behind : (a : Class) → behind a ≡ true → merge_of a SseUp ≡ SseUp
unfolding same is_x87 merge_of
up-behind NoClass h = refl
up-behind SseUp h = refl
up-behind Integer h = absurd (false≢true h)
up-behind Sse h = absurd (false≢true h)
up-behind X87 h = absurd (false≢true h)
up-behind X87Up h = absurd (false≢true h)
up-behind ComplexX87 h = absurd (false≢true h)
up-behind Memory h = absurd (false≢true h)

behind-up : (a : Class) → behind a ≡ true → merge_of SseUp a ≡ SseUp
unfolding same is_x87 merge_of
behind-up NoClass h = refl
behind-up SseUp h = refl
behind-up Integer h = absurd (false≢true h)
behind-up Sse h = absurd (false≢true h)
behind-up X87 h = absurd (false≢true h)
behind-up X87Up h = absurd (false≢true h)
behind-up ComplexX87 h = absurd (false≢true h)
behind-up Memory h = absurd (false≢true h)

-- ---- one member, at 0 of four eightbytes: xs are its classes there, cs by itself

data Said (xs cs : List Class) : Type 0 where
  low : (b : Class) → behind b ≡ true → xs ≡ Sse ∷ b ∷ NoClass ∷ NoClass ∷ [] → fits_vector cs ≡ true → is_vector cs ≡ false → Said xs cs
  whole : xs ≡ vector → fits_vector cs ≡ true → is_vector cs ≡ true → Said xs cs
  bad : Spoilt xs → fits_vector cs ≡ false → is_vector cs ≡ false → Said xs cs

-- at most two eightbytes
pair-said : (a b : Class) (size : ℕ) → 1 ≤ size → ClassesCover (a ∷ b ∷ []) size → Said (a ∷ b ∷ NoClass ∷ NoClass ∷ []) (a ∷ b ∷ [])
unfolding same is_x87
pair-said Integer b n l s = bad (inl refl) refl refl
pair-said X87 b n l s = bad (inl refl) refl refl
pair-said X87Up b n l s = bad (inl refl) refl refl
pair-said ComplexX87 b n l s = bad (inl refl) refl refl
pair-said Memory b n l s = bad (inl refl) refl refl
pair-said SseUp b n l s = absurd (true≢false s.ups.first.0)
pair-said Sse NoClass n l s = low NoClass refl refl refl refl
pair-said Sse SseUp n l s = low SseUp refl refl refl refl
pair-said Sse Integer n l s = bad (inr refl) refl refl
pair-said Sse Sse n l s = bad (inr refl) refl refl
pair-said Sse X87 n l s = bad (inr refl) refl refl
pair-said Sse X87Up n l s = bad (inr refl) refl refl
pair-said Sse ComplexX87 n l s = bad (inr refl) refl refl
pair-said Sse Memory n l s = bad (inr refl) refl refl
pair-said NoClass NoClass n l s = absurd (false≢true (s.covered refl 0 (omega arith)))
pair-said NoClass SseUp n l s = absurd (false≢true (s.covered refl 0 (omega arith)))
pair-said NoClass Integer n l s = bad (inr refl) refl refl
pair-said NoClass Sse n l s = bad (inr refl) refl refl
pair-said NoClass X87 n l s = bad (inr refl) refl refl
pair-said NoClass X87Up n l s = bad (inr refl) refl refl
pair-said NoClass ComplexX87 n l s = bad (inr refl) refl refl
pair-said NoClass Memory n l s = bad (inr refl) refl refl

list_said : (cs : List Class) → length cs ≡ 2 → (size : ℕ) → 1 ≤ size → ClassesCover cs size → Said (longer cs) cs
list_said [] p n l s = absurd (omega arith)
list_said (a ∷ []) p n l s = absurd (omega arith)
list_said (a ∷ b ∷ c ∷ cs) p n l s = absurd (omega arith)
list_said (a ∷ b ∷ []) p n l s = pair-said a b n l s

small-said : (model : Model) (t : Ty) → Filled t → 1 ≤ size_ty model t → size_ty model t ≤ 16 → Said (classes_at model 4 t 0) (classes_of model t)
small-said model t f pos l =
    rw (small-classes model t l, frame-four model t 0 f (omega arith))
    (list_said (classes_at model 2 t 0) (length_at model 2 t 0) (size_ty model t) pos (rw (small-classes model t l) at (type-shaped model t f)))

-- over two eightbytes, in a whole of four
memory-said : (xs cs : List Class) → get_or xs 0 NoClass ≡ Memory → cs ≡ memory → Said xs cs
unfolding same
memory-said xs cs e i = rw i (bad (inl (ap spoils e)) refl refl)

vector-said : (xs cs : List Class) → xs ≡ vector → cs ≡ vector → Said xs cs
unfolding same
vector-said xs cs e i = rw i (whole e refl refl)

head_take : (cs : List Class) → get_or (take 2 cs) 0 NoClass ≡ get_or cs 0 NoClass
head_take [] = refl
head_take (a ∷ []) = refl
head_take (a ∷ b ∷ cs) = refl

short-take : (cs : List Class) → length (take 2 cs) ≤ 2
short-take [] = omega arith
short-take (a ∷ []) = omega arith
short-take (a ∷ b ∷ cs) = omega arith

shown-vector : (cs : List Class) → shown cs ≡ vector → cs ≡ vector
unfolding shown
shown-vector cs e = by (one_vector cs) e
  where
    by : (b : Bool) → cond b cs (take 2 cs) ≡ vector → cs ≡ vector
    by true i = i
    by false i = absurd (let n : length (take 2 cs) ≡ 4 = ap length i in omega (arith, short-take cs))

shown-memory : (cs : List Class) → shown cs ≡ memory → get_or cs 0 NoClass ≡ Memory
unfolding shown
shown-memory cs e = by (one_vector cs) e
  where
    by : (b : Bool) → cond b cs (take 2 cs) ≡ memory → get_or cs 0 NoClass ≡ Memory
    by true i = ap (λ (l : List Class). get_or l 0 NoClass) i
    by false i = sym (head_take cs) ∙ ap (λ (l : List Class). get_or l 0 NoClass) i

-- between 16 and 32 bytes: MEMORY, in four eightbytes too
third : (k : ℕ) (a b c d : Class) → 3 ≤ k → one_vector (take k (a ∷ b ∷ c ∷ d ∷ [])) ≡ true → same c SseUp ≡ true
third zero a b c d h e = absurd (omega arith)
third (suc zero) a b c d h e = absurd (omega arith)
third (suc (suc zero)) a b c d h e = absurd (omega arith)
third (suc (suc (suc k))) a b c d h e = by (same a Sse) (same b SseUp) (same c SseUp) e
  where
    by : (x y z : Bool) → (x && (y && (z && all_ups (take k (d ∷ []))))) ≡ true → z ≡ true
    by true true true i = refl
    by true true false i = i
    by true false z i = absurd (false≢true i)
    by false y z i = absurd (false≢true i)

at_least : (s : ℕ) → 16 < s → 3 ≤ eightbytes_in (0 % 8 + s)
unfolding eightbytes_in
at_least s l = omega arith

between : (s : ℕ) (cs : List Class) → length cs ≡ 4 → 16 < s → s < 32 → Lie cs 0 s → get_or (closed 0 s cs) 0 NoClass ≡ Memory
unfolding closed
between s [] p l h lie = absurd (omega arith)
between s (a ∷ []) p l h lie = absurd (omega arith)
between s (a ∷ b ∷ []) p l h lie = absurd (omega arith)
between s (a ∷ b ∷ c ∷ []) p l h lie = absurd (omega arith)
between s (a ∷ b ∷ c ∷ d ∷ e ∷ cs) p l h lie = absurd (omega arith)
between s (a ∷ b ∷ c ∷ d ∷ []) p l h lie = by (one_vector (own 0 s (a ∷ b ∷ c ∷ d ∷ []))) refl
  where
    by : (v : Bool) → one_vector (own 0 s (a ∷ b ∷ c ∷ d ∷ [])) ≡ v → get_or (cond (ltb 16 s && not (one_vector (own 0 s (a ∷ b ∷ c ∷ d ∷ [])))) (memory_of (a ∷ b ∷ c ∷ d ∷ [])) (clean_up (a ∷ b ∷ c ∷ d ∷ []))) 0 NoClass ≡ Memory
    by false e = rw (e, lt-ltb 16 s l)
    by true e = absurd (let w = ((lie 2 (third (eightbytes_in (0 % 8 + s)) a b c d (at_least s l) e)).1 (omega arith)).1 in omega arith)

-- the classes that an aggregate's members merge to
record Opened (model : Model) (t : Ty) : Type 0 where
  merged : List Class
  long : length merged ≡ 4
  is : classes_at model 4 t 0 ≡ closed 0 (size_ty model t) merged
  lie : Lie merged 0 (size_ty model t)

opened : (model : Model) (t : Ty) → Filled t → is_aggregate t ≡ true → Opened model t
unfolding Filled size_ty classes_at align_ty
opened model (basic code) f h = absurd (false≢true h)
opened model (array t n) f h = record {
  merged = elements_at (classes_at model 4 t) (size_ty model t) n 0 (no_classes 4);
  long = length-elements 4 (classes_at model 4 t) (size_ty model t) (λ q. length_at model 4 t q) n 0 (no_classes 4) refl;
  is = refl;
  lie = lie-wider (elements_at (classes_at model 4 t) (size_ty model t) n 0 (no_classes 4)) 0 (0 + size_ty model t * n) 0 (size_ty model t * n) (omega arith) (omega arith)
      (elements_lie (classes_at model 4 t) (align_ty model t) (size_ty model t) (align-divides model t) (λ q i. type-lie model 4 t q f.0 i) n 0 0 (no_classes 4) (omega arith) (zero-mod (align_ty model t)) (none_lie 4 0 0));
}
opened model (struct ts) f h = record {
  merged = members_at model 4 ts false 0 0 (no_classes 4);
  long = length-members model 4 ts false 0 0 (no_classes 4) refl;
  is = refl;
  lie = lie-wider (members_at model 4 ts false 0 0 (no_classes 4)) 0 (0 + end_of model ts false 0) 0 (size_ty model (struct ts)) (omega arith) (omega (arith, raise-not_below (align_tys model ts) (end_of model ts false 0) (aligns-low model ts)))
      (members-lie model 4 ts false 0 0 (no_classes 4) (some-all ts f) (zero-mod (align_tys model ts)) (none_lie 4 0 (0 + 0)));
}
opened model (union ts) f h = record {
  merged = members_at model 4 ts true 0 0 (no_classes 4);
  long = length-members model 4 ts true 0 0 (no_classes 4) refl;
  is = refl;
  lie = lie-wider (members_at model 4 ts true 0 0 (no_classes 4)) 0 (0 + end_of model ts true 0) 0 (size_ty model (union ts)) (omega arith) (omega (arith, raise-not_below (align_tys model ts) (end_of model ts true 0) (aligns-low model ts)))
      (members-lie model 4 ts true 0 0 (no_classes 4) (some-all ts f) (zero-mod (align_tys model ts)) (none_lie 4 0 (0 + 0)));
}

classes-thirtytwo : (model : Model) (t : Ty) → size_ty model t ≡ 32 → classes_of model t ≡ shown (classes_at model 4 t 0)
unfolding classes_of
classes-thirtytwo model t e = rw (frame-thirtytwo model t e, e) (by (is_aggregate t))
  where
    by : (b : Bool) → cond (b && false) memory (shown (classes_at model 4 t 0)) ≡ shown (classes_at model 4 t 0)
    by true = refl
    by false = refl

large-said : (model : Model) (t : Ty) → Filled t → is_aggregate t ≡ true → 16 < size_ty model t → size_ty model t ≤ 32 → Said (classes_at model 4 t 0) (classes_of model t)
large-said model t f a l h = by (wide_or_memory model t f a l)
  where
    four : (b : Bool) → ltb (size_ty model t) 32 ≡ b → classes_of model t ≡ memory → get_or (classes_at model 4 t 0) 0 NoClass ≡ Memory
    four true e i =
        let o = opened model t f a in
        ap (λ (x : List Class). get_or x 0 NoClass) o.is ∙ between (size_ty model t) o.merged o.long l (ltb-true (size_ty model t) 32 e) o.lie
    four false e i =
        let n : size_ty model t ≡ 32 = omega (arith, ltb-false (size_ty model t) 32 e) in
        shown-memory (classes_at model 4 t 0) (sym (classes-thirtytwo model t n) ∙ i)

    by : Over (classes_of model t) (size_ty model t) → Said (classes_at model 4 t 0) (classes_of model t)
    by (inl i) = memory-said (classes_at model 4 t 0) (classes_of model t) (four (ltb (size_ty model t) 32) refl i) i
    by (inr (i, n)) = vector-said (classes_at model 4 t 0) (classes_of model t) (shown-vector (classes_at model 4 t 0) (sym (classes-thirtytwo model t n) ∙ i)) i

basic-said : (model : Model) (code : ℕ) → code < 17 → (basic_size model code ≤ 16) ⊎ Said (basic_at 4 code 0) (classes_of model (basic code))
unfolding same is_x87 merge_of merge_all one_class gap first_class second_class vector_at basic_at
basic-said model code f = by (basic-sort model code f)
  where
    by : (basic_size model code ≤ 16) ⊎ ((code ≡ 14) ⊎ (code ≡ 16)) → (basic_size model code ≤ 16) ⊎ Said (basic_at 4 code 0) (classes_of model (basic code))
    by (inl l) = inl l
    by (inr (inl e)) = inr (rw (e, complex_classes model) (bad (inl refl) refl refl))
    by (inr (inr e)) = inr (rw (e, vector-classes model) (whole refl refl refl))

aggregate_said : (model : Model) (t : Ty) → Filled t → is_aggregate t ≡ true → size_ty model t ≤ 32 → (b : Bool) → ltb 16 (size_ty model t) ≡ b → Said (classes_at model 4 t 0) (classes_of model t)
aggregate_said model t f a h true e = large-said model t f a (ltb-true 16 (size_ty model t) e) h
aggregate_said model t f a h false e = small-said model t f (size_low model t f) (ltb-false 16 (size_ty model t) e)

member-said : (model : Model) (t : Ty) → Filled t → size_ty model t ≤ 32 → Said (classes_at model 4 t 0) (classes_of model t)
unfolding Filled size_ty classes_at
member-said model (basic code) f h = by (basic-said model code f)
  where
    by : (basic_size model code ≤ 16) ⊎ Said (basic_at 4 code 0) (classes_of model (basic code)) → Said (basic_at 4 code 0) (classes_of model (basic code))
    by (inl l) = small-said model (basic code) f (size_low model (basic code) f) l
    by (inr s) = s
member-said model (array t n) f h = aggregate_said model (array t n) f refl h (ltb 16 (size_ty model (array t n))) refl
member-said model (struct ts) f h = aggregate_said model (struct ts) f refl h (ltb 16 (size_ty model (struct ts))) refl
member-said model (union ts) f h = aggregate_said model (union ts) f refl h (ltb 16 (size_ty model (union ts))) refl

-- ---- the members of a union, one after the other

data State (xs : List Class) : Bool → Bool → Type 0 where
  nothing : xs ≡ no_classes 4 → State xs true false
  lower : (b : Class) → behind b ≡ true → xs ≡ Sse ∷ b ∷ NoClass ∷ NoClass ∷ [] → State xs true false
  full : xs ≡ vector → State xs true true
  spoilt : (some : Bool) → Spoilt xs → State xs false some

next-state : (xs ys cs : List Class) (all some : Bool) → State xs all some → Said ys cs → State (merge_all xs ys) (all && fits_vector cs) (some || is_vector cs)
unfolding same is_x87 merge_of merge_all
next-state xs ys cs _ _ (spoilt some h) s = spoilt _ (spoilt_stay xs ys h)
next-state xs ys cs _ _ (nothing e) (low b p i f v) = rw (f, v) (lower b p (ap₂ merge_all e i ∙ ap (λ (x : Class). Sse ∷ x ∷ NoClass ∷ NoClass ∷ []) (merge_commutes NoClass b ∙ merge_none b)))
next-state xs ys cs _ _ (nothing e) (whole i f v) = rw (f, v) (full (ap₂ merge_all e i))
next-state xs ys cs _ _ (nothing e) (bad h f v) = rw f (spoilt _ (spoilt_come xs ys h))
next-state xs ys cs _ _ (lower b p e) (low c q i f v) = rw (f, v) (lower (merge_of b c) (behind-both b c p q) (ap₂ merge_all e i))
next-state xs ys cs _ _ (lower b p e) (whole i f v) = rw (f, v) (full (ap₂ merge_all e i ∙ ap (λ (x : Class). Sse ∷ x ∷ SseUp ∷ SseUp ∷ []) (up-behind b p)))
next-state xs ys cs _ _ (lower b p e) (bad h f v) = rw f (spoilt _ (spoilt_come xs ys h))
next-state xs ys cs _ _ (full e) (low c q i f v) = rw f (full (ap₂ merge_all e i ∙ ap (λ (x : Class). Sse ∷ x ∷ SseUp ∷ SseUp ∷ []) (behind-up c q)))
next-state xs ys cs _ _ (full e) (whole i f v) = rw f (full (ap₂ merge_all e i))
next-state xs ys cs _ _ (full e) (bad h f v) = rw f (spoilt _ (spoilt_come xs ys h))

union-state : (model : Model) (ts : Tys) (x : ℕ) (xs : List Class) (all some : Bool) → AllFilled ts → end_of model ts true x ≤ 32 → State xs all some
    → State (members_at model 4 ts true x 0 xs) (all && each_fits model ts) (some || some_vector model ts)
unfolding AllFilled end_of members_at offset_after
union-state model none x xs all some f h s = rw (and-true all, or-false some) s
union-state model (more t ts) x xs all some f h s =
    let y = end_after true x (align_ty model t) (size_ty model t) in
    let mine = end_member true x (align_ty model t) (size_ty model t) in
    let later = ends_low model ts true (end_after true x (align_ty model t) (size_ty model t)) in
    rw (← and_assoc all (fits_vector (classes_of model t)) (each_fits model ts), ← or_assoc some (is_vector (classes_of model t)) (some_vector model ts))
    (union-state model ts y (merge_all xs (classes_at model 4 t 0)) (all && fits_vector (classes_of model t)) (some || is_vector (classes_of model t)) f.1 h
    (next-state xs (classes_at model 4 t 0) (classes_of model t) all some s (member-said model t f.0 (omega arith))))

-- what comes of it
spoilt_none : (xs : List Class) → Spoilt xs → one_vector xs ≡ false
unfolding same
spoilt_none [] h = refl
spoilt_none (Sse ∷ []) (inl h) = absurd (false≢true h)
spoilt_none (Sse ∷ []) (inr h) = absurd (false≢true h)
spoilt_none (Sse ∷ SseUp ∷ xs) (inl h) = absurd (false≢true h)
spoilt_none (Sse ∷ SseUp ∷ xs) (inr h) = absurd (false≢true h)
spoilt_none (Sse ∷ NoClass ∷ xs) h = refl
spoilt_none (Sse ∷ Integer ∷ xs) h = refl
spoilt_none (Sse ∷ Sse ∷ xs) h = refl
spoilt_none (Sse ∷ X87 ∷ xs) h = refl
spoilt_none (Sse ∷ X87Up ∷ xs) h = refl
spoilt_none (Sse ∷ ComplexX87 ∷ xs) h = refl
spoilt_none (Sse ∷ Memory ∷ xs) h = refl
spoilt_none (NoClass ∷ xs) h = refl
spoilt_none (Integer ∷ xs) h = refl
spoilt_none (SseUp ∷ xs) h = refl
spoilt_none (X87 ∷ xs) h = refl
spoilt_none (X87Up ∷ xs) h = refl
spoilt_none (ComplexX87 ∷ xs) h = refl
spoilt_none (Memory ∷ xs) h = refl

state-one : (xs : List Class) (all some : Bool) → State xs all some → one_vector xs ≡ (all && some)
unfolding same
state-one xs _ _ (nothing e) = ap one_vector e
state-one xs _ _ (lower b p e) = ap one_vector e ∙ and-false (same b SseUp)
state-one xs _ _ (full e) = ap one_vector e
state-one xs _ _ (spoilt some h) = spoilt_none xs h

-- an aggregate of 32 bytes, by what its members merge to
vector-shown : shown (clean_up vector) ≡ vector
unfolding shown clean_up same up_alone settled
vector-shown = refl

memory-shown : shown (Memory ∷ NoClass ∷ NoClass ∷ NoClass ∷ []) ≡ memory
unfolding shown same
memory-shown = refl

union_end : (model : Model) (ts : Tys) → end_of model ts true 0 ≤ size_ty model (union ts)
unfolding size_ty
union_end model ts = raise-not_below (align_tys model ts) (end_of model ts true 0) (aligns-low model ts)

closed-four : (cs : List Class) → length cs ≡ 4 → shown (closed 0 32 cs) ≡ cond (one_vector cs) vector memory
unfolding shown closed eightbytes_in
closed-four [] p = absurd (omega arith)
closed-four (a ∷ []) p = absurd (omega arith)
closed-four (a ∷ b ∷ []) p = absurd (omega arith)
closed-four (a ∷ b ∷ c ∷ []) p = absurd (omega arith)
closed-four (a ∷ b ∷ c ∷ d ∷ e ∷ cs) p = absurd (omega arith)
closed-four (a ∷ b ∷ c ∷ d ∷ []) p = by (one_vector (a ∷ b ∷ c ∷ d ∷ [])) refl
  where
    by : (v : Bool) → one_vector (a ∷ b ∷ c ∷ d ∷ []) ≡ v
        → shown (cond (not (one_vector (a ∷ b ∷ c ∷ d ∷ []))) (memory_of (a ∷ b ∷ c ∷ d ∷ [])) (clean_up (a ∷ b ∷ c ∷ d ∷ []))) ≡ cond (one_vector (a ∷ b ∷ c ∷ d ∷ [])) vector memory
    by true e = rw e (ap (λ (x : List Class). shown (clean_up x)) (vector-is a (b ∷ c ∷ d ∷ []) e) ∙ vector-shown)
    by false e = rw e memory-shown

pub union-vector : (model : Model) (ts : Tys) → SomeFilled ts → size_ty model (union ts) ≡ 32 → classes_of model (union ts) ≡ cond (each_fits model ts && some_vector model ts) vector memory
unfolding classes_at
union-vector model ts f e =
    let cs = members_at model 4 ts true 0 0 (no_classes 4) in
    let s = union-state model ts 0 (no_classes 4) true false (some-all ts f) (omega (arith, e, union_end model ts)) (nothing refl) in
    classes-thirtytwo model (union ts) e
    ∙ ap (λ (n : ℕ). shown (closed 0 n (members_at model 4 ts true 0 0 (no_classes 4)))) e
    ∙ closed-four cs (length-members model 4 ts true 0 0 (no_classes 4) refl)
    ∙ ap (λ (b : Bool). cond b vector memory) (state-one cs _ _ s)

-- ---- structs: of one member, as a union of it; of more, none of which can have 32 bytes

offset-first : (model : Model) (t : Ty) → offset_after false 0 (align_ty model t) ≡ offset_after true 0 (align_ty model t)
unfolding offset_after
offset-first model t = omega (arith, raise-least (align_ty model t) 0 0 (align-low model t) (omega arith))

abbrev Under : Model → Tys → Type 0
Under m none = Unit {0}
Under m (more t ts) = (size_ty m t < 32) × Under m ts

offset-behind : (model : Model) (t : Ty) (x : ℕ) → x ≤ offset_after false x (align_ty model t)
unfolding offset_after
offset-behind model t x = raise-not_below (align_ty model t) x (align-low model t)

later-under : (model : Model) (ts : Tys) (x : ℕ) → AllFilled ts → 1 ≤ x → end_of model ts false x ≤ 32 → Under model ts
unfolding AllFilled end_of
later-under model none x f p l = tt
later-under model (more t ts) x f p l =
    let mine = end_member false x (align_ty model t) (size_ty model t) in
    let rest = ends_low model ts false (end_after false x (align_ty model t) (size_ty model t)) in
    (omega (arith, offset-behind model t x), later-under model ts (end_after false x (align_ty model t) (size_ty model t)) f.1 (omega (arith, end_low false x (align_ty model t) (size_ty model t))) l)

two-under : (model : Model) (t u : Ty) (us : Tys) → AllFilled (more t (more u us)) → end_of model (more t (more u us)) false 0 ≤ 32 → Under model (more t (more u us))
unfolding AllFilled end_of
two-under model t u us f l =
    let y = end_after false 0 (align_ty model t) (size_ty model t) in
    let mine = end_member false 0 (align_ty model t) (size_ty model t) in
    let next = end_member false (end_after false 0 (align_ty model t) (size_ty model t)) (align_ty model u) (size_ty model u) in
    let rest = ends_low model us false (end_after false (end_after false 0 (align_ty model t) (size_ty model t)) (align_ty model u) (size_ty model u)) in
    let at = offset-behind model u (end_after false 0 (align_ty model t) (size_ty model t)) in
    let some = size_low model u f.1.0 in
    (omega arith, later-under model (more u us) (end_after false 0 (align_ty model t) (size_ty model t)) f.1 (omega (arith, size_low model t f.0)) l)

-- nothing under 32 bytes is a vector
small-none : (model : Model) (t : Ty) → size_ty model t ≤ 16 → is_vector (classes_of model t) ≡ false
small-none model t l = ap (λ (n : ℕ). ltb 2 n) (ap length (small-classes model t l) ∙ length_at model 2 t 0)

aggregate_none : (model : Model) (t : Ty) → Filled t → is_aggregate t ≡ true → size_ty model t < 32 → (b : Bool) → ltb 16 (size_ty model t) ≡ b → is_vector (classes_of model t) ≡ false
aggregate_none model t f a h false e = small-none model t (ltb-false 16 (size_ty model t) e)
aggregate_none model t f a h true e = by (wide_or_memory model t f a (ltb-true 16 (size_ty model t) e))
  where
    by : Over (classes_of model t) (size_ty model t) → is_vector (classes_of model t) ≡ false
    by (inl i) = ap is_vector i
    by (inr (i, n)) = absurd (omega (arith, n, h))

under_none : (model : Model) (t : Ty) → Filled t → size_ty model t < 32 → is_vector (classes_of model t) ≡ false
unfolding Filled size_ty basic_size
under_none model (basic code) f h = by (basic-sort model code f)
  where
    by : (basic_size model code ≤ 16) ⊎ ((code ≡ 14) ⊎ (code ≡ 16)) → is_vector (classes_of model (basic code)) ≡ false
    by (inl l) = small-none model (basic code) l
    by (inr (inl e)) = ap (λ (c : ℕ). is_vector (classes_of model (basic c))) e ∙ ap is_vector (complex_classes model)
    by (inr (inr e)) = absurd (let s : basic_size model code ≡ 32 = ap (basic_size model) e in omega arith)
under_none model (array t n) f h = aggregate_none model (array t n) f refl h (ltb 16 (size_ty model (array t n))) refl
under_none model (struct ts) f h = aggregate_none model (struct ts) f refl h (ltb 16 (size_ty model (struct ts))) refl
under_none model (union ts) f h = aggregate_none model (union ts) f refl h (ltb 16 (size_ty model (union ts))) refl

all_none : (model : Model) (ts : Tys) → AllFilled ts → Under model ts → some_vector model ts ≡ false
unfolding AllFilled
all_none model none f u = refl
all_none model (more t ts) f u = rw (under_none model t f.0 u.0) (all_none model ts f.1 u.1)

-- nor does it bring SSEUP into the third eightbyte
abbrev NoThird : List Class → Type 0
NoThird xs = same (get_or xs 2 NoClass) SseUp ≡ true → ⊥

merge_third : (xs ys : List Class) → NoThird xs → NoThird ys → NoThird (merge_all xs ys)
merge_third xs ys f g h = or_cases _ _ _ (merge_up (get_or xs 2 NoClass) (get_or ys 2 NoClass) (rw (all-at xs ys 2) at h)) f g

type-third : (model : Model) (t : Ty) (q : ℕ) → Filled t → q % align_ty model t ≡ 0 → size_ty model t < 32 → NoThird (classes_at model 4 t q)
type-third model t q f m l h = let w = (type-lie model 4 t q f m 2 h).1 (omega arith) in omega arith

members-third : (model : Model) (ts : Tys) (u : Bool) (x : ℕ) (xs : List Class) → AllFilled ts → Under model ts → NoThird xs → NoThird (members_at model 4 ts u x 0 xs)
unfolding AllFilled members_at
members-third model none u x xs f w n = n
members-third model (more t ts) u x xs f w n =
    let q = 0 + offset_after u x (align_ty model t) in
    members-third model ts u (end_after u x (align_ty model t) (size_ty model t)) (merge_all xs (classes_at model 4 t q)) f.1 w.1
    (merge_third xs (classes_at model 4 t q) n
    (type-third model t q f.0 (plus_aligned (align_ty model t) 0 (offset_after u x (align_ty model t)) (zero-mod (align_ty model t)) (offset-aligned u x (align_ty model t))) w.0))

third_none : (cs : List Class) → length cs ≡ 4 → NoThird cs → one_vector cs ≡ false
third_none [] p n = refl
third_none (a ∷ []) p n = absurd (omega arith)
third_none (a ∷ b ∷ []) p n = absurd (omega arith)
third_none (a ∷ b ∷ c ∷ []) p n = absurd (omega arith)
third_none (a ∷ b ∷ c ∷ d ∷ e ∷ cs) p n = absurd (omega arith)
third_none (a ∷ b ∷ c ∷ d ∷ []) p n = by (one_vector (a ∷ b ∷ c ∷ d ∷ [])) refl
  where
    by : (v : Bool) → one_vector (a ∷ b ∷ c ∷ d ∷ []) ≡ v → v ≡ false
    by false e = refl
    by true e = absurd (n (third 4 a b c d (omega arith) e))

struct-classes : (model : Model) (ts : Tys) → size_ty model (struct ts) ≡ 32 → classes_of model (struct ts) ≡ cond (one_vector (members_at model 4 ts false 0 0 (no_classes 4))) vector memory
unfolding classes_at
struct-classes model ts e =
    classes-thirtytwo model (struct ts) e
    ∙ ap (λ (n : ℕ). shown (closed 0 n (members_at model 4 ts false 0 0 (no_classes 4)))) e
    ∙ closed-four (members_at model 4 ts false 0 0 (no_classes 4)) (length-members model 4 ts false 0 0 (no_classes 4) refl)

none-third : NoThird (no_classes 4)
unfolding same
none-third h = absurd (false≢true h)

struct-end : (model : Model) (ts : Tys) → end_of model ts false 0 ≤ size_ty model (struct ts)
unfolding size_ty
struct-end model ts = raise-not_below (align_tys model ts) (end_of model ts false 0) (aligns-low model ts)

one_size : (model : Model) (t : Ty) → size_ty model (struct (more t none)) ≡ size_ty model (union (more t none))
unfolding size_ty end_after
one_size model t = ap (λ (n : ℕ). raise (align_tys model (more t none)) (max 0 (n + size_ty model t))) (offset-first model t)

one-merged : (model : Model) (t : Ty) → members_at model 4 (more t none) false 0 0 (no_classes 4) ≡ members_at model 4 (more t none) true 0 0 (no_classes 4)
unfolding members_at
one-merged model t = ap (λ (n : ℕ). merge_all (no_classes 4) (classes_at model 4 t (0 + n))) (offset-first model t)

pub struct-vector : (model : Model) (ts : Tys) → SomeFilled ts → size_ty model (struct ts) ≡ 32 → classes_of model (struct ts) ≡ cond (each_fits model ts && some_vector model ts) vector memory
unfolding SomeFilled classes_at
struct-vector model none f e = absurd f
struct-vector model (more t none) f e =
    let is : size_ty model (union (more t none)) ≡ 32 = sym (one_size model t) ∙ e in
    struct-classes model (more t none) e
    ∙ ap (λ (x : List Class). cond (one_vector x) vector memory) (one-merged model t)
    ∙ sym (classes-thirtytwo model (union (more t none)) is
    ∙ ap (λ (n : ℕ). shown (closed 0 n (members_at model 4 (more t none) true 0 0 (no_classes 4)))) is
    ∙ closed-four (members_at model 4 (more t none) true 0 0 (no_classes 4)) (length-members model 4 (more t none) true 0 0 (no_classes 4) refl))
    ∙ union-vector model (more t none) f is
struct-vector model (more t (more u us)) f e =
    let w = two-under model t u us f (omega (arith, e, struct-end model (more t (more u us)))) in
    struct-classes model (more t (more u us)) e
    ∙ ap (λ (b : Bool). cond b vector memory)
    (third_none (members_at model 4 (more t (more u us)) false 0 0 (no_classes 4)) (length-members model 4 (more t (more u us)) false 0 0 (no_classes 4) refl)
    (members-third model (more t (more u us)) false 0 (no_classes 4) f w none-third)
    ∙ sym (ap (λ (b : Bool). each_fits model (more t (more u us)) && b) (all_none model (more t (more u us)) f w) ∙ and-false (each_fits model (more t (more u us)))))

-- ---- arrays: of one element, as a union of it; of more, none of which can have 32 bytes

elements_third : (f : ℕ → List Class) (a s : ℕ) → s % a ≡ 0 → ((q : ℕ) → q % a ≡ 0 → NoThird (f q)) → (n q : ℕ) (xs : List Class) → q % a ≡ 0 → NoThird xs → NoThird (elements_at f s n q xs)
unfolding elements_at
elements_third f a s d each zero q xs m h = h
elements_third f a s d each (suc n) q xs m h = elements_third f a s d each n (q + s) (merge_all xs (f q)) (plus_aligned a q s m d) (merge_third xs (f q) h (each q m))

array-classes : (model : Model) (t : Ty) (n : ℕ) → size_ty model (array t n) ≡ 32 → classes_of model (array t n) ≡ cond (one_vector (elements_at (classes_at model 4 t) (size_ty model t) n 0 (no_classes 4))) vector memory
unfolding classes_at
array-classes model t n e =
    classes-thirtytwo model (array t n) e
    ∙ ap (λ (k : ℕ). shown (closed 0 k (elements_at (classes_at model 4 t) (size_ty model t) n 0 (no_classes 4)))) e
    ∙ closed-four (elements_at (classes_at model 4 t) (size_ty model t) n 0 (no_classes 4)) (length-elements 4 (classes_at model 4 t) (size_ty model t) (λ q. length_at model 4 t q) n 0 (no_classes 4) refl)

element-under : (s n : ℕ) → 1 ≤ s → s * suc (suc n) ≡ 32 → s < 32
element-under s n l e = omega (arith, mul-suc s (suc n), mul-suc s n)

-- a vector fits
vector-fits : (xs cs : List Class) → Said xs cs → (fits_vector cs && is_vector cs) ≡ is_vector cs
vector-fits xs cs (low b p e f v) = rw (f, v)
vector-fits xs cs (whole e f v) = rw (f, v)
vector-fits xs cs (bad h f v) = rw (f, v)

pub array-vector : (model : Model) (t : Ty) (n : ℕ) → Filled (array t n) → size_ty model (array t n) ≡ 32 → classes_of model (array t n) ≡ cond (is_vector (classes_of model t)) vector memory
unfolding Filled size_ty elements_at
array-vector model t zero f e = absurd (omega (arith, f.1))
array-vector model t (suc zero) f e =
    let size : size_ty model t ≡ 32 = omega (arith, mul-suc (size_ty model t) 0) in
    let said = member-said model t f.0 (omega arith) in
    array-classes model t 1 e
    ∙ ap (λ (b : Bool). cond b vector memory) (state-one _ _ _ (next-state (no_classes 4) (classes_at model 4 t 0) (classes_of model t) true false (nothing refl) said) ∙ vector-fits _ _ said)
array-vector model t (suc (suc n)) f e =
    let small = element-under (size_ty model t) n (size_low model t f.0) e in
    array-classes model t (suc (suc n)) e
    ∙ ap (λ (b : Bool). cond b vector memory)
    (third_none (elements_at (classes_at model 4 t) (size_ty model t) (suc (suc n)) 0 (no_classes 4)) (length-elements 4 (classes_at model 4 t) (size_ty model t) (λ q. length_at model 4 t q) (suc (suc n)) 0 (no_classes 4) refl)
    (elements_third (classes_at model 4 t) (align_ty model t) (size_ty model t) (align-divides model t) (λ q m. type-third model t q f.0 m small) (suc (suc n)) 0 (no_classes 4) (zero-mod (align_ty model t)) none-third)
    ∙ sym (under_none model t f.0 small))
