-- What demand 2 says of classes: the table, clean-up rule by rule, and the equations of the classification. Assumes nothing.
use mathlib.Core.Path.{◌≡◌, refl, sym, ap, ◌∙◌}
use mathlib.Core.Logic.{◌⊎◌}
use mathlib.Core.Bool.{Bool, true, false, cond, not, ◌&&◌, ◌||◌, true≢false}
use mathlib.Core.List.{List, [], ◌∷◌, map}
use Prim.Native.Nat.{ℕ, zero, suc, ◌+◌, ◌/◌, ◌<◌}
use native.Mathlib.Nat.{add-zero}
use native.Mathlib.Omega.{arith}
use borrow.Author.Tests.{lt-ltb}
use lib.Dec.{ltb}
use lib.ListN.{length, get_or, set}
use Rattle.description.specs.declared.Model.{Model}
use Rattle.description.specs.declared.Model.TheVariants.{Lp64, Ilp32}
use Rattle.units.specs.Raise.{raise}
use Rattle.addresses.specs.Addresses.{run}
use Rattle.description.specs.Description.{kind_at, a_at, count_at, member_at, model_in}
use Rattle.types.specs.Tree.{Ty, basic, array, Tys, none, more, group}
use Rattle.types.specs.Basic.{basic_size, basic_align}
use Rattle.types.specs.Size.{align_ty, size_ty, offset_after, end_after}
use Rattle.types.specs.Decode.{tys_from, ty_by, ty_at}
use Rattle.types.proofs.Codes.{each-code}
use Rattle.types.proofs.Laws.{type-filled}
use Rattle.classes.specs.declared.Class.{Class}
use Rattle.classes.specs.declared.Class.TheVariants.{NoClass, Integer, Sse, SseUp, X87, X87Up, ComplexX87, Memory}
use Rattle.classes.specs.Classes.{same, is_x87, no_classes, merge_of, merge_all}
use Rattle.classes.specs.CleanUp.{any_memory, up_alone, any_up_alone, settled, none_for, memory_of, clean_up, all_ups, one_vector}
use Rattle.classes.proofs.Laws.{merge_none, merge_commutes, or_right}
use Rattle.classes.proofs.Ups.{settle_at, clean_follows}
use Rattle.classify.specs.Classify.{first_class, second_class, gap, one_class, vector_at, basic_at, elements_at, eightbytes_in, own, closed, classes_at, members_at, is_aggregate, eightbytes_of, shown, memory, classes_of}
use Rattle.classify.specs.Vectors.{vector}
use Rattle.classify.specs.Cases.{cases as class_cases}
use Rattle.classify.proofs.Covered.{closed-small}
use Rattle.classify.proofs.Wide.{held, wide_or_memory as over-two-eightbytes}
use Rattle.questions.specs.Questions.{question_refusal}
use Rattle.questions.proofs.Questions.{answered-sized}
use Rattle.promises.specs.Demand2.{class_table, pieces, pieces_at, before, UpAlone, CleansUp, Closes, merged_in, element_offsets, member_classes, classed}

and-false : (b : Bool) → (b && false) ≡ false
and-false true = refl
and-false false = refl

-- ---- the table

pub class_table_lem : (model : Model) → map (λ code. classes_of model (basic code)) (run 0 17) ≡ class_table
unfolding basic_size size_ty eightbytes_in eightbytes_of shown classes_of classes_at vector_at basic_at one_class first_class second_class gap merge_all merge_of is_x87 same
class_table_lem Lp64 = refl
class_table_lem Ilp32 = refl

-- NO_CLASS put among others changes nothing, and nothing is merged by it
set-none : (n k : ℕ) → set (no_classes n) k NoClass ≡ no_classes n
set-none zero k = refl
set-none (suc n) zero = refl
set-none (suc n) (suc k) = ap (λ (cs : List Class). NoClass ∷ cs) (set-none n k)

none-merged : (n : ℕ) → merge_all (no_classes n) (no_classes n) ≡ no_classes n
unfolding merge_all
none-merged zero = refl
none-merged (suc n) = rw (merge_none NoClass, none-merged n) refl

merge_nothing : (n k : ℕ) (c : Class) → merge_all (set (no_classes n) k c) (no_classes n) ≡ set (no_classes n) k c
unfolding merge_all
merge_nothing zero k c = refl
merge_nothing (suc n) zero c = rw (merge_none c, none-merged n) refl
merge_nothing (suc n) (suc k) c = rw (merge_none NoClass, merge_nothing n k c) refl

-- a basic type of one piece, of two, and of four in a row
one : (n o : ℕ) (c : Class) → merge_all (one_class n o c) (one_class n (o + 0) NoClass) ≡ pieces_at n o ((0, c) ∷ [])
unfolding one_class
one n o c = rw (set-none n ((o + 0) / 8), add-zero) refl

two : (n o g : ℕ) (a b : Class) → merge_all (one_class n o a) (one_class n (o + g) b) ≡ pieces_at n o ((0, a) ∷ (g, b) ∷ [])
unfolding one_class
two n o g a b = rw (merge_nothing n ((o + g) / 8) b, add-zero) refl

none_first : (a b : Class) → merge_of (merge_of NoClass a) b ≡ merge_of NoClass (merge_of a b)
none_first a b = rw (merge_commutes NoClass a, merge_none a, merge_commutes NoClass (merge_of a b), merge_none (merge_of a b)) refl

nothing-first : (n : ℕ) (xs ys : List Class) → merge_all (merge_all (no_classes n) xs) ys ≡ merge_all (no_classes n) (merge_all xs ys)
unfolding merge_all
nothing-first zero xs ys = refl
nothing-first (suc n) [] ys = refl
nothing-first (suc n) (x ∷ xs) [] = refl
nothing-first (suc n) (x ∷ xs) (y ∷ ys) = rw (none_first x y, nothing-first n xs ys) refl

in_a_row : (n j : ℕ) (a b c e : Class)
    → merge_all (merge_all (set (no_classes n) j a) (set (no_classes n) (suc j) b)) (merge_all (set (no_classes n) (suc (suc j)) c) (set (no_classes n) (suc (suc (suc j))) e))
    ≡ merge_all (set (no_classes n) j a) (merge_all (set (no_classes n) (suc j) b) (merge_all (set (no_classes n) (suc (suc j)) c) (set (no_classes n) (suc (suc (suc j))) e)))
unfolding merge_all
in_a_row zero j a b c e = refl
in_a_row (suc n) zero a b c e =
    rw (merge_none a, merge_none NoClass, merge_none NoClass, merge_none a, nothing-first n (set (no_classes n) 0 b) (merge_all (set (no_classes n) 1 c) (set (no_classes n) 2 e))) refl
in_a_row (suc n) (suc j) a b c e = rw (merge_none NoClass, merge_none NoClass, merge_none NoClass, in_a_row n j a b c e) refl

four : (n o : ℕ) → vector_at n o ≡ pieces_at n o ((0, Sse) ∷ (8, SseUp) ∷ (16, SseUp) ∷ (24, SseUp) ∷ [])
unfolding vector_at one_class
four n o =
    let p : (o + 8) / 8 ≡ suc (o / 8) = omega arith in
    let q : (o + 16) / 8 ≡ suc (suc (o / 8)) = omega arith in
    let r : (o + 24) / 8 ≡ suc (suc (suc (o / 8))) = omega arith in
    rw (add-zero, p, q, r, merge_nothing n (suc (suc (suc (o / 8)))) SseUp) (in_a_row n (o / 8) Sse SseUp SseUp SseUp)

pub basic_at_lem : (model : Model) (n code o : ℕ) → code < 17 → classes_at model n (basic code) o ≡ pieces_at n o (get_or pieces code [])
unfolding classes_at basic_at first_class second_class gap
basic_at_lem model n code o h =
    each-code (λ k. classes_at model n (basic k) o ≡ pieces_at n o (get_or pieces k []))
    (one n o Integer, (one n o Integer, (one n o Integer, (one n o Integer, (one n o Integer, (two n o 8 Integer Integer, (one n o Sse, (one n o Sse, (two n o 8 X87 X87Up, (two n o 8 Sse SseUp, (one n o Sse, (two n o 8 Sse SseUp, (two n o 4 Sse Sse, (two n o 8 Sse Sse, (one n o ComplexX87, (one n o Integer, (four n o, tt)))))))))))))))))
    code h

-- ---- clean-up

none-up : same NoClass X87Up ≡ false
unfolding same
none-up = refl

-- an X87UP alone is found, wherever it stands, p being the class before the list
found : (p : Class) (cs : List Class) (i : ℕ) → same (get_or cs i NoClass) X87Up ≡ true → same (get_or (p ∷ cs) i NoClass) X87 ≡ false → any_up_alone p cs ≡ true
unfolding up_alone
found p [] i u a = absurd (true≢false (sym u ∙ none-up))
found p (c ∷ cs) zero u a = rw (u, a) refl
found p (c ∷ cs) (suc i) u a = or_right (up_alone p c) (any_up_alone c cs) (found c cs i u a)

-- and where none stands alone, none is found
not_found : (p : Class) (cs : List Class) → ((i : ℕ) → same (get_or cs i NoClass) X87Up ≡ true → same (get_or (p ∷ cs) i NoClass) X87 ≡ false → ⊥) → any_up_alone p cs ≡ false
unfolding up_alone
not_found p [] h = refl
not_found p (c ∷ cs) h = rw (here (same c X87Up) (same p X87) refl refl, not_found c cs (λ i. h (suc i))) refl
  where
    here : (b d : Bool) → same c X87Up ≡ b → same p X87 ≡ d → (same c X87Up && not (same p X87)) ≡ false
    here true false e f = absurd (h 0 e f)
    here true true e f = rw (e, f) refl
    here false d e f = rw e refl

-- what becomes of a class behind another
loose-settled : (p a : Class) → (same a SseUp && not (same p Sse || same p SseUp)) ≡ true → settled p a ≡ Sse
unfolding settled
loose-settled p a = by (same a SseUp) (same p Sse) (same p SseUp) refl refl refl
  where
    by : (x y z : Bool) → same a SseUp ≡ x → same p Sse ≡ y → same p SseUp ≡ z → (same a SseUp && not (same p Sse || same p SseUp)) ≡ true
        → cond (same a SseUp) (cond (same p Sse) a (cond (same p SseUp) a Sse)) a ≡ Sse
    by true false false e f g t = rw (e, f, g) refl
    by true true z e f g t = absurd (true≢false (sym t ∙ rw (e, f) refl))
    by true false true e f g t = absurd (true≢false (sym t ∙ rw (e, f, g) refl))
    by false y z e f g t = absurd (true≢false (sym t ∙ rw e refl))

bound_settled : (p a : Class) → (same a SseUp && not (same p Sse || same p SseUp)) ≡ false → settled p a ≡ a
unfolding settled
bound_settled p a = by (same a SseUp) (same p Sse) (same p SseUp) refl refl refl
  where
    by : (x y z : Bool) → same a SseUp ≡ x → same p Sse ≡ y → same p SseUp ≡ z → (same a SseUp && not (same p Sse || same p SseUp)) ≡ false
        → cond (same a SseUp) (cond (same p Sse) a (cond (same p SseUp) a Sse)) a ≡ a
    by true false false e f g t = absurd (true≢false (rw (e, f, g) at t))
    by true true z e f g t = rw (e, f) refl
    by true false true e f g t = rw (e, f, g) refl
    by false y z e f g t = rw e refl

module _ (cs : List Class) where
  -- no MEMORY, and no X87UP alone: each class is settled
  settled-all : any_memory cs ≡ false → ((i : ℕ) → UpAlone cs i → ⊥) → (i : ℕ) → get_or (clean_up cs) i NoClass ≡ settled (before cs i) (get_or cs i NoClass)
  unfolding clean_up
  settled-all m h i = rw (m, not_found NoClass cs (λ j u a. h j (record { up = u; alone = a }))) (settle_at NoClass cs i)

  up-memory : any_memory cs ≡ false → (i : ℕ) → UpAlone cs i → clean_up cs ≡ memory_of cs
  unfolding clean_up
  up-memory m i u = rw (m, found NoClass cs i u.up u.alone) refl

  any_memory_lem : any_memory cs ≡ true → clean_up cs ≡ memory_of cs
  unfolding clean_up
  any_memory_lem m = rw m refl

  pub cleans_up : CleansUp cs
  cleans_up = record {
    memory = any_memory_lem;
    up_alone_lem = up-memory;
    settles = λ m h i l. settled-all m h i ∙ loose-settled (before cs i) (get_or cs i NoClass) l;
    stays = λ m h i l. settled-all m h i ∙ bound_settled (before cs i) (get_or cs i NoClass) l;
    ups = clean_follows cs;
  }

pub whole_memory : (a : Class) (cs : List Class) → memory_of (a ∷ cs) ≡ Memory ∷ no_classes (length cs)
whole_memory a cs = ap (λ (rest : List Class). Memory ∷ rest) (none-for cs)
  where
    none-for : (rest : List Class) → none_for rest ≡ no_classes (length rest)
    none-for [] = refl
    none-for (b ∷ rest) = ap (λ (x : List Class). NoClass ∷ x) (none-for rest)

-- ---- over two eightbytes

not_ups : (cs : List Class) (i : ℕ) → i < length cs → same (get_or cs i NoClass) SseUp ≡ false → all_ups cs ≡ false
not_ups [] i l e = absurd (omega arith)
not_ups (c ∷ cs) zero l e = rw e refl
not_ups (c ∷ cs) (suc i) l e = rw (not_ups cs i (omega arith) e) (and-false (same c SseUp))

all_up : (cs : List Class) → ((i : ℕ) → i < length cs → same (get_or cs i NoClass) SseUp ≡ true) → all_ups cs ≡ true
all_up [] h = refl
all_up (c ∷ cs) h = rw (h 0 (omega arith), all_up cs (λ i l. h (suc i) (omega arith))) refl

not_first : (cs : List Class) → same (get_or cs 0 NoClass) Sse ≡ false → one_vector cs ≡ false
not_first [] e = refl
not_first (c ∷ cs) e = rw e refl

not_later : (cs : List Class) (i : ℕ) → suc i < length cs → same (get_or cs (suc i) NoClass) SseUp ≡ false → one_vector cs ≡ false
not_later [] i l e = absurd (omega arith)
not_later (c ∷ cs) i l e = rw (not_ups cs i (omega arith) e) (and-false (same c Sse))

none-sse : same NoClass Sse ≡ false
unfolding same
none-sse = refl

is-vector : (cs : List Class) → same (get_or cs 0 NoClass) Sse ≡ true → ((i : ℕ) → suc i < length cs → same (get_or cs (suc i) NoClass) SseUp ≡ true) → one_vector cs ≡ true
is-vector [] e h = absurd (true≢false (sym e ∙ none-sse))
is-vector (c ∷ cs) e h = rw (e, all_up cs (λ i l. h i (omega arith))) refl

module _ (o s : ℕ) (cs : List Class) where
  closed-memory : 16 < s → one_vector (own o s cs) ≡ false → closed o s cs ≡ memory_of cs
  unfolding closed
  closed-memory l e = rw (lt-ltb 16 s l, e) refl

  closed-vector : one_vector (own o s cs) ≡ true → closed o s cs ≡ clean_up cs
  unfolding closed
  closed-vector e = rw e (by (ltb 16 s))
    where
      by : (b : Bool) → cond (b && false) (memory_of cs) (clean_up cs) ≡ clean_up cs
      by true = refl
      by false = refl

  pub closes : Closes o s cs
  closes = record {
    first = λ l e. closed-memory l (not_first (own o s cs) e);
    later = λ l i m e. closed-memory l (not_later (own o s cs) i m e);
    vector = λ e h. closed-vector (is-vector (own o s cs) e h);
    small = closed-small o s cs;
  }

-- ---- the equations of the classification

elements : (f : ℕ → List Class) (s n o : ℕ) (sofar : List Class) → elements_at f s n o sofar ≡ merged_in sofar (map f (element_offsets s n o))
unfolding elements_at
elements f s zero o sofar = refl
elements f s (suc n) o sofar = elements f s n (o + s) (merge_all sofar (f o))

pub array_at : (model : Model) (n : ℕ) (t : Ty) (count o : ℕ)
    → classes_at model n (array t count) o ≡ closed o (size_ty model (array t count)) (merged_in (no_classes n) (map (classes_at model n t) (element_offsets (size_ty model t) count o)))
unfolding classes_at
array_at model n t count o = ap (closed o (size_ty model (array t count))) (elements (classes_at model n t) (size_ty model t) count o (no_classes n))

members-merged : (model : Model) (n : ℕ) (u : Bool) (ts : Tys) (o x : ℕ) (sofar : List Class) → members_at model n ts u x o sofar ≡ merged_in sofar (member_classes model n u ts o x)
unfolding members_at member_classes
members-merged model n u none o x sofar = refl
members-merged model n u (more t ts) o x sofar =
    members-merged model n u ts o (end_after u x (align_ty model t) (size_ty model t)) (merge_all sofar (classes_at model n t (o + offset_after u x (align_ty model t))))

pub group_at : (model : Model) (n : ℕ) (u : Bool) (ts : Tys) (o : ℕ)
    → classes_at model n (group u ts) o ≡ closed o (size_ty model (group u ts)) (merged_in (no_classes n) (member_classes model n u ts o 0))
unfolding classes_at
group_at model n true ts o = ap (closed o (size_ty model (group true ts))) (members-merged model n true ts o 0 (no_classes n))
group_at model n false ts o = ap (closed o (size_ty model (group false ts))) (members-merged model n false ts o 0 (no_classes n))

pub over_eight : (model : Model) (t : Ty) → is_aggregate t ≡ true → 64 < size_ty model t → classes_of model t ≡ memory
unfolding classes_of
over_eight model t a l = rw (a, lt-ltb 64 (size_ty model t) l) refl

pub whole : (model : Model) (t : Ty) → (is_aggregate t && ltb 64 (size_ty model t)) ≡ false → classes_of model t ≡ shown (classes_at model (eightbytes_of model t) t 0)
unfolding classes_of
whole model t e = rw e refl

pub two_or_four : (d : List ℕ) (t : ℕ) → question_refusal d t ≡ 0 → (length (classes_of (model_in d) (ty_at d t)) ≡ 2) ⊎ (classes_of (model_in d) (ty_at d t) ≡ vector)
two_or_four d t e = held (model_in d) (ty_at d t) (type-filled d t (answered-sized d t e))

pub wide_or_memory : (d : List ℕ) (t : ℕ) → question_refusal d t ≡ 0 → is_aggregate (ty_at d t) ≡ true → 16 < size_ty (model_in d) (ty_at d t)
    → (classes_of (model_in d) (ty_at d t) ≡ memory) ⊎ ((classes_of (model_in d) (ty_at d t) ≡ vector) × (size_ty (model_in d) (ty_at d t) ≡ 32))
wide_or_memory d t e a l = over-two-eightbytes (model_in d) (ty_at d t) (type-filled d t (answered-sized d t e)) a l

pub all-classed : map classed class_cases ≡ class_cases
unfolding class_cases raise kind_at a_at count_at member_at same is_x87 merge_of merge_all up_alone settled clean_up basic_size basic_align align_ty size_ty offset_after end_after tys_from ty_by ty_at first_class second_class gap one_class vector_at basic_at elements_at eightbytes_in closed classes_at eightbytes_of shown classes_of
all-classed = refl
