-- What the proofs of the functions on aggregates over two eightbytes cite, over plain values (request 2026-06). Assumes nothing.
use mathlib.Core.Path.{◌≡◌, refl, sym, ap, ◌∙◌}
use mathlib.Core.Bool.{Bool, true, false, cond, ◌&&◌, ◌||◌, or-false, or_assoc}
use mathlib.Core.List.{List}
use mathlib.Core.Logic.{inl, inr}
use Prim.Native.Nat.{ℕ, zero, suc, ◌+◌, ◌-◌, ◌/◌, ◌%◌, ◌≤◌, ◌<◌}
use native.Mathlib.Omega.{arith}
use lib.Dec.{eqb}
use lib.ListN.{get_or}
use Rattle.description.specs.Description.{kind_at, a_at, count_at, member_at, model_in}
use Rattle.description.specs.declared.Model.{Model}
use Rattle.classes.specs.declared.Class.{Class}
use Rattle.classes.specs.Classes.{code_of, same}
use Rattle.types.specs.Tree.{Tys, more, array, group}
use Rattle.types.specs.Size.{size_ty}
use Rattle.types.specs.Filled.{Filled}
use Rattle.types.specs.Decode.{ty_at, tys_from}
use Rattle.types.specs.Asks.{Sized, SizedRun}
use Rattle.types.proofs.Laws.{type-filled}
use Rattle.types.proofs.Runs.{member-low, run_step, element-low, group-is}
use Rattle.types.proofs.Trees.{at-array}
use Rattle.classify.specs.Classify.{memory, classes_of}
use Rattle.classify.specs.Vectors.{vector, Over, is_vector, fits_vector, each_fits, some_vector}
use Rattle.classify.specs.Table.{class_by, pair_in, wide_in, unpacked_of, packed_of, asks_of, word_of, Classed}
use Rattle.classify.proofs.Steps.{is-aggregate}
use Rattle.classify.proofs.Table.{unpacked_wide, unpacked_pair, pair-wide, vector-said}
use Rattle.classify.proofs.Wide.{wide_or_memory}
use Rattle.classify.proofs.Vectors.{union-vector, struct-vector, array-vector}

-- a word that fits, by the numbers of its two classes

code-back : (n : ℕ) → n < 8 → code_of (class_by n) ≡ n
unfolding class_by
code-back zero l = refl
code-back (suc zero) l = refl
code-back (suc (suc zero)) l = refl
code-back (suc (suc (suc zero))) l = refl
code-back (suc (suc (suc (suc zero)))) l = refl
code-back (suc (suc (suc (suc (suc zero))))) l = refl
code-back (suc (suc (suc (suc (suc (suc zero)))))) l = refl
code-back (suc (suc (suc (suc (suc (suc (suc zero))))))) l = refl
code-back (suc (suc (suc (suc (suc (suc (suc (suc n)))))))) l = absurd (omega arith)

fits-pair : (x : ℕ) → fits_vector (unpacked_of x) ≡ fits_vector (pair_in x)
unfolding same
fits-pair x = by (wide_in x) refl
  where
    by : (b : Bool) → wide_in x ≡ b → fits_vector (unpacked_of x) ≡ fits_vector (pair_in x)
    by true e = ap fits_vector (unpacked_wide x e) ∙ sym (ap fits_vector (pair-wide x e))
    by false e = ap fits_vector (unpacked_pair x e)

pub fits_word : (x : ℕ) → fits_vector (unpacked_of x) ≡ (eqb (x % 8) 2 && (eqb (x / 8 % 8) 0 || eqb (x / 8 % 8) 3))
unfolding pair_in same
fits_word x = fits-pair x ∙ rw (code-back (x % 8) (omega arith), code-back (x / 8 % 8) (omega arith))

-- the members of type k, one after the other: `some` says whether one before them is a vector

abbrev pub together : Model → Tys → Bool → Bool
together m ts some = each_fits m ts && (some || some_vector m ts)

pub together-none : (d : List ℕ) (i n : ℕ) (some whole : Bool) → n ≡ 0 → together (model_in d) (tys_from (ty_at d) d i n) some ≡ whole → some ≡ whole
unfolding tys_from
together-none d i n some whole e h = sym (or-false some) ∙ (rw e at h)

module _ (d t : List ℕ) (k i n : ℕ) (p : SizedRun (model_in d) d k i n 0 1) (w : Classed d t k) (pos : 1 ≤ n) (member : ℕ) (em : member ≡ member_at d i) where
  is : unpacked_of (get_or t member 0 / 524288) ≡ classes_of (model_in d) (ty_at d member)
  is = w.classes member (member-low d k i n 0 1 p pos member em)

  step : tys_from (ty_at d) d i n ≡ more (ty_at d member) (tys_from (ty_at d) d (i + 1) (n - 1))
  step = run_step d k i n 0 1 p pos member em

  pub together-not : (some whole : Bool) → fits_vector (unpacked_of (get_or t member 0 / 524288)) ≡ false → together (model_in d) (tys_from (ty_at d) d i n) some ≡ whole → false ≡ whole
  together-not some whole f h =
      let no : fits_vector (classes_of (model_in d) (ty_at d member)) ≡ false = ap fits_vector (sym is) ∙ f in
      rw (step, no) at h

  pub together-next : (some next whole : Bool) → fits_vector (unpacked_of (get_or t member 0 / 524288)) ≡ true → next ≡ (some || wide_in (get_or t member 0 / 524288))
      → together (model_in d) (tys_from (ty_at d) d i n) some ≡ whole → together (model_in d) (tys_from (ty_at d) d (i + 1) (n - 1)) next ≡ whole
  together-next some next whole f en h =
      let yes : fits_vector (classes_of (model_in d) (ty_at d member)) ≡ true = ap fits_vector (sym is) ∙ f in
      let mark : wide_in (get_or t member 0 / 524288) ≡ is_vector (classes_of (model_in d) (ty_at d member)) = sym (vector-said (get_or t member 0 / 524288)) ∙ ap is_vector is in
      rw (en, mark, or_assoc some (is_vector (classes_of (model_in d) (ty_at d member))) (some_vector (model_in d) (tys_from (ty_at d) d (i + 1) (n - 1)))) (rw (step, yes) at h)

-- an aggregate of 32 bytes, by its kind

group-vector : (m : Model) (u : Bool) (ts : Tys) → Filled (group u ts) → size_ty m (group u ts) ≡ 32 → classes_of m (group u ts) ≡ cond (each_fits m ts && some_vector m ts) vector memory
unfolding Filled
group-vector m true ts f e = union-vector m ts f e
group-vector m false ts f e = struct-vector m ts f e

module _ (d t : List ℕ) (k a : ℕ) (s : Sized (model_in d) d k) (size : size_ty (model_in d) (ty_at d k) ≡ 32) (w : Classed d t k) (ea : a ≡ a_at d k) where
  pub array_whole : kind_at d k ≡ 1 → (r : Bool) → r ≡ wide_in (get_or t a 0 / 524288) → classes_of (model_in d) (ty_at d k) ≡ cond r vector memory
  array_whole one r er =
      let e : ty_at d k ≡ array (ty_at d a) (count_at d k) = at-array d k s one ∙ rw (← ea) in
      let mark : r ≡ is_vector (classes_of (model_in d) (ty_at d a)) = er ∙ sym (vector-said (get_or t a 0 / 524288)) ∙ ap is_vector (w.classes a (element-low d k a s ea one)) in
      rw mark (ap (classes_of (model_in d)) e ∙ array-vector (model_in d) (ty_at d a) (count_at d k) (rw e at (type-filled d k s)) (sym (ap (size_ty (model_in d)) e) ∙ size))

  pub group-whole : (n : ℕ) → n ≡ count_at d k → 2 ≤ kind_at d k → n < 65536 → (r : Bool)
      → r ≡ (each_fits (model_in d) (tys_from (ty_at d) d a n) && some_vector (model_in d) (tys_from (ty_at d) d a n)) → classes_of (model_in d) (ty_at d k) ≡ cond r vector memory
  group-whole n en two few r er =
      let e : ty_at d k ≡ group (eqb (kind_at d k) 3) (tys_from (ty_at d) d a n) = group-is d k a s ea n en two few in
      rw er (ap (classes_of (model_in d)) e ∙ group-vector (model_in d) (eqb (kind_at d k) 3) (tys_from (ty_at d) d a n) (rw e at (type-filled d k s)) (sym (ap (size_ty (model_in d)) e) ∙ size))

-- the whole

pub vector-word : (cs : List Class) → cs ≡ vector → 2074 ≡ word_of cs
unfolding word_of packed_of asks_of same
vector-word cs e = rw e

pub memory_word : (cs : List Class) → cs ≡ memory → 967 ≡ word_of cs
unfolding word_of packed_of asks_of same
memory_word cs e = rw e

module _ (d : List ℕ) (k : ℕ) (s : Sized (model_in d) d k) (aggregate : kind_at d k ≡ 0 → ⊥) where
  pub other-memory : 16 < size_ty (model_in d) (ty_at d k) → (size_ty (model_in d) (ty_at d k) ≡ 32 → ⊥) → classes_of (model_in d) (ty_at d k) ≡ memory
  other-memory l n = by (wide_or_memory (model_in d) (ty_at d k) (type-filled d k s) (is-aggregate d k s aggregate) l)
    where
      by : Over (classes_of (model_in d) (ty_at d k)) (size_ty (model_in d) (ty_at d k)) → classes_of (model_in d) (ty_at d k) ≡ memory
      by (inl i) = i
      by (inr (i, e)) = absurd (n e)
