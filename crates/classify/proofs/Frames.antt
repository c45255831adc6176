-- A type of at most 16 bytes has the same classes in a frame of four eightbytes, and nothing behind them. Assumes nothing.
use mathlib.Core.Path.{◌≡◌, refl, sym, ap, ap₂, ◌∙◌}
use mathlib.Core.Bool.{Bool, true, false, cond}
use mathlib.Core.List.{List, [], ◌∷◌, ◌++◌}
use Prim.Native.Nat.{ℕ, zero, suc, ◌+◌, ◌*◌, ◌/◌, ◌≤◌, ◌<◌}
use native.Mathlib.Nat.{mul-suc}
use native.Mathlib.Omega.{arith}
use lib.ListN.{length, set}
use Rattle.description.specs.declared.Model.{Model}
use Rattle.classes.specs.declared.Class.{Class}
use Rattle.classes.specs.declared.Class.TheVariants.{NoClass}
use Rattle.classes.specs.Classes.{same, is_x87, no_classes, merge_of, merge_all}
use Rattle.classes.specs.CleanUp.{any_memory, up_alone, any_up_alone, settled, settle_all, memory_of, clean_up}
use Rattle.types.specs.Tree.{Ty, Tys, basic, array, struct, union, none, more}
use Rattle.types.specs.Basic.{basic_size}
use Rattle.types.specs.Size.{size_ty, align_ty, end_of, end_after, offset_after}
use Rattle.types.specs.Filled.{Filled, AllFilled}
use Rattle.types.proofs.Sizes.{end_member, ends_low}
use Rattle.classify.specs.Classify.{first_class, second_class, gap, one_class, basic_at, elements_at, closed, classes_at, members_at}
use Rattle.classify.proofs.Alone.{end_within}
use Rattle.classify.proofs.Covered.{some-all, closed-small, basic-narrow}
use Rattle.classify.proofs.Ends.{gap_within}
use Rattle.classify.proofs.Lengths.{length_at, length-merge, length-put, length-elements, length-members}

-- and two eightbytes without a class
abbrev pub longer : List Class → List Class
longer cs = cs ++ (NoClass ∷ NoClass ∷ [])

set_longer : (i : ℕ) (c : Class) → i < 2 → set (no_classes 4) i c ≡ longer (set (no_classes 2) i c)
set_longer zero c h = refl
set_longer (suc zero) c h = refl
set_longer (suc (suc i)) c h = absurd (omega arith)

put-longer : (o : ℕ) (c : Class) → o < 16 → one_class 4 o c ≡ longer (one_class 2 o c)
unfolding one_class
put-longer o c h = set_longer (o / 8) c (omega arith)

merge_longer : (xs ys : List Class) → length xs ≡ 2 → length ys ≡ 2 → merge_all (longer xs) (longer ys) ≡ longer (merge_all xs ys)
unfolding same is_x87 merge_of merge_all
merge_longer [] ys p q = absurd (omega arith)
merge_longer (x ∷ []) ys p q = absurd (omega arith)
merge_longer (x ∷ w ∷ z ∷ xs) ys p q = absurd (omega arith)
merge_longer (x ∷ w ∷ []) [] p q = absurd (omega arith)
merge_longer (x ∷ w ∷ []) (y ∷ []) p q = absurd (omega arith)
merge_longer (x ∷ w ∷ []) (y ∷ v ∷ z ∷ ys) p q = absurd (omega arith)
merge_longer (x ∷ w ∷ []) (y ∷ v ∷ []) p q = refl

clean_longer : (cs : List Class) → length cs ≡ 2 → clean_up (longer cs) ≡ longer (clean_up cs)
unfolding same up_alone settled clean_up
clean_longer [] p = absurd (omega arith)
clean_longer (a ∷ []) p = absurd (omega arith)
clean_longer (a ∷ b ∷ c ∷ cs) p = absurd (omega arith)
clean_longer (a ∷ b ∷ []) p = by (any_memory (a ∷ b ∷ [])) (any_up_alone NoClass (a ∷ b ∷ []))
  where
    by : (m x : Bool)
        → cond m (memory_of (a ∷ b ∷ NoClass ∷ NoClass ∷ [])) (cond x (memory_of (a ∷ b ∷ NoClass ∷ NoClass ∷ [])) (settle_all NoClass (a ∷ b ∷ NoClass ∷ NoClass ∷ [])))
        ≡ longer (cond m (memory_of (a ∷ b ∷ [])) (cond x (memory_of (a ∷ b ∷ [])) (settle_all NoClass (a ∷ b ∷ []))))
    by true x = refl
    by false true = refl
    by false false = refl

basic-longer : (model : Model) (code o : ℕ) → code < 17 → o + basic_size model code ≤ 16 → basic_at 4 code o ≡ longer (basic_at 2 code o)
unfolding basic_at one_class
basic-longer model code o k l =
    let g = gap_within model code k in
    rw (basic-narrow model code (omega arith))
    (ap₂ merge_all (put-longer o (first_class code) (omega arith)) (put-longer (o + gap code) (second_class code) (omega arith))
    ∙ merge_longer (one_class 2 o (first_class code)) (one_class 2 (o + gap code) (second_class code)) (length-put 2 o (first_class code)) (length-put 2 (o + gap code) (second_class code)))

closed-longer : (o s : ℕ) (xs cs : List Class) → s ≤ 16 → length cs ≡ 2 → xs ≡ longer cs → closed o s xs ≡ longer (closed o s cs)
closed-longer o s xs cs l p e = closed-small o s xs l ∙ ap clean_up e ∙ clean_longer cs p ∙ ap longer (sym (closed-small o s cs l))

elements_longer : (f g : ℕ → List Class) (s : ℕ) → ((q : ℕ) → length (f q) ≡ 2) → ((q : ℕ) → q + s ≤ 16 → g q ≡ longer (f q)) → (n q : ℕ) → q + s * n ≤ 16
    → (xs cs : List Class) → length cs ≡ 2 → xs ≡ longer cs → elements_at g s n q xs ≡ longer (elements_at f s n q cs)
unfolding elements_at
elements_longer f g s two each zero q l xs cs p e = e
elements_longer f g s two each (suc n) q l xs cs p e =
    elements_longer f g s two each n (q + s) (omega (arith, mul-suc s n)) (merge_all xs (g q)) (merge_all cs (f q)) (length-merge 2 cs (f q) p (two q))
    (ap₂ merge_all e (each q (omega (arith, mul-suc s n))) ∙ merge_longer cs (f q) p (two q))

mutual
  unfolding Filled AllFilled size_ty classes_at

  pub frame-four : (model : Model) (t : Ty) (o : ℕ) → Filled t → o + size_ty model t ≤ 16 → classes_at model 4 t o ≡ longer (classes_at model 2 t o)
  frame-four model (basic code) o f l = basic-longer model code o f l
  frame-four model (array t n) o f l =
      closed-longer o (size_ty model (array t n)) _ _ (omega arith) (length-elements 2 (classes_at model 2 t) (size_ty model t) (λ q. length_at model 2 t q) n o (no_classes 2) refl)
      (elements_longer (classes_at model 2 t) (classes_at model 4 t) (size_ty model t) (λ q. length_at model 2 t q) (λ q h. frame-four model t q f.0 h) n o l (no_classes 4) (no_classes 2) refl refl)
  frame-four model (struct ts) o f l =
      closed-longer o (size_ty model (struct ts)) _ _ (omega arith) (length-members model 2 ts false 0 o (no_classes 2) refl)
      (members-four model ts false 0 o (some-all ts f) (end_within model ts false o 16 l) (no_classes 4) (no_classes 2) refl refl)
  frame-four model (union ts) o f l =
      closed-longer o (size_ty model (union ts)) _ _ (omega arith) (length-members model 2 ts true 0 o (no_classes 2) refl)
      (members-four model ts true 0 o (some-all ts f) (end_within model ts true o 16 l) (no_classes 4) (no_classes 2) refl refl)

  members-four : (model : Model) (ts : Tys) (u : Bool) (x o : ℕ) → AllFilled ts → o + end_of model ts u x ≤ 16 → (xs cs : List Class) → length cs ≡ 2 → xs ≡ longer cs
      → members_at model 4 ts u x o xs ≡ longer (members_at model 2 ts u x o cs)
  members-four model none u x o f l xs cs p e = e
  members-four model (more t ts) u x o f l xs cs p e =
      let y = end_after u x (align_ty model t) (size_ty model t) in
      let q = o + offset_after u x (align_ty model t) in
      let low = ends_low model ts u (end_after u x (align_ty model t) (size_ty model t)) in
      let mine = end_member u x (align_ty model t) (size_ty model t) in
      members-four model ts u y o f.1 l (merge_all xs (classes_at model 4 t q)) (merge_all cs (classes_at model 2 t q)) (length-merge 2 cs (classes_at model 2 t q) p (length_at model 2 t q))
      (ap₂ merge_all e (frame-four model t q f.0 (omega arith)) ∙ merge_longer cs (classes_at model 2 t q) p (length_at model 2 t q))
