-- Each type that an accepted description reaches is one of its types: so the tidy form has no more. Assumes nothing.
use mathlib.Core.Path.{◌≡◌, refl, sym, ap, ◌∙◌}
use mathlib.Core.Bool.{Bool, true, false, cond}
use mathlib.Core.List.{List, [], ◌∷◌, ◌++◌}
use mathlib.Core.Logic.{◌⊎◌, inl, inr}
use Prim.Native.Nat.{ℕ, zero, suc, ◌+◌, ◌≤◌, ◌<◌}
use native.Mathlib.Nat.{eq-or-lt_of_le}
use native.Mathlib.Omega.{arith}
use lib.Dec.{eqb}
use lib.ListN.{length, length-append, get_or-append}
use lib.Seq.{get_or-append_seam}
use Rattle.description.specs.Description.{types_in, return_in, arguments_in, argument_at, kind_at, a_at, count_at, member_at, model_in}
use Rattle.types.specs.Tree.{Ty, Tys, basic, array, struct, union, none, more, group}
use Rattle.types.specs.Decode.{tys_from, ty_at}
use Rattle.types.specs.Large.{types_refusal}
use Rattle.types.specs.Asks.{Sized}
use Rattle.types.proofs.Records.{View, v0, v1, v2, view}
use Rattle.types.proofs.Trees.{sized-ruled, at-basic, at-array, at-group}
use Rattle.types.proofs.Large.{accepted-sized}
use Rattle.uses.specs.Uses.{uses_refusal}
use Rattle.uses.proofs.Uses.{accepted-types, accepted-typed, accepted-return, right-below}
use Rattle.layout.specs.Arguments.{is_void}
use Rattle.tidying.specs.Call.{void, returned, trees_from, returned_by, call_of}
use Rattle.tidying.specs.Numbering.{index_of, completed, reached, reached_all, reached_by, reached_from, table_of}
use Rattle.tidying.specs.Ordered.{at, Ordered}
use Rattle.tidying.proofs.Tables.{at-index, index_at, completed-old, completed-new, There, there, absent, look}
use Rattle.tidying.proofs.Reached.{table-right}
use Rattle.tidying.proofs.Few.{few}

-- a type of the description
pub record Known (d : List ℕ) (t : Ty) : Type 0 where
  pub number : ℕ
  pub below : number < types_in d
  pub is : ty_at d number ≡ t

unfoldable pub AllKnown : List ℕ → Tys → Type 0
AllKnown d none = Unit {0}
AllKnown d (more t ts) = Known d t × AllKnown d ts

-- each type of a table is one of the description's
abbrev pub Every : List ℕ → List Ty → Type 0
Every d a = (k : ℕ) → k < length a → Known d (at a k)

module _ (d : List ℕ) (right : types_refusal d ≡ 0) where
  sized : (k : ℕ) → k < types_in d → Sized (model_in d) d k
  sized = accepted-sized d right

  members-known : (i n : ℕ) → ((j : ℕ) → i ≤ j → j < i + n → member_at d j < types_in d) → AllKnown d (tys_from (ty_at d) d i n)
  unfolding tys_from AllKnown
  members-known i zero h = tt
  members-known i (suc n) h =
      (record { number = member_at d i; below = h i (omega arith) (omega arith); is = refl }, members-known (i + 1) n (λ j p q. h j (omega arith) (omega arith)))

  element-known : (t : Ty) (n : ℕ) → Known d (array t n) → Known d t
  element-known t n k = by (view (kind_at d k.number))
    where
      grouped : (b : Bool) (ts : Tys) → group b ts ≡ array t n → ⊥
      grouped true ts e = let z : ◌≡◌ {A = ℕ} 0 1 = cc in omega arith
      grouped false ts e = let z : ◌≡◌ {A = ℕ} 0 1 = cc in omega arith

      by : View (kind_at d k.number) → Known d t
      by (v0 e) =
          let q = sym (at-basic d k.number (sized k.number k.below) e) ∙ k.is in
          let z : ◌≡◌ {A = ℕ} 0 1 = cc in absurd (omega arith)
      by (v1 e) =
          let q = sym (at-array d k.number (sized k.number k.below) e) ∙ k.is in
          record {
            number = a_at d k.number;
            below = omega (arith, k.below, (sized-ruled d k.number (sized k.number k.below)).element e);
            is = cc;
          }
      by (v2 e) = absurd (grouped (eqb (kind_at d k.number) 3) (tys_from (ty_at d) d (a_at d k.number) (count_at d k.number)) (sym (at-group d k.number (sized k.number k.below) e) ∙ k.is))

  group-known : (u : Bool) (ts : Tys) → Known d (group u ts) → AllKnown d ts
  group-known u ts k = by (view (kind_at d k.number))
    where
      not_basic : (u : Bool) (c : ℕ) → basic c ≡ group u ts → ⊥
      not_basic true c e = let z : ◌≡◌ {A = ℕ} 0 1 = cc in omega arith
      not_basic false c e = let z : ◌≡◌ {A = ℕ} 0 1 = cc in omega arith

      not_array : (u : Bool) (t : Ty) (n : ℕ) → array t n ≡ group u ts → ⊥
      not_array true t n e = let z : ◌≡◌ {A = ℕ} 0 1 = cc in omega arith
      not_array false t n e = let z : ◌≡◌ {A = ℕ} 0 1 = cc in omega arith

      same : (b u : Bool) (ss : Tys) → group b ss ≡ group u ts → ss ≡ ts
      same true true ss e = cc
      same true false ss e = let z : ◌≡◌ {A = ℕ} 0 1 = cc in absurd (omega arith)
      same false true ss e = let z : ◌≡◌ {A = ℕ} 0 1 = cc in absurd (omega arith)
      same false false ss e = cc

      by : View (kind_at d k.number) → AllKnown d ts
      by (v0 e) = absurd (not_basic u (a_at d k.number) (sym (at-basic d k.number (sized k.number k.below) e) ∙ k.is))
      by (v1 e) = absurd (not_array u (ty_at d (a_at d k.number)) (count_at d k.number) (sym (at-array d k.number (sized k.number k.below) e) ∙ k.is))
      by (v2 e) =
          let q : tys_from (ty_at d) d (a_at d k.number) (count_at d k.number) ≡ ts = same (eqb (kind_at d k.number) 3) u (tys_from (ty_at d) d (a_at d k.number) (count_at d k.number)) (sym (at-group d k.number (sized k.number k.below) e) ∙ k.is) in
          rw (← q)
          (members-known (a_at d k.number) (count_at d k.number) (λ j a b.
          omega (arith, k.below, (sized-ruled d k.number (sized k.number k.below)).member e j a b)))

  pub every-completed : (a : List Ty) (t : Ty) → Every d a → Known d t → Every d (completed a t)
  every-completed a t p q = by (look a t)
    where
      which : (k : ℕ) → (k ≡ length a) ⊎ (k < length a) → Known d (at (a ++ t ∷ []) k)
      which k (inl e) = rw (e, get_or-append_seam a t [] (basic 0)) q
      which k (inr l) = rw (get_or-append a (t ∷ []) (basic 0) k l) (p k l)

      by : There a t → Every d (completed a t)
      by (there h) = rw (completed-old a t h) p
      by (absent h) = rw (completed-new a t h) (λ k l. which k (eq-or-lt_of_le {n = k} {m = length a} (omega (arith, length-append a (t ∷ [])))))

  mutual
    unfolding reached reached_all AllKnown

    every-reached : (a : List Ty) (t : Ty) → Every d a → Known d t → Every d (reached a t)
    every-reached a (basic c) p q = every-completed a (basic c) p q
    every-reached a (array t n) p q = every-completed (reached a t) (array t n) (every-reached a t p (element-known t n q)) q
    every-reached a (struct ts) p q = every-completed (reached_all a ts) (struct ts) (every-all a ts p (group-known false ts q)) q
    every-reached a (union ts) p q = every-completed (reached_all a ts) (union ts) (every-all a ts p (group-known true ts q)) q

    every-all : (a : List Ty) (ts : Tys) → Every d a → AllKnown d ts → Every d (reached_all a ts)
    every-all a none p q = p
    every-all a (more t ts) p q = every-all (reached a t) ts (every-reached a t p q.0) q.1

  every-from : (a : List Ty) (i n : ℕ) → Every d a → ((j : ℕ) → i ≤ j → j < i + n → argument_at d j < types_in d) → Every d (reached_from a (trees_from d i n))
  unfolding reached_from trees_from
  every-from a i zero p h = p
  every-from a i (suc n) p h =
      every-from (reached a (ty_at d (argument_at d i))) (i + 1) n
      (every-reached a (ty_at d (argument_at d i)) p (record { number = argument_at d i; below = h i (omega arith) (omega arith); is = refl }))
      (λ j x y. h j (omega arith) (omega arith))

  -- all types of the description, in a list
  list : ℕ → ℕ → List Ty
  list i zero = []
  list i (suc n) = ty_at d i ∷ list (i + 1) n

  length-list : (i n : ℕ) → length (list i n) ≡ n
  unfolding list
  length-list i zero = refl
  length-list i (suc n) = ap suc (length-list (i + 1) n)

  list_at : (i n j : ℕ) → j < n → at (list i n) j ≡ ty_at d (i + j)
  unfolding list
  list_at i zero j h = absurd (omega arith)
  list_at i (suc n) zero h = let q : i + 0 ≡ i = omega arith in rw q
  list_at i (suc n) (suc j) h = let q : i + suc j ≡ i + 1 + j = omega arith in rw q (list_at (i + 1) n j (omega arith))

  known-low : (t : Ty) → Known d t → index_of (list 0 (types_in d)) t < types_in d
  known-low t k =
      let q : 0 + k.number ≡ k.number = omega arith in
      let e : at (list 0 (types_in d)) k.number ≡ t = list_at 0 (types_in d) k.number k.below ∙ rw q k.is in
      let b = rw e at (index_at (list 0 (types_in d)) k.number (omega (arith, k.below, length-list 0 (types_in d)))) in
      omega (arith, b, k.below)

  -- no more types than the description has
  pub table-few : (a : List Ty) → Ordered a → Every d a → length a ≤ types_in d
  table-few a o p =
      few (types_in d) (length a) (λ k. index_of (list 0 (types_in d)) (at a k)) (λ k l. known-low (at a k) (p k l)) (λ i j l m e.
      let x = at-index (list 0 (types_in d)) (at a i) (omega (arith, known-low (at a i) (p i l), length-list 0 (types_in d))) in
      let y = at-index (list 0 (types_in d)) (at a j) (omega (arith, known-low (at a j) (p j m), length-list 0 (types_in d))) in
      let z : at a i ≡ at a j = cc in
      sym (o.once i l) ∙ ap (index_of a) z ∙ o.once j m)

module _ (d : List ℕ) (right : uses_refusal d ≡ 0) where
  every-return : Every d (reached_by [] (returned_by d))
  unfolding reached_by returned_by is_void
  every-return = by (eqb (return_in d) 255) refl
    where
      by : (b : Bool) → eqb (return_in d) 255 ≡ b → Every d (reached_by [] (cond b void (returned (ty_at d (return_in d)))))
      by true e = λ k l. absurd (omega arith)
      by false e = every-reached d (accepted-types d right) [] (ty_at d (return_in d)) (λ k l. absurd (omega arith)) (record { number = return_in d; below = right-below d (return_in d) (accepted-return d right e); is = refl })

  -- each type of the tidy form is one of the description's
  pub table-known : Every d (table_of (call_of d))
  unfolding table_of call_of
  table-known = every-from d (accepted-types d right) (reached_by [] (returned_by d)) 0 (arguments_in d) every-return (λ j x y. (accepted-typed d right).below j (omega arith))

  -- T' ≤ T
  pub table-no_more : length (table_of (call_of d)) ≤ types_in d
  table-no_more = table-few d (accepted-types d right) (table_of (call_of d)) (table-right (call_of d)).ordered table-known
