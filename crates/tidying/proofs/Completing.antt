-- What the functions that number types cite, over plain values. Assumes nothing.
use mathlib.Core.Path.{◌≡◌, refl, sym, ap, ◌∙◌}
use mathlib.Core.Bool.{Bool, true, false, cond, ◌&&◌, true≢false}
use mathlib.Core.List.{List, [], ◌∷◌}
use mathlib.Core.Logic.{◌⊎◌, inl, inr}
use Prim.Native.Nat.{ℕ, zero, suc, ◌+◌, ◌-◌, ◌≤◌, ◌<◌}
use native.Mathlib.Nat.{eq-or-lt_of_le}
use native.Mathlib.Numerals.{add-one}
use native.Mathlib.Omega.{arith}
use borrow.Author.Tests.{eq-eqb, ne_eqb, eqb-true, eqb-false, leb-true}
use lib.Dec.{eqb, leb}
use lib.ListN.{length, get_or, set, length-append, length-set}
use lib.Seq.{get_or-set_same, get_or-set_other}
use Rattle.description.specs.Description.{types_in, argument_at, kind_at, a_at, count_at, member_at, Whole, model_in}
use Rattle.form.specs.Search.{first_from}
use Rattle.form.proofs.Search.{first_holds, first-least}
use Rattle.form.specs.Conditions.{broken_record, broken_run}
use Rattle.form.proofs.Form.{accepted-counts, accepted-whole}
use Rattle.types.specs.Tree.{Ty, Tys, group}
use Rattle.types.specs.Decode.{tys_from, ty_at}
use Rattle.types.specs.Asks.{Sized}
use Rattle.types.proofs.Records.{View, v0, v1, v2, view}
use Rattle.types.proofs.Trees.{sized-ruled, at-basic, at-array, at-group, tys_step}
use Rattle.types.proofs.Large.{accepted-form, accepted-sized}
use Rattle.uses.proofs.Uses.{accepted-types}
use Rattle.tidying.specs.Same.{same_ty, same_tys}
use Rattle.tidying.specs.Call.{trees_from}
use Rattle.tidying.specs.Numbering.{index_of, completed, reached, reached_from}
use Rattle.tidying.specs.Ordered.{at, Ordered}
use Rattle.tidying.specs.Asks.{Has, tabled, Parts, Numbers, AskRuns, AskSame, Completable, Onward, unnumbered, AskMembers, AskNew, Lowest, blanks, Numbered}
use Rattle.tidying.specs.Tidy.{kind_of, count_of, many_of}
use Rattle.tidying.proofs.Accepted.{many-from}
use Rattle.tidying.specs.Equal.{same_true, same_self}
use Rattle.tidying.proofs.Tables.{index_bound, index_snoc, completed-old, completed-new, completed-grows, Grows}
use Rattle.tidying.proofs.Reached.{completed-ordered}
use Rattle.tidying.proofs.Known.{table-few, every-completed}
use Rattle.tidying.proofs.Walk.{reached-there, reached-first}
use Rattle.tidying.proofs.Numbers.{tabled-length, tabled-at, tabled-same, index_found, index_none, numbers-every, numbers-few, numbers_apart, numbers-low, parts_below, onward, numbered_more, blanks-less, numbers_more}

-- ---- completing a type

both : (d new old : List ℕ) (n k v : ℕ) (s : Numbers d new old n) (ask : Completable d new k) (small : v < 255) (now : List ℕ) (m : ℕ) (room : length now ≡ 64)
    → tabled d now m ≡ completed (tabled d old n) (ty_at d k) → v ≡ index_of (completed (tabled d old n) (ty_at d k)) (ty_at d k)
    → ((j : ℕ) → j < m → (get_or now j 0 ≡ k) ⊎ ((get_or now j 0 < types_in d) × Has new (get_or now j 0)))
    → Numbers d (set new k v) now m × Numbered d k new (set new k v) now m (completed (tabled d old n) (ty_at d k))
both d new old n k v s ask small now m room is got known = (numbers_more d new old n k v s ask small now m room is got known, numbered_more d new old n k v s ask small now m room is got known)

module _ (d new old : List ℕ) (n k : ℕ) (s : Numbers d new old n) (ask : Completable d new k) where
  pub complete_old : (v : ℕ) → v ≡ index_of (tabled d old n) (ty_at d k) → v < n → Numbers d (set new k v) old n × Numbered d k new (set new k v) old n (completed (tabled d old n) (ty_at d k))
  complete_old v e l =
      let q = completed-old (tabled d old n) (ty_at d k) (omega (arith, e, l, tabled-length d old n)) in
      both d new old n k v s ask (omega (arith, l, numbers-few d new old n s, numbers-low d new old n s)) old n s.room (sym q) (rw q e) (λ j h. inr (s.olds j h, s.done j h))

  pub complete_new : (v : ℕ) → v ≡ index_of (tabled d old n) (ty_at d k) → v ≡ n → n < 64 → Numbers d (set new k v) (set old n k) (n + 1) × Numbered d k new (set new k v) (set old n k) (n + 1) (completed (tabled d old n) (ty_at d k))
  unfolding tabled
  complete_new v e l h =
      let r = s.room in
      let q = completed-new (tabled d old n) (ty_at d k) (omega (arith, e, l, tabled-length d old n)) in
      both d new old n k v s ask (omega (arith, l, h)) (set old n k) (n + 1) (length-set old n k ∙ r)
      (rw (add-one n, tabled-same d old (set old n k) n (λ j p. get_or-set_other old n j k 0 (λ z. omega (arith, z, p))), get_or-set_same old n k 0 (omega (arith, h, r))) (sym q))
      (rw q (l ∙ sym (tabled-length d old n) ∙ sym (index_snoc (tabled d old n) (ty_at d k) (omega (arith, e, l, tabled-length d old n)))))
      (λ j p. which j (eq-or-lt_of_le {n = j} {m = n} (omega arith)))
    where
      which : (j : ℕ) → (j ≡ n) ⊎ (j < n) → (get_or (set old n k) j 0 ≡ k) ⊎ ((get_or (set old n k) j 0 < types_in d) × Has new (get_or (set old n k) j 0))
      which j (inl z) = inl (rw z (get_or-set_same old n k 0 (omega (arith, h, s.room))))
      which j (inr z) = inr (rw (get_or-set_other old n j k 0 (λ w. omega (arith, w, z))) (s.olds j z, s.done j z))

  -- there is room for one more where it is new
  pub complete_room : n ≡ index_of (tabled d old n) (ty_at d k) → n < 64
  complete_room e =
      let q = completed-new (tabled d old n) (ty_at d k) (omega (arith, e, tabled-length d old n)) in
      let m = table-few d (accepted-types d s.right) (completed (tabled d old n) (ty_at d k))
      (completed-ordered (tabled d old n) s.ordered (ty_at d k) (parts_below d new old n s k ask.known ask.parts))
      (every-completed d (accepted-types d s.right) (tabled d old n) (ty_at d k) (numbers-every d new old n s) (record { number = k; below = ask.known; is = refl })) in
      omega (arith, m, ap length q, length-append (tabled d old n) (ty_at d k ∷ []), tabled-length d old n, numbers-low d new old n s)

-- ---- the same types

pub other-types : (t s : Ty) → (t ≡ s → ⊥) → same_ty t s ≡ false
other-types t s h = by (same_ty t s) refl
  where
    by : (b : Bool) → same_ty t s ≡ b → same_ty t s ≡ false
    by true e = absurd (h (same_true t s e))
    by false e = e

module _ (d new : List ℕ) (x y left : ℕ) (ask : AskRuns d new x y left) where
  runs-step : 0 < left → same_tys (tys_from (ty_at d) d x left) (tys_from (ty_at d) d y left) ≡ (same_ty (ty_at d (member_at d x)) (ty_at d (member_at d y)) && same_tys (tys_from (ty_at d) d (x + 1) (left - 1)) (tys_from (ty_at d) d (y + 1) (left - 1)))
  unfolding same_tys
  runs-step h = rw (tys_step (ty_at d) d x left h, tys_step (ty_at d) d y left h)

  pub runs_none : left ≡ 0 → same_tys (tys_from (ty_at d) d x left) (tys_from (ty_at d) d y left) ≡ true
  unfolding same_tys tys_from
  runs_none e = rw e

  module _ (some : 0 < left) where
    first_below : (member_at d x < types_in d) × (member_at d y < types_in d)
    first_below =
        let p : x + 0 ≡ x = omega arith in
        let q : y + 0 ≡ y = omega arith in
        rw (p, q) at (ask.below 0 some)

    first-have : Has new (member_at d x) × Has new (member_at d y)
    first-have =
        let p : x + 0 ≡ x = omega arith in
        let q : y + 0 ≡ y = omega arith in
        rw (p, q) at (ask.have 0 some)

    pub runs-low : (member_at d x < 64) × (member_at d y < 64)
    runs-low = (omega (arith, first_below.0, ask.few), omega (arith, first_below.1, ask.few))

    pub runs-rest : AskRuns d new (x + 1) (y + 1) (left - 1)
    runs-rest = record {
      whole = ask.whole;
      few = ask.few;
      apart = ask.apart;
      one = omega (arith, ask.one);
      other = omega (arith, ask.other);
      below = λ i l. let p : x + 1 + i ≡ x + (i + 1) = omega arith in let q : y + 1 + i ≡ y + (i + 1) = omega arith in rw (p, q) (ask.below (i + 1) (omega arith));
      have = λ i l. let p : x + 1 + i ≡ x + (i + 1) = omega arith in let q : y + 1 + i ≡ y + (i + 1) = omega arith in rw (p, q) (ask.have (i + 1) (omega arith));
    }

    pub runs_same : get_or new (member_at d x) 0 ≡ get_or new (member_at d y) 0
        → same_tys (tys_from (ty_at d) d (x + 1) (left - 1)) (tys_from (ty_at d) d (y + 1) (left - 1)) ≡ same_tys (tys_from (ty_at d) d x left) (tys_from (ty_at d) d y left)
    runs_same e =
        let z = ask.apart.same (member_at d x) (member_at d y) first_below.0 first_below.1 first-have.0 first-have.1 e in
        sym (runs-step some ∙ rw (z, same_self (ty_at d (member_at d y))))

    pub runs_other : (get_or new (member_at d x) 0 ≡ get_or new (member_at d y) 0 → ⊥) → same_tys (tys_from (ty_at d) d x left) (tys_from (ty_at d) d y left) ≡ false
    runs_other h =
        runs-step some
        ∙ rw (other-types (ty_at d (member_at d x)) (ty_at d (member_at d y)) (λ e. h (ask.apart.equal (member_at d x) (member_at d y) first_below.0 first_below.1 first-have.0 first-have.1 e)))

-- the runs from one place of both on
pub runs_on : (d new : List ℕ) (a b count i : ℕ) → AskRuns d new a b count → i ≤ count → AskRuns d new (a + i) (b + i) (count - i)
runs_on d new a b count i ask l = record {
  whole = ask.whole;
  few = ask.few;
  apart = ask.apart;
  one = omega (arith, ask.one);
  other = omega (arith, ask.other);
  below = λ j h. let p : a + i + j ≡ a + (i + j) = omega arith in let q : b + i + j ≡ b + (i + j) = omega arith in rw (p, q) (ask.below (i + j) (omega arith));
  have = λ j h. let p : a + i + j ≡ a + (i + j) = omega arith in let q : b + i + j ≡ b + (i + j) = omega arith in rw (p, q) (ask.have (i + j) (omega arith));
}

both-groups : (u : Bool) (ts ss : Tys) → same_ty (group u ts) (group u ss) ≡ same_tys ts ss
unfolding same_ty
both-groups true ts ss = refl
both-groups false ts ss = refl

-- what a record says of its tree
module _ (d : List ℕ) (k : ℕ) (z : Sized (model_in d) d k) where
  pub kind-top : kind_at d k ≤ 3
  unfolding broken_record
  kind-top = by (view (kind_at d k))
    where
      top : (b c : Bool) → cond b c true ≡ false → b ≡ true
      top true c e = refl
      top false c e = absurd (true≢false e)

      by : View (kind_at d k) → kind_at d k ≤ 3
      by (v0 e) = omega (arith, e)
      by (v1 e) = omega (arith, e)
      by (v2 e) =
          leb-true (kind_at d k) 3 (top (leb (kind_at d k) 3) (broken_run d k (a_at d k) (count_at d k))
          (rw (ne_eqb (kind_at d k) 0 (omega arith), ne_eqb (kind_at d k) 1 (omega arith)) at (z.right k (omega arith))))

  pub kind-is : kind_at d k ≡ kind_of (ty_at d k)
  kind-is = by (view (kind_at d k))
    where
      grouped : (x : ℕ) (ts : Tys) → 2 ≤ x → x ≤ 3 → x ≡ kind_of (group (eqb x 3) ts)
      grouped zero ts p q = absurd (omega arith)
      grouped (suc zero) ts p q = absurd (omega arith)
      grouped (suc (suc zero)) ts p q = refl
      grouped (suc (suc (suc zero))) ts p q = refl
      grouped (suc (suc (suc (suc x)))) ts p q = absurd (omega arith)

      by : View (kind_at d k) → kind_at d k ≡ kind_of (ty_at d k)
      by (v0 e) = rw (at-basic d k z e) e
      by (v1 e) = rw (at-array d k z e) e
      by (v2 e) = rw (at-group d k z e) (grouped (kind_at d k) (tys_from (ty_at d) d (a_at d k) (count_at d k)) e kind-top)

  pub count-is : 1 ≤ kind_at d k → count_at d k ≡ count_of (ty_at d k)
  count-is l = by (view (kind_at d k))
    where
      grouped : (u : Bool) (ts : Tys) → many_of ts ≡ count_of (group u ts)
      grouped true ts = refl
      grouped false ts = refl

      by : View (kind_at d k) → count_at d k ≡ count_of (ty_at d k)
      by (v0 e) = absurd (omega (arith, e, l))
      by (v1 e) = rw (at-array d k z e)
      by (v2 e) = rw (at-group d k z e) (sym (many-from (ty_at d) d (a_at d k) (count_at d k)) ∙ grouped (eqb (kind_at d k) 3) (tys_from (ty_at d) d (a_at d k) (count_at d k)))

module _ (d new : List ℕ) (j k : ℕ) (ask : AskSame d new j k) where
  sized-j : Sized (model_in d) d j
  sized-j = accepted-sized d (accepted-types d ask.right) j ask.one

  sized-k : Sized (model_in d) d k
  sized-k = accepted-sized d (accepted-types d ask.right) k ask.other

  pub same_whole : Whole d
  same_whole = accepted-whole d (accepted-form d (accepted-types d ask.right))

  few : types_in d ≤ 64
  few = omega (arith, accepted-counts d (accepted-form d (accepted-types d ask.right)))

  pub same-kinds : (kind_at d j ≡ kind_at d k → ⊥) → same_ty (ty_at d j) (ty_at d k) ≡ false
  same-kinds h = other-types (ty_at d j) (ty_at d k) (λ e. h (kind-is d j sized-j ∙ ap kind_of e ∙ sym (kind-is d k sized-k)))

  module _ (kinds : kind_at d j ≡ kind_at d k) where
    pub same-basic : kind_at d j ≡ 0 → eqb (a_at d j) (a_at d k) ≡ same_ty (ty_at d j) (ty_at d k)
    unfolding same_ty
    same-basic e = rw (at-basic d j sized-j e, at-basic d k sized-k (sym kinds ∙ e))

    module _ (some : kind_at d j ≡ 0 → ⊥) where
      pub same-counts : (count_at d j ≡ count_at d k → ⊥) → same_ty (ty_at d j) (ty_at d k) ≡ false
      same-counts h = other-types (ty_at d j) (ty_at d k) (λ e. h (count-is d j sized-j (omega (arith, some)) ∙ ap count_of e ∙ sym (count-is d k sized-k (omega (arith, some, kinds)))))

      module _ (counts : count_at d j ≡ count_at d k) where
        pub same_low : kind_at d j ≡ 1 → (a_at d j < 64) × (a_at d k < 64)
        same_low e = (omega (arith, few, ask.one, (sized-ruled d j sized-j).element e), omega (arith, few, ask.other, (sized-ruled d k sized-k).element (sym kinds ∙ e)))

        pub same-array : kind_at d j ≡ 1 → eqb (get_or new (a_at d j) 0) (get_or new (a_at d k) 0) ≡ same_ty (ty_at d j) (ty_at d k)
        unfolding same_ty
        same-array e =
            rw (at-array d j sized-j e, at-array d k sized-k (sym kinds ∙ e), counts, eq-eqb (count_at d k) (count_at d k) refl)
            (by (eqb (get_or new (a_at d j) 0) (get_or new (a_at d k) 0)) refl ∙ and-true (same_ty (ty_at d (a_at d j)) (ty_at d (a_at d k))))
          where
            and-true : (b : Bool) → b ≡ (b && true)
            and-true true = refl
            and-true false = refl

            jl : a_at d j < types_in d
            jl = omega (arith, ask.one, (sized-ruled d j sized-j).element e)

            kl : a_at d k < types_in d
            kl = omega (arith, ask.other, (sized-ruled d k sized-k).element (sym kinds ∙ e))

            by : (b : Bool) → eqb (get_or new (a_at d j) 0) (get_or new (a_at d k) 0) ≡ b → eqb (get_or new (a_at d j) 0) (get_or new (a_at d k) 0) ≡ same_ty (ty_at d (a_at d j)) (ty_at d (a_at d k))
            by true q =
                let p = ask.apart.same (a_at d j) (a_at d k) jl kl (ask.ones.element e) (ask.others.element (sym kinds ∙ e)) (eqb-true (get_or new (a_at d j) 0) (get_or new (a_at d k) 0) q) in
                rw (q, p) (sym (same_self (ty_at d (a_at d k))))
            by false q =
                rw q (sym (other-types (ty_at d (a_at d j)) (ty_at d (a_at d k)) (λ p. eqb-false (get_or new (a_at d j) 0) (get_or new (a_at d k) 0) q (ask.apart.equal (a_at d j) (a_at d k) jl kl (ask.ones.element e) (ask.others.element (sym kinds ∙ e)) p))))

        module _ (two : 2 ≤ kind_at d j) where
          two_k : 2 ≤ kind_at d k
          two_k = omega (arith, two, kinds)

          pub same_runs : AskRuns d new (a_at d j) (a_at d k) (count_at d j)
          same_runs = record {
            whole = same_whole;
            few = few;
            apart = ask.apart;
            one = (sized-ruled d j sized-j).run two;
            other = rw counts ((sized-ruled d k sized-k).run two_k);
            below = λ i l. (omega (arith, ask.one, (sized-ruled d j sized-j).member two (a_at d j + i) (omega arith) (omega arith)), omega (arith, ask.other, (sized-ruled d k sized-k).member two_k (a_at d k + i) (omega arith) (omega (arith, l, counts))));
            have = λ i l. (ask.ones.member two (a_at d j + i) (omega arith) (omega arith), ask.others.member two_k (a_at d k + i) (omega arith) (omega (arith, l, counts)));
          }

          pub same-groups : same_tys (tys_from (ty_at d) d (a_at d j) (count_at d j)) (tys_from (ty_at d) d (a_at d k) (count_at d j)) ≡ same_ty (ty_at d j) (ty_at d k)
          same-groups =
              rw (at-group d j sized-j two, at-group d k sized-k two_k, kinds, counts) (sym (both-groups (eqb (kind_at d k) 3) _ _))

-- ---- the next part

first-from : (f : ℕ → Bool) (k n : ℕ) → k ≤ first_from f k n
unfolding first_from
first-from f k zero = omega arith
first-from f k (suc n) = by (f k) (first-from f (k + 1) n)
  where
    by : (b : Bool) → k + 1 ≤ first_from f (k + 1) n → k ≤ cond b k (first_from f (k + 1) n)
    by true h = omega arith
    by false h = omega arith

module _ (d new : List ℕ) (k : ℕ) (ask : AskNew d new k) where
  sized : Sized (model_in d) d k
  sized = accepted-sized d (accepted-types d ask.right) k ask.known

  pub new_whole : Whole d
  new_whole = accepted-whole d (accepted-form d (accepted-types d ask.right))

  pub new_low : k < 64
  new_low = omega (arith, ask.known, accepted-counts d (accepted-form d (accepted-types d ask.right)))

  pub next-basic : kind_at d k ≡ 0 → Parts d new k
  next-basic e = record { element = λ z. absurd (omega (arith, e, z)); member = λ z. absurd (omega (arith, e, z)) }

  pub part_low : kind_at d k ≡ 1 → a_at d k < 64
  part_low e = omega (arith, new_low, (sized-ruled d k sized).element e)

  pub next-element : kind_at d k ≡ 1 → get_or new (a_at d k) 0 ≡ 255 → Onward d new k (a_at d k)
  next-element e b = record {
    low = (sized-ruled d k sized).element e;
    blank = b;
    some = omega (arith, e);
    element = λ z. refl;
    place = 0;
    member = λ z. absurd (omega (arith, e, z));
    before = λ z. absurd (omega (arith, e, z));
  }

  pub next-array : kind_at d k ≡ 1 → (get_or new (a_at d k) 0 ≡ 255 → ⊥) → Parts d new k
  next-array e b = record { element = λ z. b; member = λ z. absurd (omega (arith, e, z)) }

  module _ (two : 2 ≤ kind_at d k) where
    pub next-members : AskMembers d (a_at d k) (count_at d k)
    next-members = record {
      whole = new_whole;
      fits = (sized-ruled d k sized).run two;
      below = λ i x y. omega (arith, new_low, (sized-ruled d k sized).member two i x y);
    }

    pub next-member : (at : ℕ) → at ≡ first_from (unnumbered d new) (a_at d k) (count_at d k) → at < a_at d k + count_at d k → Onward d new k (member_at d at)
    next-member at e l =
        let lo : a_at d k ≤ at = rw e (first-from (unnumbered d new) (a_at d k) (count_at d k)) in
        let b : unnumbered d new at ≡ true = rw e (first_holds (unnumbered d new) (a_at d k) (count_at d k) (rw e at l)) in
        let low : member_at d at < k = (sized-ruled d k sized).member two at lo l in
        record {
          low = low;
          blank = eqb-true (get_or new (member_at d at) 0) 255 b;
          some = omega (arith, two);
          element = λ z. absurd (omega (arith, two, z));
          place = at;
          member = λ z. (lo, (l, refl));
          before = λ z i x y. eqb-false (get_or new (member_at d i) 0) 255 (first-least (unnumbered d new) (a_at d k) (count_at d k) i x (rw e at y));
        }

    pub next-group : (at : ℕ) → at ≡ first_from (unnumbered d new) (a_at d k) (count_at d k) → a_at d k + count_at d k ≤ at → Parts d new k
    next-group at e l = record {
      element = λ z. absurd (omega (arith, two, z));
      member = λ z i x y. eqb-false (get_or new (member_at d i) 0) 255 (first-least (unnumbered d new) (a_at d k) (count_at d k) i x (omega (arith, e, l, y)));
    }

-- ---- down to the part that is completed first

-- what two tables reach from `at` alike they reach from k alike
pub record Through (d new : List ℕ) (k at : ℕ) : Type 0 where
  pub through : (old : List ℕ) (n : ℕ) → Numbers d new old n → (b : List Ty) → Ordered b → Grows (tabled d old n) b
      → reached (tabled d old n) (ty_at d at) ≡ reached b (ty_at d at) → reached (tabled d old n) (ty_at d k) ≡ reached b (ty_at d k)

pub through_self : (d new : List ℕ) (k : ℕ) → Through d new k k
through_self d new k = record { through = λ old n s b o g e. e }

module _ (d new : List ℕ) (k at : ℕ) (ask : AskNew d new at) (t : Through d new k at) where
  pub through_on : (r : ℕ) → Onward d new at r → Through d new k r
  through_on r w = record { through = λ old n s b o g e. t.through old n s b o g (onward d new old n s at ask.known r w b o g e) }

  pub type-on : (r : ℕ) → Onward d new at r → AskNew d new r
  type-on r w = record { right = ask.right; known = omega (arith, ask.known, w.low); blank = w.blank }

  pub lowest-here : Parts d new at → Lowest d new k at
  lowest-here p = record {
    ready = record { known = ask.known; parts = p; blank = ask.blank };
    first = λ old n s.
        let b = parts_below d new old n s at ask.known p in
        t.through old n s (completed (tabled d old n) (ty_at d at)) (completed-ordered (tabled d old n) s.ordered (ty_at d at) b) (completed-grows (tabled d old n) (ty_at d at)) (reached-first (tabled d old n) s.ordered (ty_at d at) b);
  }

-- ---- numbering a type and its parts

module _ (d new old : List ℕ) (n k : ℕ) (s : Numbers d new old n) (known : k < types_in d) where
  pub reach_none : Has new k → tabled d old n ≡ reached (tabled d old n) (ty_at d k)
  reach_none h = sym (reached-there (tabled d old n) s.ordered (ty_at d k) (omega (arith, s.news k known h, tabled-length d old n)))

  pub reach_ask : get_or new k 0 ≡ 255 → AskNew d new k
  reach_ask b = record { right = s.right; known = known; blank = b }

-- ---- the arguments

pub reach_first : (a : List Ty) (d : List ℕ) (i n : ℕ) → i < n → reached_from a (trees_from d i (n - i)) ≡ reached_from (reached a (ty_at d (argument_at d i))) (trees_from d (i + 1) (n - (i + 1)))
unfolding reached_from trees_from
reach_first a d i n h = step (n - i) (n - (i + 1)) (omega arith)
  where
    step : (x y : ℕ) → x ≡ suc y → reached_from a (trees_from d i x) ≡ reached_from (reached a (ty_at d (argument_at d i))) (trees_from d (i + 1) y)
    step x y e = rw e

pub reach_end : (a : List Ty) (d : List ℕ) (i n : ℕ) → n ≤ i → reached_from a (trees_from d i (n - i)) ≡ a
unfolding reached_from trees_from
reach_end a d i n h = let q : n - i ≡ 0 = omega arith in rw q

-- ---- the type that is the same

module _ (d new old : List ℕ) (n k : ℕ) (s : Numbers d new old n) (ask : Completable d new k) where
  pub find-ask : (j : ℕ) → j < n → AskSame d new (get_or old j 0) k
  find-ask j l = record {
    right = s.right;
    apart = numbers_apart d new old n s;
    one = s.olds j l;
    other = ask.known;
    ones = s.parts (get_or old j 0) (s.olds j l) (s.done j l);
    others = ask.parts;
  }

module _ (d old : List ℕ) (n : ℕ) (t : Ty) (j : ℕ) where
  pub find-here : j < n → ((i : ℕ) → i < j → same_ty (ty_at d (get_or old i 0)) t ≡ false) → same_ty (ty_at d (get_or old j 0)) t ≡ true → index_of (tabled d old n) t ≡ j
  find-here l h e =
      index_found (tabled d old n) t j (omega (arith, l, tabled-length d old n)) (λ i p. rw (tabled-at d old n i (omega arith)) (h i p)) (rw (tabled-at d old n j l) e)

  pub find_none : j ≡ n → ((i : ℕ) → i < j → same_ty (ty_at d (get_or old i 0)) t ≡ false) → index_of (tabled d old n) t ≡ j
  find_none q h =
      index_none (tabled d old n) t (λ i p. let l : i < n = omega (arith, p, tabled-length d old n) in rw (tabled-at d old n i l) (h i (omega arith))) ∙ tabled-length d old n ∙ sym q

pub find-on : (d old : List ℕ) (t : Ty) (j : ℕ) → ((i : ℕ) → i < j → same_ty (ty_at d (get_or old i 0)) t ≡ false) → same_ty (ty_at d (get_or old j 0)) t ≡ false
    → (i : ℕ) → i < j + 1 → same_ty (ty_at d (get_or old i 0)) t ≡ false
find-on d old t j h e i l = by (eq-or-lt_of_le {n = i} {m = j} (omega arith))
  where
    by : (i ≡ j) ⊎ (i < j) → same_ty (ty_at d (get_or old i 0)) t ≡ false
    by (inl q) = rw q e
    by (inr q) = h i q

-- ---- what completing leaves

module _ (d new old : List ℕ) (n k : ℕ) (s : Numbers d new old n) (ask : Completable d new k) where
  pub complete_low : (v : ℕ) → v ≡ index_of (tabled d old n) (ty_at d k) → (v ≤ n) × ((v ≤ 64) × (k < 64))
  complete_low v e =
      let b = index_bound (tabled d old n) (ty_at d k) in
      let l = numbers-low d new old n s in
      (omega (arith, e, b, tabled-length d old n), (omega (arith, e, b, tabled-length d old n, numbers-few d new old n s, l), omega (arith, ask.known, l)))

  less : (v : ℕ) → v ≡ index_of (tabled d old n) (ty_at d k) → blanks (set new k v) < blanks new
  less v e =
      let b = complete_low v e in
      blanks-less new k v (omega (arith, b.1.1, s.wide)) ask.blank (λ z. omega (arith, z, b.1.0))

  pub completed-as : (v w : ℕ) → w ≡ v → v ≡ index_of (tabled d old n) (ty_at d k) → v < n
      → Numbers d (set new k w) old n × Numbered d k new (set new k w) old n (completed (tabled d old n) (ty_at d k)) × (blanks (set new k w) < blanks new)
  completed-as v w q e l = let z = complete_old d new old n k s ask v e l in rw q (z.0, z.1, less v e)

  pub completed-next : (v w x : ℕ) → w ≡ v → x ≡ k → v ≡ index_of (tabled d old n) (ty_at d k) → n ≤ v
      → Numbers d (set new k w) (set old n x) (n + 1) × Numbered d k new (set new k w) (set old n x) (n + 1) (completed (tabled d old n) (ty_at d k)) × (blanks (set new k w) < blanks new)
  completed-next v w x q r e l =
      let b = complete_low v e in
      let z : v ≡ n = omega (arith, b.0, l) in
      let y = complete_new d new old n k s ask v e z (complete_room d new old n k s ask (sym z ∙ e)) in
      rw (q, r) (y.0, y.1, less v e)

  pub next-room : (v : ℕ) → v ≡ index_of (tabled d old n) (ty_at d k) → n ≤ v → n < 64
  next-room v e l = let b = complete_low v e in let z : v ≡ n = omega (arith, b.0, l) in complete_room d new old n k s ask (sym z ∙ e)

-- ---- a type of which a part has just been completed

module _ (d new₀ old₀ : List ℕ) (n₀ k : ℕ) (new old : List ℕ) (n : ℕ) (s : Numbers d new old n)
    (same : reached (tabled d old n) (ty_at d k) ≡ reached (tabled d old₀ n₀) (ty_at d k)) (kept : (i : ℕ) → Has new₀ i → Has new i) (r : ℕ) (low : Lowest d new k r)
    (now was : List ℕ) (m : ℕ) (done : Numbered d r new now was m (completed (tabled d old n) (ty_at d r))) where
  pub reach_same : reached (tabled d was m) (ty_at d k) ≡ reached (tabled d old₀ n₀) (ty_at d k)
  reach_same = ap (λ (l : List Ty). reached l (ty_at d k)) done.is ∙ sym (low.first old n s) ∙ same

  pub reach_kept : (i : ℕ) → Has new₀ i → Has now i
  reach_kept i h = done.kept i (kept i h)

pub reach_done : (d new₀ old₀ : List ℕ) (n₀ k : ℕ) (new old : List ℕ) (n : ℕ) → Numbers d new old n → reached (tabled d old n) (ty_at d k) ≡ reached (tabled d old₀ n₀) (ty_at d k)
    → ((i : ℕ) → Has new₀ i → Has new i) → k < types_in d → Has new k → Numbered d k new₀ new old n (reached (tabled d old₀ n₀) (ty_at d k))
reach_done d new₀ old₀ n₀ k new old n s same kept known h = record { is = reach_none d new old n k s known h ∙ same; has = h; kept = kept }

-- the arguments passed have numbers
pub passed-more : (d new now : List ℕ) (i : ℕ) → ((j : ℕ) → j < i → Has new (argument_at d j)) → ((x : ℕ) → Has new x → Has now x) → Has now (argument_at d i) → (j : ℕ) → j < i + 1 → Has now (argument_at d j)
passed-more d new now i h kept e j l = by (eq-or-lt_of_le {n = j} {m = i} (omega arith))
  where
    by : (j ≡ i) ⊎ (j < i) → Has now (argument_at d j)
    by (inl q) = rw q e
    by (inr q) = kept (argument_at d j) (h j q)

pub reach_next : (d : List ℕ) (a b : List Ty) (i n k : ℕ) → i < n → k ≡ argument_at d i → b ≡ reached a (ty_at d k) → reached_from b (trees_from d (i + 1) (n - (i + 1))) ≡ reached_from a (trees_from d i (n - i))
reach_next d a b i n k l q e = rw (e, q) (sym (reach_first a d i n l))
