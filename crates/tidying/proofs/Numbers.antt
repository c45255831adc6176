-- The numbers that types have, and how one is added. Assumes nothing.
use mathlib.Core.Path.{◌≡◌, refl, sym, ap, ap₂, ◌∙◌}
use mathlib.Core.Bool.{Bool, true, false}
use mathlib.Core.List.{List, [], ◌∷◌, ◌++◌}
use mathlib.Core.Logic.{◌⊎◌, inl, inr}
use Prim.Native.Nat.{ℕ, zero, suc, ◌+◌, ◌-◌, ◌≤◌, ◌<◌}
use native.Mathlib.Nat.{eq-or-lt_of_le}
use native.Mathlib.Omega.{arith}
use borrow.Author.Tests.{ne_eqb, eqb-true, eqb-false}
use lib.Dec.{eqb}
use lib.ListN.{length, get_or, set, length-append, length-set, get_or-append}
use lib.Seq.{get_or-append_seam, get_or-set_same, get_or-set_other}
use Rattle.description.specs.Description.{types_in, kind_at, a_at, count_at, member_at, model_in}
use Rattle.form.proofs.Form.{accepted-counts}
use Rattle.types.specs.Tree.{Ty, Tys, basic, more, group}
use Rattle.types.specs.Decode.{tys_from, ty_at}
use Rattle.types.specs.Asks.{Sized}
use Rattle.types.proofs.Records.{View, v0, v1, v2, view}
use Rattle.types.proofs.Trees.{sized-ruled, at-basic, at-array, at-group}
use Rattle.types.proofs.Large.{accepted-form, accepted-sized}
use Rattle.uses.proofs.Uses.{accepted-types}
use Rattle.tidying.specs.Same.{same_ty}
use Rattle.tidying.specs.Numbering.{index_of, completed, reached}
use Rattle.tidying.specs.Ordered.{at, AllBelow, Below, Ordered}
use Rattle.tidying.specs.Asks.{Has, tabled, Parts, Apart, Numbers, Completable, Onward, blanks, Numbered}
use Rattle.tidying.proofs.Tables.{at-index, completed-grows, completed-there, Grows}
use Rattle.tidying.proofs.Reached.{completed-ordered}
use Rattle.tidying.proofs.Known.{Every, table-few}
use Rattle.tidying.proofs.Walk.{AtPlace, element-on, group-on}

pub tabled-length : (d old : List ℕ) (n : ℕ) → length (tabled d old n) ≡ n
unfolding tabled
tabled-length d old zero = refl
tabled-length d old (suc n) = length-append (tabled d old n) (ty_at d (get_or old n 0) ∷ []) ∙ omega (arith, tabled-length d old n)

pub tabled-at : (d old : List ℕ) (n j : ℕ) → j < n → at (tabled d old n) j ≡ ty_at d (get_or old j 0)
unfolding tabled
tabled-at d old zero j h = absurd (omega arith)
tabled-at d old (suc n) j h = by (eq-or-lt_of_le {n = j} {m = n} (omega arith)) (λ l. tabled-at d old n j l)
  where
    by : (j ≡ n) ⊎ (j < n) → (j < n → at (tabled d old n) j ≡ ty_at d (get_or old j 0)) → at (tabled d old n ++ ty_at d (get_or old n 0) ∷ []) j ≡ ty_at d (get_or old j 0)
    by (inl e) r =
        let q : j ≡ length (tabled d old n) = omega (arith, e, tabled-length d old n) in
        ap (at (tabled d old n ++ ty_at d (get_or old n 0) ∷ [])) q ∙ get_or-append_seam (tabled d old n) (ty_at d (get_or old n 0)) [] (basic 0) ∙ ap (λ (x : ℕ). ty_at d (get_or old x 0)) (sym e)
    by (inr l) r = get_or-append (tabled d old n) (ty_at d (get_or old n 0) ∷ []) (basic 0) j (omega (arith, l, tabled-length d old n)) ∙ r l

pub tabled-same : (d old now : List ℕ) (n : ℕ) → ((j : ℕ) → j < n → get_or now j 0 ≡ get_or old j 0) → tabled d now n ≡ tabled d old n
unfolding tabled
tabled-same d old now zero h = refl
tabled-same d old now (suc n) h = ap₂ (λ (l : List Ty) (x : ℕ). l ++ ty_at d x ∷ []) (tabled-same d old now n (λ j l. h j (omega arith))) (h n (omega arith))

-- what a search finds
pub index_found : (table : List Ty) (t : Ty) (j : ℕ) → j < length table → ((i : ℕ) → i < j → same_ty (at table i) t ≡ false) → same_ty (at table j) t ≡ true → index_of table t ≡ j
unfolding index_of
index_found [] t j l h e = absurd (omega arith)
index_found (s ∷ table) t zero l h e = rw e
index_found (s ∷ table) t (suc j) l h e = rw (h 0 (omega arith)) (ap suc (index_found table t j (omega arith) (λ i p. h (suc i) (omega arith)) e))

pub index_none : (table : List Ty) (t : Ty) → ((i : ℕ) → i < length table → same_ty (at table i) t ≡ false) → index_of table t ≡ length table
unfolding index_of
index_none [] t h = refl
index_none (s ∷ table) t h = rw (h 0 (omega arith)) (ap suc (index_none table t (λ i p. h (suc i) (omega arith))))

module _ (d new old : List ℕ) (n : ℕ) (s : Numbers d new old n) where
  pub numbers-every : Every d (tabled d old n)
  numbers-every k l =
      let h : k < n = omega (arith, l, tabled-length d old n) in
      record { number = get_or old k 0; below = s.olds k h; is = sym (tabled-at d old n k h) }

  pub numbers-few : n ≤ types_in d
  numbers-few = omega (arith, table-few d (accepted-types d s.right) (tabled d old n) s.ordered numbers-every, tabled-length d old n)

  pub numbers-low : types_in d ≤ 64
  numbers-low = omega (arith, accepted-counts d (accepted-form d (accepted-types d s.right)))

  there-at : (k : ℕ) → k < types_in d → Has new k → index_of (tabled d old n) (ty_at d k) < length (tabled d old n)
  there-at k l h = omega (arith, s.news k l h, tabled-length d old n)

  pub numbers_apart : Apart d new
  numbers_apart = record {
    same = λ i j l m p q e.
        let z : index_of (tabled d old n) (ty_at d i) ≡ index_of (tabled d old n) (ty_at d j) = omega (arith, e, s.news i l p, s.news j m q) in
        sym (at-index (tabled d old n) (ty_at d i) (there-at i l p)) ∙ ap (at (tabled d old n)) z ∙ at-index (tabled d old n) (ty_at d j) (there-at j m q);
    equal = λ i j l m p q e. (s.news i l p).0 ∙ ap (index_of (tabled d old n)) e ∙ sym (s.news j m q).0;
  }

  -- the parts of a type are there
  module _ (k : ℕ) (known : k < types_in d) where
    sized : Sized (model_in d) d k
    sized = accepted-sized d (accepted-types d s.right) k known

    members-there : (i m : ℕ) → ((j : ℕ) → i ≤ j → j < i + m → (member_at d j < types_in d) × Has new (member_at d j)) → AllBelow (tabled d old n) (length (tabled d old n)) (tys_from (ty_at d) d i m)
    unfolding tys_from AllBelow
    members-there i zero h = tt
    members-there i (suc m) h =
        (there-at (member_at d i) (h i (omega arith) (omega arith)).0 (h i (omega arith) (omega arith)).1, members-there (i + 1) m (λ j p q. h j (omega arith) (omega arith)))

    group-below : (u : Bool) (ts : Tys) → AllBelow (tabled d old n) (length (tabled d old n)) ts → Below (tabled d old n) (length (tabled d old n)) (group u ts)
    unfolding Below
    group-below true ts p = p
    group-below false ts p = p

    pub parts_below : Parts d new k → Below (tabled d old n) (length (tabled d old n)) (ty_at d k)
    unfolding Below
    parts_below p = by (view (kind_at d k))
      where
        by : View (kind_at d k) → Below (tabled d old n) (length (tabled d old n)) (ty_at d k)
        by (v0 e) = rw (at-basic d k sized e) tt
        by (v1 e) = rw (at-array d k sized e) (there-at (a_at d k) (omega (arith, known, (sized-ruled d k sized).element e)) (p.element e))
        by (v2 e) =
            rw (at-group d k sized e)
            (group-below (eqb (kind_at d k) 3) (tys_from (ty_at d) d (a_at d k) (count_at d k))
            (members-there (a_at d k) (count_at d k) (λ j x y. (omega (arith, known, (sized-ruled d k sized).member e j x y), p.member e j x y))))

    -- from the first part without a number to its owner
    place_at : (i m p : ℕ) → i ≤ p → p < i + m → ((j : ℕ) → i ≤ j → j < p → (member_at d j < types_in d) × Has new (member_at d j)) → AtPlace (tabled d old n) (p - i) (ty_at d (member_at d p)) (tys_from (ty_at d) d i m)
    unfolding tys_from AtPlace
    place_at i zero p x y h = absurd (omega arith)
    place_at i (suc m) p x y h = by (eq-or-lt_of_le {n = i} {m = p} x) (λ l. place_at (i + 1) m p (omega arith) (omega arith) (λ j u v. h j (omega arith) (omega arith)))
      where
        by : (i ≡ p) ⊎ (i < p) → (i < p → AtPlace (tabled d old n) (p - (i + 1)) (ty_at d (member_at d p)) (tys_from (ty_at d) d (i + 1) m)) → AtPlace (tabled d old n) (p - i) (ty_at d (member_at d p)) (more (ty_at d (member_at d i)) (tys_from (ty_at d) d (i + 1) m))
        by (inl e) r = let q : p - i ≡ 0 = omega (arith, e) in rw q (ap (λ (z : ℕ). ty_at d (member_at d z)) (sym e))
        by (inr l) r = let q : p - i ≡ suc (p - (i + 1)) = omega (arith, l) in rw q (there-at (member_at d i) (h i (omega arith) l).0 (h i (omega arith) l).1, r l)

    pub onward : (r : ℕ) → Onward d new k r → (b : List Ty) → Ordered b → Grows (tabled d old n) b
        → reached (tabled d old n) (ty_at d r) ≡ reached b (ty_at d r) → reached (tabled d old n) (ty_at d k) ≡ reached b (ty_at d k)
    onward r w b ob g e = by (view (kind_at d k))
      where
        by : View (kind_at d k) → reached (tabled d old n) (ty_at d k) ≡ reached b (ty_at d k)
        by (v0 z) = absurd (omega (arith, z, w.some))
        by (v1 z) =
            rw (at-array d k sized z) (element-on (tabled d old n) b s.ordered ob g (ty_at d (a_at d k)) (count_at d k) (rw (w.element z) at e))
        by (v2 z) =
            let m = w.member z in
            rw (at-group d k sized z)
            (group-on (tabled d old n) b s.ordered ob g (eqb (kind_at d k) 3) (w.place - a_at d k) (ty_at d (member_at d w.place)) (tys_from (ty_at d) d (a_at d k) (count_at d k))
            (place_at (a_at d k) (count_at d k) w.place m.0 m.1.0 (λ j x y. (omega (arith, known, (sized-ruled d k sized).member z j x (omega (arith, m.1.0))), w.before z j x y)))
            (rw m.1.1 at e))

pub blanks-less : (l : List ℕ) (k v : ℕ) → k < length l → get_or l k 0 ≡ 255 → (v ≡ 255 → ⊥) → blanks (set l k v) < blanks l
unfolding blanks
blanks-less [] k v h e z = absurd (omega arith)
blanks-less (x ∷ l) zero v h e z = rw (e, ne_eqb v 255 z) (omega arith)
blanks-less (x ∷ l) (suc k) v h e z = omega (arith, blanks-less l k v (omega arith) e z)

-- type k gets the number v
module _ (d new old : List ℕ) (n k v : ℕ) (s : Numbers d new old n) (ask : Completable d new k) (small : v < 255) where
  inside : k < length new
  inside = omega (arith, ask.known, s.wide, numbers-low d new old n s)

  has-k : Has (set new k v) k
  has-k e = omega (arith, e, get_or-set_same new k v 0 inside)

  has_kept : (i : ℕ) → Has new i → Has (set new k v) i
  has_kept i h e = by (eqb i k) refl
    where
      by : (b : Bool) → eqb i k ≡ b → ⊥
      by true q = h (rw (eqb-true i k q) ask.blank)
      by false q = h (sym (get_or-set_other new k i v 0 (eqb-false i k q)) ∙ e)

  parts-kept : (i : ℕ) → Parts d new i → Parts d (set new k v) i
  parts-kept i p = record {
    element = λ e. has_kept (a_at d i) (p.element e);
    member = λ e j x y. has_kept (member_at d j) (p.member e j x y);
  }

  -- a type that has a number now is k, or had one
  one_of : (i : ℕ) → Has (set new k v) i → (i ≡ k) ⊎ ((Has new i) × (get_or (set new k v) i 0 ≡ get_or new i 0))
  one_of i h = by (eqb i k) refl
    where
      by : (b : Bool) → eqb i k ≡ b → (i ≡ k) ⊎ ((Has new i) × (get_or (set new k v) i 0 ≡ get_or new i 0))
      by true q = inl (eqb-true i k q)
      by false q = inr (λ e. h (get_or-set_other new k i v 0 (eqb-false i k q) ∙ e), get_or-set_other new k i v 0 (eqb-false i k q))

  -- the table with type k
  more-is : List Ty
  more-is = completed (tabled d old n) (ty_at d k)

  module _ (now : List ℕ) (m : ℕ) (room : length now ≡ 64) (is : tabled d now m ≡ completed (tabled d old n) (ty_at d k)) (got : v ≡ index_of (completed (tabled d old n) (ty_at d k)) (ty_at d k))
      (known : (j : ℕ) → j < m → (get_or now j 0 ≡ k) ⊎ ((get_or now j 0 < types_in d) × Has new (get_or now j 0))) where
    length-m : length (completed (tabled d old n) (ty_at d k)) ≡ m
    length-m = ap length (sym is) ∙ tabled-length d now m

    newly : (i : ℕ) → i < types_in d → (i ≡ k) ⊎ ((Has new i) × (get_or (set new k v) i 0 ≡ get_or new i 0))
        → (get_or (set new k v) i 0 ≡ index_of (completed (tabled d old n) (ty_at d k)) (ty_at d i)) × (index_of (completed (tabled d old n) (ty_at d k)) (ty_at d i) < m)
    newly i l (inl e) = rw e (get_or-set_same new k v 0 inside ∙ got, omega (arith, completed-there (tabled d old n) (ty_at d k), length-m))
    newly i l (inr p) =
        let q = s.news i l p.0 in
        let g = completed-grows (tabled d old n) (ty_at d k) in
        let z = g.same (ty_at d i) (omega (arith, q.1, tabled-length d old n)) in
        (p.1 ∙ q.0 ∙ sym z, omega (arith, z, q.1, g.longer, tabled-length d old n, length-m))

    done-by : (j : ℕ) → (get_or now j 0 ≡ k) ⊎ ((get_or now j 0 < types_in d) × Has new (get_or now j 0)) → (get_or now j 0 < types_in d) × Has (set new k v) (get_or now j 0)
    done-by j (inl e) = rw e (ask.known, has-k)
    done-by j (inr p) = (p.0, has_kept (get_or now j 0) p.1)

    parts-by : (i : ℕ) → i < types_in d → (i ≡ k) ⊎ ((Has new i) × (get_or (set new k v) i 0 ≡ get_or new i 0)) → Parts d (set new k v) i
    parts-by i l (inl e) = rw e (parts-kept k ask.parts)
    parts-by i l (inr p) = parts-kept i (s.parts i l p.0)

    pub numbers_more : Numbers d (set new k v) now m
    numbers_more = record {
      right = s.right;
      wide = length-set new k v ∙ s.wide;
      room = room;
      ordered = rw is (completed-ordered (tabled d old n) s.ordered (ty_at d k) (parts_below d new old n s k ask.known ask.parts));
      olds = λ j l. (done-by j (known j l)).0;
      done = λ j l. (done-by j (known j l)).1;
      news = λ i l h. rw is (newly i l (one_of i h));
      parts = λ i l h. parts-by i l (one_of i h);
    }

    pub numbered_more : Numbered d k new (set new k v) now m (completed (tabled d old n) (ty_at d k))
    numbered_more = record {
      is = is;
      has = has-k;
      kept = has_kept;
    }
