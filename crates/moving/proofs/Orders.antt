-- Which number refuses placing and gathering, and what is sure where none does, of any layout whose orders are as they should be. Assumes nothing.
use mathlib.Core.Path.{◌≡◌, refl, sym, ◌∙◌}
use mathlib.Core.Bool.{Bool, true, false, cond, and-eq-true_iff, true≢false}
use mathlib.Core.List.{List, [], ◌∷◌, ◌++◌}
use mathlib.Core.Logic.{◌≢◌}
use Prim.Native.Nat.{ℕ, ◌≤◌, ◌<◌}
use native.Mathlib.Omega.{arith}
use borrow.Author.Tests.{eq-eqb, eqb-true, lt-ltb, le-ltb, ltb-true, ltb-false}
use lib.Dec.{eqb, ltb}
use lib.ListN.{length, get_or}
use Rattle.description.specs.Description.{arguments_in, kind_at, a_at, argument_at}
use Rattle.form.specs.Order.{Rule, rule, first, NoneHolds, Positive, Without}
use Rattle.form.proofs.Order.{accepts-exactly, first-before, first-behind, first-both, none-till, held, positive-append, without-append}
use Rattle.form.proofs.Search.{first_holds, first-least}
use Rattle.moving.specs.Movers.{Mover, Ordered}
use Rattle.moving.specs.Orders.{is_bool, broken_byte, broken_bool, first_broken, wrong_bool, BrokenAt, gather_order, gather_refusal, place_refusal}

module _ (M : Mover) (O : Ordered M) (d : List ℕ) where
  -- ---- gathering: 1 to 11

  module _ (v r y s : ℕ) where
    abbrev eleven : List Rule
    eleven = rule 11 (M.wrong_length d v r y s) ∷ []

    pub gather-before : first (M.order d) ≢ 0 → gather_refusal M d v r y s ≡ first (M.order d)
    unfolding gather_refusal
    gather-before n = first-before (M.order d) eleven n

    pub gather-behind : first (M.order d) ≡ 0 → (b : Bool) → M.wrong_length d v r y s ≡ b → gather_refusal M d v r y s ≡ cond b 11 0
    unfolding gather_refusal
    gather-behind a b e = first-behind (M.order d) eleven (O.positive d) a ∙ rw e

    -- accepted, the description is, its images are sound, and the lengths are theirs
    pub record Fits : Type 0 where
      pub accepted : first (M.order d) ≡ 0
      pub values : v ≡ length (M.frame d).places
      pub registers : r ≡ (M.frame d).registers
      pub upper : y ≡ (M.frame d).upper
      pub stack : s ≡ (M.frame d).stack

    pub gather-fits : gather_refusal M d v r y s ≡ 0 → Fits
    unfolding gather_refusal
    gather-fits e =
        let both = first-both (M.order d) eleven (O.positive d) e in
        let l = (O.lengths d v r y s both.0).0 ((accepts-exactly eleven (omega arith, tt)).0 both.1).0 in
        record { accepted = both.0; values = l.0; registers = l.1; upper = l.2; stack = l.3 }

    pub fits-gather : Fits → gather_refusal M d v r y s ≡ 0
    fits-gather f = gather-behind f.accepted false ((O.lengths d v r y s f.accepted).1 (f.values, f.registers, f.upper, f.stack))

    pub gather-positive : Positive (gather_order M d v r y s)
    gather-positive = positive-append (M.order d) eleven (O.positive d) (omega arith, tt)

    gather-without : Without 12 (gather_order M d v r y s)
    gather-without = without-append (M.order d) eleven 12 (O.without d) ((λ z. omega arith), tt)

  -- ---- placing: these, and then its own

  module _ (h : ℕ) (vals : List ℕ) (r y s : ℕ) where
    abbrev twelve : List Rule
    twelve = rule 12 (wrong_bool M d vals) ∷ []

    pub place-before : gather_refusal M d (length vals) r y s ≢ 0 → place_refusal M d h vals r y s ≡ gather_refusal M d (length vals) r y s
    unfolding gather_refusal place_refusal
    place-before n = first-before (gather_order M d (length vals) r y s) (M.address_order d h ++ twelve) n

    pub place-behind : gather_refusal M d (length vals) r y s ≡ 0 → NoneHolds (M.address_order d h) → (b : Bool) → wrong_bool M d vals ≡ b
        → place_refusal M d h vals r y s ≡ cond b 12 0
    unfolding gather_refusal place_refusal
    place-behind a n b e =
        first-behind (gather_order M d (length vals) r y s) (M.address_order d h ++ twelve) (gather-positive (length vals) r y s) a
        ∙ first-behind (M.address_order d h) twelve (O.address_positive d h) ((accepts-exactly (M.address_order d h) (O.address_positive d h)).1 n)
        ∙ rw e

    -- an address that is refused
    pub place-stopped : gather_refusal M d (length vals) r y s ≡ 0 → first (M.address_order d h) ≢ 0 → place_refusal M d h vals r y s ≡ first (M.address_order d h)
    unfolding gather_refusal place_refusal
    place-stopped a n =
        first-behind (gather_order M d (length vals) r y s) (M.address_order d h ++ twelve) (gather-positive (length vals) r y s) a
        ∙ first-before (M.address_order d h) twelve n

    pub place-accepted : place_refusal M d h vals r y s ≡ 0
        → (gather_refusal M d (length vals) r y s ≡ 0) × NoneHolds (M.address_order d h) × (wrong_bool M d vals ≡ false)
    unfolding gather_refusal place_refusal
    place-accepted e =
        let both = first-both (gather_order M d (length vals) r y s) (M.address_order d h ++ twelve) (gather-positive (length vals) r y s) e in
        let late = first-both (M.address_order d h) twelve (O.address_positive d h) both.1 in
        (both.0, (accepts-exactly (M.address_order d h) (O.address_positive d h)).0 late.0, ((accepts-exactly twelve (omega arith, tt)).0 late.1).0)

    pub place-twelve : place_refusal M d h vals r y s ≡ 12
        → (gather_refusal M d (length vals) r y s ≡ 0) × NoneHolds (M.address_order d h) × (wrong_bool M d vals ≡ true)
    unfolding gather_refusal place_refusal
    place-twelve e =
        let ok = none-till (gather_order M d (length vals) r y s) (M.address_order d h ++ twelve) 12 (gather-without (length vals) r y s) e in
        let late = held (M.address_order d h) 12 (wrong_bool M d vals) [] (O.address_positive d h) (λ z. omega arith) (O.address_without d h) tt
        (sym (first-behind (gather_order M d (length vals) r y s) (M.address_order d h ++ twelve) (gather-positive (length vals) r y s) ok) ∙ e) in
        (ok, late.0, late.1)

-- ---- the _Bool arguments

module _ (M : Mover) (d vals : List ℕ) where
  pub broken-holds : first_broken M d vals < arguments_in d → wrong_bool M d vals ≡ true
  unfolding wrong_bool
  broken-holds h = lt-ltb (first_broken M d vals) (arguments_in d) h

  pub broken-none : arguments_in d ≤ first_broken M d vals → wrong_bool M d vals ≡ false
  unfolding wrong_bool
  broken-none h = le-ltb (first_broken M d vals) (arguments_in d) h

  broken-at : (i : ℕ) → i < arguments_in d → broken_bool M d vals i ≡ true → BrokenAt M d vals i
  unfolding broken_byte is_bool
  broken-at i l e =
      let p = (and-eq-true_iff (is_bool d (argument_at d i)) (ltb 1 (get_or vals (M.start d i) 0))).0 e in
      let q = (and-eq-true_iff (eqb (kind_at d (argument_at d i)) 0) (eqb (a_at d (argument_at d i)) 0)).0 p.0 in
      record { there = l; kind = eqb-true _ _ q.0; code = eqb-true _ _ q.1; byte = ltb-true _ _ p.1 }

  at-broken : (i : ℕ) → BrokenAt M d vals i → broken_bool M d vals i ≡ true
  unfolding broken_byte is_bool
  at-broken i b = rw (eq-eqb _ 0 b.kind, eq-eqb _ 0 b.code, lt-ltb 1 _ b.byte)

  -- some _Bool argument is broken, or none is
  pub broken-some : wrong_bool M d vals ≡ true → (i : ℕ) × BrokenAt M d vals i
  unfolding wrong_bool
  broken-some e =
      let l = ltb-true (first_broken M d vals) (arguments_in d) e in
      (first_broken M d vals, broken-at (first_broken M d vals) l (first_holds (broken_bool M d vals) 0 (arguments_in d) (omega arith)))

  pub broken-never : wrong_bool M d vals ≡ false → (i : ℕ) → BrokenAt M d vals i → ⊥
  unfolding wrong_bool
  broken-never e i b =
      true≢false (sym (at-broken i b) ∙ first-least (broken_bool M d vals) 0 (arguments_in d) i (omega arith) (omega (arith, b.there, ltb-false (first_broken M d vals) (arguments_in d) e)))

  pub some-broken : (i : ℕ) → BrokenAt M d vals i → wrong_bool M d vals ≡ true
  some-broken i b = by (wrong_bool M d vals) refl
    where
      by : (x : Bool) → wrong_bool M d vals ≡ x → wrong_bool M d vals ≡ true
      by true e = e
      by false e = absurd (broken-never e i b)

  pub never_broken : ((i : ℕ) → BrokenAt M d vals i → ⊥) → wrong_bool M d vals ≡ false
  never_broken f = by (wrong_bool M d vals) refl
    where
      by : (x : Bool) → wrong_bool M d vals ≡ x → wrong_bool M d vals ≡ false
      by true e = let b = broken-some e in absurd (f b.0 b.1)
      by false e = e
