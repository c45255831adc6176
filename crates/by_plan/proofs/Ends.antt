-- What moving by a plan answers and leaves. Assumes nothing.
use mathlib.Core.Path.{◌≡◌, refl, ap, ap₂, ◌∙◌}
use mathlib.Core.Bool.{Bool, true, false, cond}
use mathlib.Core.List.{List, []}
use Prim.Native.Nat.{ℕ, ◌+◌, ◌-◌, ◌≤◌}
use native.Mathlib.Omega.{arith}
use borrow.Author.Tests.{eq-eqb, ne_eqb}
use lib.ListN.{length, replicate, length-replicate}
use Rattle.std.specs.Prelude.{Err, Ok, Result}
use Rattle.addresses.specs.Addresses.{run, gather, scatter}
use Rattle.addresses.specs.Copy.{cleared}
use Rattle.addresses.proofs.Scatter.{length-scatter}
use Rattle.units.specs.declared.Registers.{Registers}
use Rattle.form.specs.declared.Refusal.{Refusal}
use Rattle.form.specs.Reading.{refusal_of}
use Rattle.images.specs.Words.{little_endian, rdi, with_address, address_in, number}
use Rattle.moving.specs.Frames.{empty_in, own_address}
use Rattle.moving.specs.Images.{framed}
use Rattle.returning.specs.Image.{blank_return}
use Rattle.plans.specs.Moves.{Move, move_all, turned_all, all_fit}
use Rattle.plans.specs.Plans.{area_in, end_of, used_by, moves_in, vectors_in, gather_refusal_by, gathered_by, gather_answer_by, values_after_by, place_refusal_by, placed_by, place_answer_by, image_after_by}
use Rattle.plans.specs.Returned.{return_moves_in, take_refusal_by, put_refusal_by, put_by, taken_by, address_by, put_answer_by, return_image_by, take_answer_by, returned_after_by}
use Rattle.by_plan.proofs.Lists.{all_fit-turned}
use Rattle.by_plan.proofs.Verdicts.{formed, gather-sure, place-sure, put-sure, take-sure, returned-sure}

-- ---- the images before the values

room_split : (n : ℕ) → 304 ≤ n → n ≡ 176 + (128 + (n - 304))
room_split n l = omega arith

pub blank-no : (h : ℕ) (img x : List ℕ) → 304 ≤ length img → x ≡ cleared img → x ≡ empty_in (framed false [] (length img - 304)) h
unfolding cleared empty_in
blank-no h img x l e = e ∙ ap (λ (n : ℕ). replicate n 0) (room_split (length img) l)

pub blank-yes : (h : ℕ) (img x y : List ℕ) → 304 ≤ length img → x ≡ cleared img → y ≡ with_address x h → y ≡ empty_in (framed true [] (length img - 304)) h
unfolding cleared empty_in with_address
blank-yes h img x y l e f = f ∙ ap (λ (z : List ℕ). scatter z rdi (little_endian 8 h)) (e ∙ ap (λ (n : ℕ). replicate n 0) (room_split (length img) l))

length-blank : (b : Bool) (h n : ℕ) → length (empty_in (framed b [] n) h) ≡ 304 + n
unfolding empty_in
length-blank b h n =
    length-scatter (framed b [] n).address (replicate (176 + (128 + n)) 0) (little_endian (length (framed b [] n).address) h) ∙ length-replicate {A = ℕ} (176 + (128 + n)) 0 ∙ omega arith

pub return_none : (h : ℕ) (img x : List ℕ) → length img ≡ 96 → x ≡ cleared img → x ≡ blank_return false h
unfolding cleared blank_return
return_none h img x l e = e ∙ rw l

pub return_address_lem : (h : ℕ) (img x y : List ℕ) → length img ≡ 96 → x ≡ cleared img → y ≡ with_address x h → y ≡ blank_return true h
unfolding cleared blank_return with_address
return_address_lem h img x y l e f = f ∙ ap (λ (z : List ℕ). scatter z (run 0 8) (little_endian 8 h)) (e ∙ ap (λ (n : ℕ). replicate n 0) l)

length-blank_return : (b : Bool) (h : ℕ) → length (blank_return b h) ≡ 96
unfolding blank_return
length-blank_return true h = refl
length-blank_return false h = refl

-- ---- placing

module _ (plan : List ℕ) (h : ℕ) (vals img : List ℕ) where
  abbrev pub PlaceEnd : Result Registers Refusal → List ℕ → Type 0
  PlaceEnd x y = (x ≡ place_answer_by plan h vals (length img)) × (y ≡ image_after_by plan h vals img)

  pub place_kept : (place_refusal_by plan h vals (length img) ≡ 0 → ⊥) → (r : Refusal) → r ≡ refusal_of (place_refusal_by plan h vals (length img))
      → (x : Result Registers Refusal) → x ≡ Err r → PlaceEnd x img
  unfolding place_answer_by image_after_by
  place_kept z r e x f =
      let q = ne_eqb (place_refusal_by plan h vals (length img)) 0 z in
      (rw q (f ∙ ap Err e), rw q)

  module _ (zero : place_refusal_by plan h vals (length img) ≡ 0) where
    pub place-room : 304 ≤ length img
    place-room = omega (arith, (gather-sure plan (length vals) (length img) (place-sure plan h vals (length img) zero)).1.1)

    pub place-ends : end_of plan ≤ length plan
    place-ends = (formed plan (gather-sure plan (length vals) (length img) (place-sure plan h vals (length img) zero)).0).ends

    pub place-fits : (u : Bool) (x : List ℕ) → x ≡ empty_in (framed u [] (length img - 304)) h → (ms : List Move) → ms ≡ moves_in plan → all_fit (length vals) (length x) ms ≡ true
    place-fits u x e ms m =
        let s = gather-sure plan (length vals) (length img) (place-sure plan h vals (length img) zero) in
        let l : length x ≡ length img = ap (λ (y : List ℕ). length y) e ∙ length-blank u h (length img - 304) ∙ omega (arith, s.1.1) in
        rw (m, l, s.1.0, s.1.1) (formed plan s.0).fit

    pub place-done : (u : Bool) → u ≡ used_by plan → (x y : List ℕ) → x ≡ empty_in (framed u [] (length img - 304)) h → (ms : List Move) → ms ≡ moves_in plan
        → y ≡ move_all x vals ms → (k : ℕ) → k ≡ vectors_in plan → PlaceEnd (Ok (record { 0 = k })) y
    unfolding place_answer_by image_after_by placed_by
    place-done u qu x y p ms m q k v =
        let s = gather-sure plan (length vals) (length img) (place-sure plan h vals (length img) zero) in
        let j : length img - 304 ≡ area_in plan = omega (arith, s.1.1) in
        let z = eq-eqb (place_refusal_by plan h vals (length img)) 0 zero in (
          rw (z, v),
          rw z (q ∙ ap₂ (λ (i : List ℕ) (l : List Move). move_all i vals l) (p ∙ ap₂ (λ (b : Bool) (i : ℕ). empty_in (framed b [] i) h) qu j) m),
        )

-- ---- gathering

module _ (plan img vals : List ℕ) where
  abbrev pub GatherEnd : Result ℕ Refusal → List ℕ → Type 0
  GatherEnd x y = (x ≡ gather_answer_by plan img (length vals)) × (y ≡ values_after_by plan img vals)

  pub gather-kept : (gather_refusal_by plan (length vals) (length img) ≡ 0 → ⊥) → (r : Refusal) → r ≡ refusal_of (gather_refusal_by plan (length vals) (length img))
      → (x : Result ℕ Refusal) → x ≡ Err r → GatherEnd x vals
  unfolding gather_answer_by values_after_by
  gather-kept z r e x f =
      let q = ne_eqb (gather_refusal_by plan (length vals) (length img)) 0 z in
      (rw q (f ∙ ap Err e), rw q)

  module _ (zero : gather_refusal_by plan (length vals) (length img) ≡ 0) where
    pub gather-ends : end_of plan ≤ length plan
    gather-ends = (formed plan (gather-sure plan (length vals) (length img) zero).0).ends

    pub gather-room : 8 ≤ length img
    gather-room = omega (arith, (gather-sure plan (length vals) (length img) zero).1.1)

    pub gather-fits : (ms : List Move) → ms ≡ moves_in plan → all_fit (length img) (length vals) (turned_all ms) ≡ true
    gather-fits ms m =
        let s = gather-sure plan (length vals) (length img) zero in
        all_fit-turned (length vals) (length img) ms ∙ rw (m, s.1.0, s.1.1) (formed plan s.0).fit

    pub gather-done : (a : ℕ) → a ≡ cond (used_by plan) (address_in img) 0 → (y : List ℕ) (ms : List Move) → ms ≡ moves_in plan → y ≡ move_all vals img (turned_all ms) → GatherEnd (Ok a) y
    unfolding gather_answer_by values_after_by gathered_by own_address address_in
    gather-done a p y ms m q =
        let z = eq-eqb (gather_refusal_by plan (length vals) (length img)) 0 zero in
        (rw z (ap Ok (p ∙ own (used_by plan))), rw z (q ∙ ap (λ (l : List Move). move_all vals img (turned_all l)) m))
      where
        own : (u : Bool) → cond u (number (gather img rdi)) 0 ≡ number (gather img (cond u rdi []))
        own true = refl
        own false = refl

-- ---- putting

module _ (plan : List ℕ) (h : ℕ) (v img : List ℕ) where
  abbrev pub PutEnd : Result (Unit {0}) Refusal → List ℕ → Type 0
  PutEnd x y = (x ≡ put_answer_by plan h v (length img)) × (y ≡ return_image_by plan h v img)

  pub put-kept : (put_refusal_by plan h v (length img) ≡ 0 → ⊥) → (r : Refusal) → r ≡ refusal_of (put_refusal_by plan h v (length img))
      → (x : Result (Unit {0}) Refusal) → x ≡ Err r → PutEnd x img
  unfolding put_answer_by return_image_by
  put-kept z r e x f =
      let q = ne_eqb (put_refusal_by plan h v (length img)) 0 z in
      (rw q (f ∙ ap Err e), rw q)

  module _ (zero : put_refusal_by plan h v (length img) ≡ 0) where
    pub put-room : length img ≡ 96
    put-room = (take-sure plan (length v) (length img) (put-sure plan h v (length img) zero)).1.1

    pub put-fits : (u : Bool) (x : List ℕ) → x ≡ blank_return u h → (ms : List Move) → ms ≡ return_moves_in plan → all_fit (length v) (length x) ms ≡ true
    put-fits u x e ms m =
        let s = take-sure plan (length v) (length img) (put-sure plan h v (length img) zero) in
        let l : length x ≡ 96 = ap (λ (y : List ℕ). length y) e ∙ length-blank_return u h in
        rw (m, l, s.1.0) (returned-sure plan s.0)

    pub put-done : (u : Bool) → u ≡ used_by plan → (x y : List ℕ) → x ≡ blank_return u h → (ms : List Move) → ms ≡ return_moves_in plan → y ≡ move_all x v ms → PutEnd (Ok tt) y
    unfolding put_answer_by return_image_by put_by
    put-done u qu x y p ms m q =
        let z = eq-eqb (put_refusal_by plan h v (length img)) 0 zero in
        (rw z, rw z (q ∙ ap₂ (λ (i : List ℕ) (l : List Move). move_all i v l) (p ∙ ap (λ (b : Bool). blank_return b h) qu) m))

-- ---- taking

module _ (plan img v : List ℕ) where
  abbrev pub TakeEnd : Result ℕ Refusal → List ℕ → Type 0
  TakeEnd x y = (x ≡ take_answer_by plan img (length v)) × (y ≡ returned_after_by plan img v)

  pub take-kept : (take_refusal_by plan (length v) (length img) ≡ 0 → ⊥) → (r : Refusal) → r ≡ refusal_of (take_refusal_by plan (length v) (length img))
      → (x : Result ℕ Refusal) → x ≡ Err r → TakeEnd x v
  unfolding take_answer_by returned_after_by
  take-kept z r e x f =
      let q = ne_eqb (take_refusal_by plan (length v) (length img)) 0 z in
      (rw q (f ∙ ap Err e), rw q)

  module _ (zero : take_refusal_by plan (length v) (length img) ≡ 0) where
    pub take-room : 8 ≤ length img
    take-room = omega (arith, (take-sure plan (length v) (length img) zero).1.1)

    pub take-fits : (x : List ℕ) → x ≡ cleared v → (ms : List Move) → ms ≡ return_moves_in plan → all_fit (length img) (length x) (turned_all ms) ≡ true
    unfolding cleared
    take-fits x e ms m =
        let s = take-sure plan (length v) (length img) zero in
        let l : length x ≡ length v = ap (λ (y : List ℕ). length y) e ∙ length-replicate {A = ℕ} (length v) 0 in
        all_fit-turned (length x) (length img) ms ∙ rw (m, l, s.1.0, s.1.1) (returned-sure plan s.0)

    pub take-done : (a : ℕ) → a ≡ cond (used_by plan) (address_in img) 0 → (x y : List ℕ) → x ≡ cleared v → (ms : List Move) → ms ≡ return_moves_in plan
        → y ≡ move_all x img (turned_all ms) → TakeEnd (Ok a) y
    unfolding take_answer_by returned_after_by taken_by cleared address_by address_in
    take-done a f x y p ms m q =
        let z = eq-eqb (take_refusal_by plan (length v) (length img)) 0 zero in
        (rw z (ap Ok f), rw z (q ∙ ap₂ (λ (i : List ℕ) (l : List Move). move_all i img (turned_all l)) p m))
