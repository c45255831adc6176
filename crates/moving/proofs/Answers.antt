-- What the two calls answer and leave, from what they call. Assumes nothing.
use Rattle.std.specs.Prelude.{Err, Ok, Result}
use mathlib.Core.Path.{◌≡◌, refl, sym, ap, ◌∙◌}
use mathlib.Core.Bool.{Bool, true, false, cond}
use mathlib.Core.List.{List, ◌++◌}
use Prim.Native.Nat.{ℕ, ◌<◌}
use native.Mathlib.Omega.{arith}
use borrow.Author.Tests.{eq-eqb, ne_eqb}
use lib.ListN.{length, take, drop}
use lib.Seq.{take_at, drop_at}
use Rattle.addresses.proofs.Runs.{all-run}
use Rattle.addresses.proofs.Parts.{gather-left}
use Rattle.description.specs.Description.{model_in}
use Rattle.form.specs.declared.Refusal.{Refusal}
use Rattle.form.specs.Order.{first}
use Rattle.form.specs.Reading.{refusal_of}
use Rattle.types.specs.Wrong.{refusal_for}
use Rattle.types.proofs.Wrong.{no_type}
use Rattle.layout.specs.declared.Layout.{Layout}
use Rattle.layout.specs.Arguments.{hidden}
use Rattle.layout.specs.Layout.{layout_of, layout_answer}
use Rattle.layout.specs.Verdict.{verdict}
use Rattle.layout.proofs.Layouts.{laid-accepted, refused-verdict, refused-nonzero}
use Rattle.images.specs.Words.{number, rdi, address_in}
use Rattle.moving.specs.Address.{wrong_address}
use Rattle.moving.specs.Images.{frame_of, amd64}
use Rattle.moving.specs.Frames.{placed_in, gathered_in, own_address}
use Rattle.moving.specs.Orders.{wrong_length, wrong_bool, place_refusal, gather_refusal}
use Rattle.moving.specs.Answers.{place_answer, registers_after, upper_after, stack_after, gather_answer, values_after}
use Rattle.moving.specs.Asks.{Lent}
use Rattle.moving.proofs.Orders.{gather-before, gather-behind, place-before, place-behind, place-stopped}
use Rattle.moving.proofs.Amd64.{amd64-ordered, right-lent, own-used, own-unused}
use Rattle.units.specs.declared.Registers.{Registers}

-- ---- by which number gathering is refused, and placing too where there is one

module _ (d : List ℕ) (v r y s : ℕ) where
  refused-early : (verdict d ≡ 0 → ⊥) → gather_refusal amd64 d v r y s ≡ verdict d
  unfolding verdict
  refused-early n = gather-before amd64 amd64-ordered d v r y s n

  by_lengths : verdict d ≡ 0 → (b : Bool) → wrong_length (layout_of d) v r y s ≡ b → gather_refusal amd64 d v r y s ≡ cond b 11 0
  unfolding verdict
  by_lengths a b e = gather-behind amd64 amd64-ordered d v r y s a b e

-- ---- placing

module _ (d : List ℕ) (h : ℕ) (vals r y s : List ℕ) where
  abbrev pub PlaceEnd : Result Registers Refusal → List ℕ → List ℕ → List ℕ → Type 0
  PlaceEnd x r' y' s' =
      (x ≡ place_answer amd64 d h vals (length r) (length y) (length s))
      × ((r' ≡ registers_after amd64 d h vals r y s) × ((y' ≡ upper_after amd64 d h vals r y s) × (s' ≡ stack_after amd64 d h vals r y s)))

  place-refused : (x : Refusal) (n : ℕ) → x ≡ refusal_for d n → place_refusal amd64 d h vals (length r) (length y) (length s) ≡ n → (n ≡ 0 → ⊥) → PlaceEnd (Err x) r y s
  unfolding place_answer registers_after upper_after stack_after
  place-refused x n e f z =
      let q = ne_eqb (place_refusal amd64 d h vals (length r) (length y) (length s)) 0 (λ p. z (sym f ∙ p)) in
      (rw q (ap Err (e ∙ ap (refusal_for d) (sym f))), (rw q, (rw q, rw q)))

  -- 1 to 11
  place-as_gather : (x : Refusal) (n : ℕ) → x ≡ refusal_for d n → gather_refusal amd64 d (length vals) (length r) (length y) (length s) ≡ n → (n ≡ 0 → ⊥) → PlaceEnd (Err x) r y s
  place-as_gather x n e f z = place-refused x n e (place-before amd64 amd64-ordered d h vals (length r) (length y) (length s) (λ p. z (sym f ∙ p)) ∙ f) z

  pub place-laid_not : (x z : Refusal) → layout_answer d ≡ Err z → x ≡ z → PlaceEnd (Err x) r y s
  place-laid_not x z a e =
      let nonzero = refused-nonzero d z a in
      place-as_gather x (verdict d) (e ∙ refused-verdict d z a) (refused-early d (length vals) (length r) (length y) (length s) nonzero) nonzero

  module _ (l : Layout) (laid : layout_answer d ≡ Ok l) where
    same-lengths : (b : Bool) → wrong_length l (length vals) (length r) (length y) (length s) ≡ b → wrong_length (layout_of d) (length vals) (length r) (length y) (length s) ≡ b
    same-lengths b e = ap (λ (x : Layout). wrong_length x (length vals) (length r) (length y) (length s)) (sym (laid-accepted d l laid).1) ∙ e

    pub place-wrong_length : (x : Refusal) → x ≡ refusal_of 11 → wrong_length l (length vals) (length r) (length y) (length s) ≡ true → PlaceEnd (Err x) r y s
    place-wrong_length x e w =
        place-as_gather x 11 (e ∙ sym (no_type d 11 refl refl)) (by_lengths d (length vals) (length r) (length y) (length s) (laid-accepted d l laid).0 true (same-lengths true w)) (λ z. omega arith)

    module _ (w : wrong_length l (length vals) (length r) (length y) (length s) ≡ false) where
      pub place-lengths : Lent d (length vals) (length r) (length y) (length s)
      place-lengths = right-lent d (length vals) (length r) (length y) (length s) (laid-accepted d l laid).0 (same-lengths false w)

      lengths-right : gather_refusal amd64 d (length vals) (length r) (length y) (length s) ≡ 0
      lengths-right = by_lengths d (length vals) (length r) (length y) (length s) place-lengths.accepted false (same-lengths false w)

      pub place-hidden : l.hidden ≡ hidden d
      unfolding layout_of
      place-hidden = ap (λ (x : Layout). x.hidden) (laid-accepted d l laid).1

      module _ (a : Bool) (wide : a ≡ wrong_address (model_in d) l.hidden h) where
        address_is : wrong_address (model_in d) (hidden d) h ≡ a
        address_is = ap (λ (b : Bool). wrong_address (model_in d) b h) (sym place-hidden) ∙ sym wide

        pub place-wrong_address : (x : Refusal) → x ≡ refusal_of 27 → a ≡ true → PlaceEnd (Err x) r y s
        place-wrong_address x e t =
            let stops : first (amd64.address_order d h) ≡ 27 = rw (address_is ∙ t) in
            place-refused x 27 (e ∙ sym (no_type d 27 refl refl))
            (place-stopped amd64 amd64-ordered d h vals (length r) (length y) (length s) lengths-right (λ z. omega (arith, stops, z)) ∙ stops) (λ z. omega arith)

      module _ (a : Bool) (wide : a ≡ wrong_address (model_in d) l.hidden h) (narrow : a ≡ false) (t : Bool) (found : t ≡ wrong_bool amd64 d vals) where
        place-late : (b : Bool) → wrong_bool amd64 d vals ≡ b → place_refusal amd64 d h vals (length r) (length y) (length s) ≡ cond b 12 0
        place-late b e = place-behind amd64 amd64-ordered d h vals (length r) (length y) (length s) lengths-right (address_is a wide ∙ narrow, tt) b e

        pub place-wrong_bool : (x : Refusal) → x ≡ refusal_of 12 → t ≡ true → PlaceEnd (Err x) r y s
        place-wrong_bool x e b = place-refused x 12 (e ∙ sym (no_type d 12 refl refl)) (place-late true (sym found ∙ b)) (λ z. omega arith)

        pub place-done : (r'' y'' s'' : List ℕ) → t ≡ false → length r'' ≡ length r → length y'' ≡ length y → r'' ++ (y'' ++ s'') ≡ placed_in (frame_of d) h vals
            → PlaceEnd (Ok l.used.vector) r'' y'' s''
        unfolding place_answer registers_after upper_after stack_after layout_of
        place-done r'' y'' s'' b k o img =
            let none = place-late false (sym found ∙ b) in
            let q = eq-eqb (place_refusal amd64 d h vals (length r) (length y) (length s)) 0 none in
            let long : length r'' ≡ 176 = k ∙ place-lengths.registers in
            let above : length y'' ≡ 128 = o ∙ place-lengths.upper in
            let behind : y'' ++ s'' ≡ drop 176 (placed_in (frame_of d) h vals) = sym (drop_at r'' (y'' ++ s'') 176 long) ∙ ap (drop 176) img in (
              rw q (ap Ok (ap (λ (x : Layout). x.used.vector) (laid-accepted d l laid).1)),
              (
                rw q (sym (take_at r'' (y'' ++ s'') 176 long) ∙ ap (take 176) img),
                (rw q (sym (take_at y'' s'' 128 above) ∙ ap (take 128) behind), rw q (sym (drop_at y'' s'' 128 above) ∙ ap (drop 128) behind)),
              ),
            )

-- ---- gathering

module _ (d r y s v : List ℕ) where
  abbrev pub GatherEnd : Result ℕ Refusal → List ℕ → Type 0
  GatherEnd x v' = (x ≡ gather_answer amd64 d r y s (length v)) × (v' ≡ values_after amd64 d r y s v)

  gather-refused : (x : Refusal) (n : ℕ) → x ≡ refusal_for d n → gather_refusal amd64 d (length v) (length r) (length y) (length s) ≡ n → (n ≡ 0 → ⊥) → GatherEnd (Err x) v
  unfolding gather_answer values_after
  gather-refused x n e f z =
      let q = ne_eqb (gather_refusal amd64 d (length v) (length r) (length y) (length s)) 0 (λ p. z (sym f ∙ p)) in
      (rw q (ap Err (e ∙ ap (refusal_for d) (sym f))), rw q)

  pub gather-laid_not : (x z : Refusal) → layout_answer d ≡ Err z → x ≡ z → GatherEnd (Err x) v
  gather-laid_not x z a e =
      let nonzero = refused-nonzero d z a in
      gather-refused x (verdict d) (e ∙ refused-verdict d z a) (refused-early d (length v) (length r) (length y) (length s) nonzero) nonzero

  module _ (l : Layout) (laid : layout_answer d ≡ Ok l) where
    same-lengths_2 : (b : Bool) → wrong_length l (length v) (length r) (length y) (length s) ≡ b → wrong_length (layout_of d) (length v) (length r) (length y) (length s) ≡ b
    same-lengths_2 b e = ap (λ (x : Layout). wrong_length x (length v) (length r) (length y) (length s)) (sym (laid-accepted d l laid).1) ∙ e

    pub gather-wrong_length : (x : Refusal) → x ≡ refusal_of 11 → wrong_length l (length v) (length r) (length y) (length s) ≡ true → GatherEnd (Err x) v
    gather-wrong_length x e w =
        gather-refused x 11 (e ∙ sym (no_type d 11 refl refl)) (by_lengths d (length v) (length r) (length y) (length s) (laid-accepted d l laid).0 true (same-lengths_2 true w)) (λ z. omega arith)

    module _ (w : wrong_length l (length v) (length r) (length y) (length s) ≡ false) where
      pub gather-lengths : Lent d (length v) (length r) (length y) (length s)
      gather-lengths = right-lent d (length v) (length r) (length y) (length s) (laid-accepted d l laid).0 (same-lengths_2 false w)

      pub gather-hidden : l.hidden ≡ hidden d
      unfolding layout_of
      gather-hidden = ap (λ (x : Layout). x.hidden) (laid-accepted d l laid).1

      gather-done : (x : ℕ) (v' : List ℕ) → x ≡ own_address (frame_of d) (r ++ (y ++ s)) → v' ≡ gathered_in (frame_of d) (r ++ (y ++ s)) → GatherEnd (Ok x) v'
      unfolding gather_answer values_after
      gather-done x v' e f =
          let q = eq-eqb (gather_refusal amd64 d (length v) (length r) (length y) (length s)) 0 (by_lengths d (length v) (length r) (length y) (length s) gather-lengths.accepted false (same-lengths_2 false w)) in
          (rw q (ap Ok e), rw q f)

      is_hidden : (b : Bool) → l.hidden ≡ b → hidden d ≡ b
      unfolding layout_of
      is_hidden b e = sym (ap (λ (x : Layout). x.hidden) (laid-accepted d l laid).1) ∙ e

      pub gather_none : (v' : List ℕ) → l.hidden ≡ false → v' ≡ gathered_in (frame_of d) (r ++ (y ++ s)) → GatherEnd (Ok 0) v'
      gather_none v' e f = gather-done 0 v' (sym (own-unused d (r ++ (y ++ s)) (is_hidden false e))) f

      pub gather-address : (x : ℕ) (v' : List ℕ) → l.hidden ≡ true → x ≡ address_in r → v' ≡ gathered_in (frame_of d) (r ++ (y ++ s)) → GatherEnd (Ok x) v'
      unfolding address_in
      gather-address x v' e g f =
          let long : length r ≡ 176 = gather-lengths.registers in
          gather-done x v' (g ∙ ap number (sym (gather-left rdi r (y ++ s) (all-run {P = λ p. p < length r} 0 8 (λ k m n. omega arith)))) ∙ sym (own-used d (r ++ (y ++ s)) (is_hidden true e))) f
