-- The image of the 386 kind is a sound frame and its orders are as they should be: so what is proved of any layout holds of it. Assumes nothing.
use mathlib.Core.Path.{◌≡◌, refl, sym, ap, ◌∙◌}
use mathlib.Core.Bool.{Bool, true, false}
use mathlib.Core.List.{List, [], ◌∷◌}
use mathlib.Core.Logic.{◌≢◌, ◌↔◌}
use Prim.Native.Nat.{ℕ, ◌^◌, ◌<◌}
use native.Mathlib.Omega.{arith}
use borrow.Author.Tests.{eq-eqb, eqb-true, not-false}
use lib.ListN.{length}
use Rattle.description.specs.declared.Model.TheVariants.{Ilp32}
use Rattle.form.specs.Order.{rule, first}
use Rattle.form.proofs.Order.{none-till, without-append, held, first-behind}
use Rattle.form.proofs.Form.{or_none}
use Rattle.moving.specs.Address.{wrong_address}
use Rattle.moving.specs.Movers.{Ordered}
use Rattle.moving.specs.Orders.{wrong_bool, gather_order, gather_refusal, place_refusal}
use Rattle.moving.proofs.Address.{address-wrong, address_right, address-unused}
use Rattle.moving.proofs.Orders.{gather-positive, place-stopped}
use Rattle.intel386.specs.Arguments.{hidden, address_for, area_of, values_of}
use Rattle.intel386.specs.Verdict.{check_order}
use Rattle.intel386.specs.Images.{frame_of, wrong_length, old386}
use Rattle.intel386.specs.Statements.{TooWide, TwentySevenExactly}
use Rattle.intel386.proofs.Lawful.{check-positive, check-without}
use Rattle.intel386.proofs.Places.{length-all, frame-sound}

module _ (d : List ℕ) (v r y s : ℕ) where
  lengths : (wrong_length d v r y s ≡ false) ↔ ((v ≡ values_of d) × (r ≡ 0) × (y ≡ 0) × (s ≡ area_of d))
  unfolding wrong_length
  lengths = (
    λ e. let p = or_none _ _ e in
        let q = or_none _ _ p.1 in
        let o = or_none _ _ q.1 in
        (eqb-true _ _ (not-false _ p.0), eqb-true _ _ (not-false _ q.0), eqb-true _ _ (not-false _ o.0), eqb-true _ _ (not-false _ o.1)),
    λ h. rw (eq-eqb v (values_of d) h.0, eq-eqb r 0 h.1, eq-eqb y 0 h.2, eq-eqb s (area_of d) h.3),
  )

-- an address that is not refused has room in 4 bytes
address_room : (b : Bool) (h : ℕ) → wrong_address Ilp32 b h ≡ false → address_for b ≢ [] → h < 256 ^ length (address_for b)
address_room true h e n = (address_right Ilp32 true h).0 e refl refl
address_room false h e n = absurd (n refl)

address_unseen : (d : List ℕ) (h g : ℕ) → (frame_of d).address ≡ [] → old386.address_order d h ≡ old386.address_order d g
address_unseen d h g e = by (hidden d) refl e
  where
    by : (b : Bool) → hidden d ≡ b → address_for b ≡ [] → old386.address_order d h ≡ old386.address_order d g
    by true f z = absurd (let n : ◌≡◌ {A = ℕ} 4 0 = ap length z in omega arith)
    by false f z = rw (f, address-unused Ilp32 h, address-unused Ilp32 g)

pub old386-ordered : Ordered old386
old386-ordered = record {
  sound = λ d e. frame-sound d;
  lengths = λ d v r y s a. (
    λ e. let l = (lengths d v r y s).0 e in (l.0 ∙ sym (length-all d), l.1, l.2, l.3),
    λ l. (lengths d v r y s).1 (l.0 ∙ length-all d, l.1, l.2, l.3),
  );
  positive = check-positive;
  without = λ d. check-without d 12 (omega arith) (λ e. omega arith);
  address_positive = λ d h. (omega arith, tt);
  address_without = λ d h. ((λ z. omega arith), tt);
  fits = λ d h l n. address_room (hidden d) h n.0;
  unseen = address_unseen;
}

-- ---- 27

wide-wrong : (d : List ℕ) (h : ℕ) → (wrong_address Ilp32 (hidden d) h ≡ true) ↔ TooWide d h
wide-wrong d h =
    let k = address-wrong Ilp32 (hidden d) h in
    ((λ e. record { used = (k.0 e).1; wide = (k.0 e).2 }), (λ w. k.1 (refl, w.used, w.wide)))

pub twenty_seven_exactly : TwentySevenExactly
unfolding gather_refusal place_refusal
twenty_seven_exactly d h vals r y s = (told, tells)
  where
    told : place_refusal old386 d h vals r y s ≡ 27 → (gather_refusal old386 d (length vals) r y s ≡ 0) × TooWide d h
    told e =
        let later = rule 27 (wrong_address Ilp32 (hidden d) h) ∷ rule 12 (wrong_bool old386 d vals) ∷ [] in
        let before = gather_order old386 d (length vals) r y s in
        let ok = none-till before later 27 (without-append (check_order d) (rule 11 (wrong_length d (length vals) r y s) ∷ []) 27 (check-without d 27 (omega arith) (λ z. omega arith)) ((λ z. omega arith), tt)) e in
        let k = held [] 27 (wrong_address Ilp32 (hidden d) h) (rule 12 (wrong_bool old386 d vals) ∷ []) tt (λ z. omega arith) tt ((λ z. omega arith), tt)
        (sym (first-behind before later (gather-positive old386 old386-ordered d (length vals) r y s) ok) ∙ e) in
        (ok, (wide-wrong d h).0 k.1)

    tells : (gather_refusal old386 d (length vals) r y s ≡ 0) × TooWide d h → place_refusal old386 d h vals r y s ≡ 27
    tells p =
        let e : first (old386.address_order d h) ≡ 27 = rw ((wide-wrong d h).1 p.1) in
        place-stopped old386 old386-ordered d h vals r y s p.0 (λ z. omega (arith, e, z)) ∙ e
