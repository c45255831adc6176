-- The images of document 01 and of request 2026-06 are a sound frame, and its orders are as they should be: so what is proved of any layout holds of it. Assumes nothing.
use mathlib.Core.Path.{◌≡◌, refl, sym, ap, ◌∙◌}
use mathlib.Core.Bool.{Bool, true, false, cond}
use mathlib.Core.List.{List, []}
use mathlib.Core.Logic.{◌≢◌}
use Prim.Native.Nat.{ℕ, ◌+◌, ◌^◌, ◌≤◌, ◌<◌}
use native.Mathlib.Omega.{arith}
use borrow.Author.Tests.{eq-eqb, eqb-true, not-false}
use lib.Dec.{eqb}
use lib.ListN.{length}
use Rattle.description.specs.Description.{model_in}
use Rattle.addresses.specs.Addresses.{All, NoDup, Below, Absent}
use Rattle.addresses.proofs.Lists.{all_map}
use Rattle.addresses.proofs.Runs.{all-run, nodup_run}
use Rattle.form.specs.Order.{Without}
use Rattle.form.proofs.Form.{or_none}
use Rattle.places.specs.Places.{eights}
use Rattle.places.specs.Images.{stack_at}
use Rattle.places.proofs.Apart.{all-seated, addresses-packed, addresses-below, addresses-past, length-addresses}
use Rattle.layout.specs.Arguments.{shapes, hidden, used_first, area_of}
use Rattle.layout.specs.Layout.{values_of, layout_of}
use Rattle.layout.specs.Verdict.{check_order, verdict}
use Rattle.layout.proofs.Bounds.{all-shaped}
use Rattle.layout.proofs.Verdict.{check-positive}
use Rattle.images.specs.Words.{rdi, address_in}
use Rattle.moving.specs.Asks.{Lent}
use Rattle.moving.specs.Orders.{wrong_length, place_refusal}
use Rattle.moving.specs.Images.{addresses_of, frame_of, amd64}
use Rattle.moving.specs.Frames.{room, Sound, own_address, passed}
use Rattle.moving.specs.Movers.{Ordered}
use Rattle.moving.proofs.Address.{address-unused}
use Rattle.moving.proofs.Turns.{right}
use Rattle.moving.proofs.Orders.{gather-fits, place-accepted}

-- ---- an accepted description's images are a sound frame

module _ (d : List ℕ) (accepted : verdict d ≡ 0) where
  length-all : length (addresses_of d) ≡ values_of d
  unfolding addresses_of values_of
  length-all = length-addresses stack_at eights (shapes d) (used_first d) (all-shaped d (right d accepted))

  past : hidden d ≡ true → All (λ k. 8 ≤ k) (addresses_of d)
  unfolding addresses_of
  past e = addresses-past eights (shapes d) (used_first d) (all-shaped d (right d accepted)) (rw e (omega arith))

  -- the stack image begins behind the two others
  room-is : room (frame_of d) ≡ stack_at + area_of d
  room-is = omega arith

  frame-sound : Sound (frame_of d)
  unfolding addresses_of area_of
  frame-sound = record {
    once = (addresses-packed stack_at eights (shapes d) (used_first d) (all-shaped d (right d accepted)) (all-seated (shapes d))).once;
    inside = rw room-is (addresses-below stack_at eights (shapes d) (used_first d) (all-shaped d (right d accepted)) (all-seated (shapes d)));
    past = by (hidden d) refl;
    apart = single (hidden d);
    within = low (hidden d);
  }
    where
      by : (b : Bool) → hidden d ≡ b → All (λ k. Absent k (addresses_of d)) (cond b rdi [])
      by true e = all-run {P = λ k. Absent k (addresses_of d)} 0 8 (λ k l m. all_map (λ p q z. omega arith) (addresses_of d) (past e))
      by false e = tt

      single : (b : Bool) → NoDup (cond b rdi [])
      single true = nodup_run 0 8
      single false = tt

      low : (b : Bool) → Below (room (frame_of d)) (cond b rdi [])
      low true = all-run {P = λ k. k < room (frame_of d)} 0 8 (λ k l m. omega arith)
      low false = tt

-- ---- its hidden address: rdi's where it is used, and else 0

pub own-used : (d img : List ℕ) → hidden d ≡ true → own_address (frame_of d) img ≡ address_in img
unfolding own_address address_in
own-used d img e = rw e

pub own-unused : (d img : List ℕ) → hidden d ≡ false → own_address (frame_of d) img ≡ 0
unfolding own_address
own-unused d img e = rw e

pub passed-hidden : (d : List ℕ) (h : ℕ) → passed (frame_of d) h ≡ cond (hidden d) h 0
unfolding passed
passed-hidden d h = by (hidden d)
  where
    by : (b : Bool) → cond (eqb (length (cond b rdi [])) 0) 0 h ≡ cond b h 0
    by true = refl
    by false = refl

-- ---- the lengths

module _ (d : List ℕ) (v r y s : ℕ) where
  pub lent-right : Lent d v r y s → wrong_length (layout_of d) v r y s ≡ false
  unfolding wrong_length layout_of
  lent-right h = rw (eq-eqb v (values_of d) h.values, eq-eqb r 176 h.registers, eq-eqb y 128 h.upper, eq-eqb s _ h.stack)

  pub right-lent : verdict d ≡ 0 → wrong_length (layout_of d) v r y s ≡ false → Lent d v r y s
  unfolding wrong_length layout_of
  right-lent a h =
      let p = or_none _ _ h in
      let q = or_none _ _ p.1 in
      let o = or_none _ _ q.1 in
      record {
        accepted = a;
        values = eqb-true _ _ (not-false _ p.0);
        registers = eqb-true _ _ (not-false _ q.0);
        upper = eqb-true _ _ (not-false _ o.0);
        stack = eqb-true _ _ (not-false _ o.1);
      }

-- ---- its orders

-- 1 to 10 are no other number
pub check-without : (d : List ℕ) (n : ℕ) → 10 < n → Without n (check_order d)
check-without d n l = (
  (λ z. omega arith),
  (
    (λ z. omega arith),
    (
      (λ z. omega arith),
      (
        (λ z. omega arith),
        (
          (λ z. omega arith),
          ((λ z. omega arith), ((λ z. omega arith), ((λ z. omega arith), ((λ z. omega arith), ((λ z. omega arith), tt))))),
        ),
      ),
    ),
  ),
)

address_room : (b : Bool) (h : ℕ) → h < 2 ^ 64 → cond b rdi [] ≢ [] → h < 256 ^ length (cond b rdi [])
address_room true h l n = l
address_room false h l n = absurd (n refl)

address_unseen : (d : List ℕ) (h g : ℕ) → (frame_of d).address ≡ [] → amd64.address_order d h ≡ amd64.address_order d g
address_unseen d h g e = by (hidden d) refl e
  where
    by : (b : Bool) → hidden d ≡ b → cond b rdi [] ≡ [] → amd64.address_order d h ≡ amd64.address_order d g
    by true f z = absurd (let n : ◌≡◌ {A = ℕ} 8 0 = ap length z in omega arith)
    by false f z = rw (f, address-unused (model_in d) h, address-unused (model_in d) g)

pub amd64-ordered : Ordered amd64
unfolding verdict
amd64-ordered = record {
  sound = frame-sound;
  lengths = λ d v r y s a. (
    λ e. let l = right-lent d v r y s a e in (l.values ∙ sym (length-all d a), l.registers, l.upper, l.stack),
    λ l. lent-right d v r y s (record { accepted = a; values = l.0 ∙ length-all d a; registers = l.1; upper = l.2; stack = l.3 }),
  );
  positive = check-positive;
  without = λ d. check-without d 12 (omega arith);
  address_positive = λ d h. (omega arith, tt);
  address_without = λ d h. ((λ z. omega arith), tt);
  fits = λ d h l n. address_room (hidden d) h l;
  unseen = address_unseen;
}

-- what an accepted placing is sure of
pub placed-lent : (d : List ℕ) (h : ℕ) (vals : List ℕ) (r y s : ℕ) → place_refusal amd64 d h vals r y s ≡ 0 → Lent d (length vals) r y s
unfolding verdict
placed-lent d h vals r y s e =
    let f = gather-fits amd64 amd64-ordered d (length vals) r y s (place-accepted amd64 amd64-ordered d h vals r y s e).0 in
    record { accepted = f.accepted; values = f.values ∙ length-all d f.accepted; registers = f.registers; upper = f.upper; stack = f.stack }
