-- Open: which number, exactly, and the record. Assumes nothing.
use Rattle.std.specs.Prelude.{Err, Result}
use mathlib.Core.Path.{◌≡◌, refl, sym, ap, ◌∙◌}
use mathlib.Core.Logic.{◌↔◌, ◌≢◌}
use mathlib.Core.Bool.{true, false, cond, not}
use mathlib.Core.List.{List, [], ◌∷◌}
use Prim.Native.Nat.{ℕ, ◌≤◌}
use native.Mathlib.Omega.{arith}
use lib.ListN.{take}
use borrow.Author.Tests.{eq-eqb, ne_eqb}
use Rattle.description.specs.Description.{variadic_in, named_in, arguments_in}
use Rattle.form.specs.Order.{rule, first, NoneHolds, Answers, Positive}
use Rattle.form.specs.Reading.{refusal_of}
use Rattle.form.specs.declared.Refusal.{Refusal}
use Rattle.uses.specs.Uses.{uses_refusal}
use Rattle.uses.proofs.Uses.{accepted-typed}
use Rattle.places.specs.declared.Used.{Used}
use Rattle.layout.specs.Arguments.{used_at as layout_used}
use Rattle.layout.specs.Layout.{layout_of}
use Rattle.layout.specs.declared.Layout.{Layout}
use Rattle.station.specs.declared.Station.{Station}
use Rattle.station.specs.Paper.{Paper, kcb, verdict_of, answer_under}
use Rattle.station.specs.Attachment.{wrong_seat, described}
use Rattle.station.proofs.Attachments.{under-refused}
use Rattle.station.proofs.Kcb.{kcb-used}
use Rattle.walk.specs.declared.Walk.{Walk}
use Rattle.walk.specs.Offsets.{walk_at}
use Rattle.walk.specs.Orders.{with_offsets, standing, variadic_order, open_order, open_refusal}
use Rattle.walk.specs.Steps.{opened_if, open_walk, open_answer}
use Rattle.form.proofs.Order.{first-behind, first-before, positive-append, accepts-exactly, refuses-exactly}

-- ---- as an answer

pub opened-is : (P : Paper) (d : List ℕ) (n : ℕ) (w : Walk) → answer_under P d n w ≡ opened_if P d n w
unfolding answer_under opened_if
opened-is P d n w = refl

module _ (P : Paper) (d : List ℕ) where
  pub variadic-early : verdict_of P d ≢ 0 → first (variadic_order P d) ≡ verdict_of P d
  unfolding verdict_of
  variadic-early h = first-before (P.order d) (rule 16 (not (P.variadic d)) ∷ []) h

  pub variadic-late : verdict_of P d ≡ 0 → first (variadic_order P d) ≡ cond (not (P.variadic d)) 16 0
  unfolding verdict_of
  variadic-late e = first-behind (P.order d) (rule 16 (not (P.variadic d)) ∷ []) (P.counted d) e

pub plain-16 : (d : List ℕ) (b : ℕ) → verdict_of kcb d ≡ 0 → b ≡ variadic_in d → b ≢ 1 → first (variadic_order kcb d) ≡ 16
unfolding kcb
plain-16 d b e q h = variadic-late kcb d e ∙ (rw (ne_eqb (variadic_in d) 1 (λ p. h (q ∙ p))))

pub variadic-right : (d : List ℕ) (b : ℕ) → verdict_of kcb d ≡ 0 → b ≡ variadic_in d → b ≡ 1 → first (variadic_order kcb d) ≡ 0
unfolding kcb
variadic-right d b e q h = variadic-late kcb d e ∙ (rw (eq-eqb (variadic_in d) 1 (sym q ∙ h)))

-- the record before argument p, by the layout's fold
pub standing-is : (d : List ℕ) (n p : ℕ) (v : Walk) → p ≤ arguments_in d → v ≡ with_offsets n p (walk_at (layout_used d p)) → v ≡ standing kcb d n p
unfolding standing
standing-is d n p v l e = e ∙ ap (λ (u : Used). with_offsets n p (walk_at u)) (sym (kcb-used d p l))

pub standing-named : (d : List ℕ) (n p : ℕ) (l : Layout) (v : Walk) → uses_refusal d ≡ 0 → l ≡ layout_of d → p ≡ named_in d → v ≡ with_offsets n p (walk_at l.named)
    → v ≡ standing kcb d n (kcb.named d)
unfolding kcb layout_of
standing-named d n p l v u e q x =
    standing-is d n (named_in d) v (accepted-typed d u).named
    (x ∙ ap (λ (k : ℕ). with_offsets n k (walk_at l.named)) q ∙ ap (λ (m : Layout). with_offsets n (named_in d) (walk_at m.named)) e)

-- ---- open

module _ (P : Paper) (s : Station) (seat : List ℕ) where
  pub open_wrong : wrong_seat s seat ≡ true → open_refusal P s seat ≡ 11
  unfolding open_refusal
  open_wrong e = rw e

  pub open_idle : wrong_seat s seat ≡ false → s.attached ≡ false → open_refusal P s seat ≡ 13
  unfolding open_refusal
  open_idle e a = rw (e, a)

  pub open_rest : wrong_seat s seat ≡ false → s.attached ≡ true → open_refusal P s seat ≡ first (variadic_order P (described s seat))
  unfolding open_refusal
  open_rest e a = rw (e, a)

  open_positive : Positive (open_order P s seat)
  open_positive = (omega arith, (omega arith, positive-append (P.order (described s seat)) _ (P.counted (described s seat)) (omega arith, tt)))

  -- "Open: 11, 13, 1..10, 16"
  pub open_accepts : (open_refusal P s seat ≡ 0) ↔ NoneHolds (open_order P s seat)
  unfolding open_refusal
  open_accepts = accepts-exactly (open_order P s seat) open_positive

  pub open_refuses : (n : ℕ) → n ≢ 0 → (open_refusal P s seat ≡ n) ↔ Answers (open_order P s seat) n
  unfolding open_refusal
  open_refuses n h = refuses-exactly (open_order P s seat) n h

  pub answer-wrong : (r : Refusal) → r ≡ refusal_of 11 → wrong_seat s seat ≡ true → Err r ≡ open_answer P s seat
  unfolding open_answer
  answer-wrong r q e = under-refused P _ _ 11 r _ q (omega arith) (open_wrong e) ∙ opened-is P _ _ _

  pub answer-idle : (r : Refusal) → r ≡ refusal_of 13 → wrong_seat s seat ≡ false → s.attached ≡ false → Err r ≡ open_answer P s seat
  unfolding open_answer
  answer-idle r q e a = under-refused P _ _ 13 r _ q (omega arith) (open_idle e a) ∙ opened-is P _ _ _

  pub answer-rest : (r : Result Walk Refusal) → wrong_seat s seat ≡ false → s.attached ≡ true
      → r ≡ opened_if P (take s.length.0 seat) (first (variadic_order P (take s.length.0 seat))) (standing P (take s.length.0 seat) s.number (P.named (take s.length.0 seat)))
      → r ≡ open_answer P s seat
  unfolding open_answer open_walk described
  answer-rest r e a q = q ∙ ap (λ (n : ℕ). opened_if P (described s seat) n (open_walk P s seat)) (sym (open_rest e a))
