-- Which number refuses putting and taking, and what is sure where none does. Assumes nothing.
use mathlib.Core.Path.{◌≡◌, refl, sym, ◌∙◌}
use mathlib.Core.Bool.{Bool, true, false, cond, not, and-eq-true_iff, true≢false}
use mathlib.Core.List.{List, [], ◌∷◌}
use mathlib.Core.Logic.{◌↔◌, ◌≢◌}
use Prim.Native.Nat.{ℕ, ◌≤◌, ◌<◌}
use native.Mathlib.Omega.{arith}
use borrow.Author.Tests.{eq-eqb, ne_eqb, eqb-true, lt-ltb, ltb-true, not-true, not-false}
use lib.Dec.{eqb, ltb}
use lib.ListN.{length, get_or}
use Rattle.description.specs.Description.{return_in, model_in, kind_at, a_at}
use Rattle.form.specs.Order.{Rule, rule, Answers}
use Rattle.form.proofs.Order.{refuses-exactly, accepts-exactly, first-before, first-behind, first-both, none-till, never, without-append, held}
use Rattle.form.proofs.Form.{or_none}
use Rattle.layout.specs.Arguments.{is_void, hidden}
use Rattle.layout.specs.Verdict.{check_order, verdict}
use Rattle.moving.specs.Address.{wrong_address}
use Rattle.moving.specs.Orders.{is_bool, broken_byte}
use Rattle.moving.proofs.Amd64.{check-without}
use Rattle.returning.specs.Returned.{return_length}
use Rattle.returning.specs.Orders.{wrong_length, wrong_bool, further_taking, further_putting, take_order, put_order, take_refusal, put_refusal}
use Rattle.returning.specs.Asks.{Lent}
use Rattle.returning.specs.Statements.{ReturnsBool}
use Rattle.layout.proofs.Verdict.{check-positive}

module _ (d : List ℕ) where
  -- ---- the lengths

  pub lent-right : (v i y : ℕ) → Lent d v i y → wrong_length (return_length d) v i y ≡ false
  unfolding wrong_length
  lent-right v i y h = rw (eq-eqb v (return_length d) h.value, eq-eqb i 80 h.image, eq-eqb y 16 h.upper)

  pub right-lent : (v i y : ℕ) → verdict d ≡ 0 → wrong_length (return_length d) v i y ≡ false → Lent d v i y
  unfolding wrong_length
  right-lent v i y a h =
      let p = or_none _ _ h in
      let q = or_none _ _ p.1 in
      record { accepted = a; value = eqb-true _ _ (not-false _ p.0); image = eqb-true _ _ (not-false _ q.0); upper = eqb-true _ _ (not-false _ q.1) }

  -- ---- taking

  module _ (img upper : List ℕ) (v : ℕ) where
    pub take-verdict : (verdict d ≡ 0 → ⊥) → take_refusal d img upper v ≡ verdict d
    unfolding take_refusal verdict
    take-verdict h = first-before (check_order d) (further_taking d img upper v) h

    take_behind : verdict d ≡ 0 → (b : Bool) → wrong_length (return_length d) v (length img) (length upper) ≡ b → take_refusal d img upper v ≡ cond b 11 0
    unfolding take_refusal verdict
    take_behind a b e = first-behind (check_order d) (further_taking d img upper v) (check-positive d) a ∙ rw e

    pub take-eleven : verdict d ≡ 0 → wrong_length (return_length d) v (length img) (length upper) ≡ true → take_refusal d img upper v ≡ 11
    take-eleven a e = take_behind a true e

    take-lent : take_refusal d img upper v ≡ 0 → Lent d v (length img) (length upper)
    unfolding take_refusal verdict
    take-lent h =
        let both = first-both (check_order d) (further_taking d img upper v) (check-positive d) h in
        right-lent v (length img) (length upper) both.0 ((accepts-exactly (further_taking d img upper v) (omega arith, tt)).0 both.1).0

    -- taking is accepted exactly when the description is and the lengths are right
    pub take-accepted : (take_refusal d img upper v ≡ 0) ↔ Lent d v (length img) (length upper)
    take-accepted = (take-lent, λ h. take_behind h.accepted false (lent-right v (length img) (length upper) h))

    -- the number is n exactly where condition n holds and none before it
    pub take-exactly : (n : ℕ) → n ≢ 0 → (take_refusal d img upper v ≡ n) ↔ Answers (take_order d img upper v) n
    unfolding take_refusal
    take-exactly n h = refuses-exactly (take_order d img upper v) n h

    -- there is no twelfth
    pub take-never : take_refusal d img upper v ≢ 12
    unfolding take_refusal
    take-never = never (take_order d img upper v) 12 (λ z. omega arith) (without-append (check_order d) (further_taking d img upper v) 12 (check-without d 12 (omega arith)) ((λ z. omega arith), tt))

  -- ---- putting

  module _ (h : ℕ) (v : List ℕ) (i y : ℕ) where
    pub put-verdict : (verdict d ≡ 0 → ⊥) → put_refusal d h v i y ≡ verdict d
    unfolding put_refusal verdict
    put-verdict n = first-before (check_order d) (further_putting d h v i y) n

    abbrev late : List Rule
    late = further_putting d h v i y

    put-behind : verdict d ≡ 0 → (a b c : Bool) → wrong_length (return_length d) (length v) i y ≡ a → wrong_address (model_in d) (hidden d) h ≡ b → wrong_bool d v ≡ c
        → put_refusal d h v i y ≡ cond a 11 (cond b 27 (cond c 12 0))
    unfolding put_refusal verdict
    put-behind ok a b c e f g = first-behind (check_order d) late (check-positive d) ok ∙ rw (e, f, g)

    pub put-eleven : verdict d ≡ 0 → wrong_length (return_length d) (length v) i y ≡ true → put_refusal d h v i y ≡ 11
    put-eleven ok e = put-behind ok true _ _ e refl refl

    pub put-twenty_seven : Lent d (length v) i y → wrong_address (model_in d) (hidden d) h ≡ true → put_refusal d h v i y ≡ 27
    put-twenty_seven l e = put-behind l.accepted false true _ (lent-right (length v) i y l) e refl

    pub put-twelve : Lent d (length v) i y → wrong_address (model_in d) (hidden d) h ≡ false → wrong_bool d v ≡ true → put_refusal d h v i y ≡ 12
    put-twelve l a e = put-behind l.accepted false false true (lent-right (length v) i y l) a e

    pub put-none : Lent d (length v) i y → wrong_address (model_in d) (hidden d) h ≡ false → wrong_bool d v ≡ false → put_refusal d h v i y ≡ 0
    put-none l a e = put-behind l.accepted false false false (lent-right (length v) i y l) a e

    -- what is sure of a call that is accepted
    pub put-accepted : put_refusal d h v i y ≡ 0 → Lent d (length v) i y × (wrong_address (model_in d) (hidden d) h ≡ false) × (wrong_bool d v ≡ false)
    unfolding put_refusal verdict
    put-accepted e =
        let both = first-both (check_order d) late (check-positive d) e in
        let none = (accepts-exactly late (omega arith, (omega arith, (omega arith, tt)))).0 both.1 in
        (right-lent (length v) i y both.0 none.0, none.1.0, none.1.1.0)

    pub put-exactly : (n : ℕ) → n ≢ 0 → (put_refusal d h v i y ≡ n) ↔ Answers (put_order d h v i y) n
    unfolding put_refusal
    put-exactly n z = refuses-exactly (put_order d h v i y) n z

    abbrev lengths : Rule
    lengths = rule 11 (wrong_length (return_length d) (length v) i y)

    abbrev address : Rule
    address = rule 27 (wrong_address (model_in d) (hidden d) h)

    pub twelve_lent : put_refusal d h v i y ≡ 12 → Lent d (length v) i y × (wrong_bool d v ≡ true)
    unfolding put_refusal verdict
    twelve_lent e =
        let ok : verdict d ≡ 0 = none-till (check_order d) late 12 (check-without d 12 (omega arith)) e in
        let k = held (lengths ∷ address ∷ []) 12 (wrong_bool d v) [] (omega arith, (omega arith, tt)) (λ z. omega arith) ((λ z. omega arith), ((λ z. omega arith), tt)) tt
        (sym (first-behind (check_order d) late (check-positive d) ok) ∙ e) in
        (right-lent (length v) i y ok k.0.0, k.1)

    pub address-lent : put_refusal d h v i y ≡ 27 → Lent d (length v) i y × (wrong_address (model_in d) (hidden d) h ≡ true)
    unfolding put_refusal verdict
    address-lent e =
        let ok : verdict d ≡ 0 = none-till (check_order d) late 27 (check-without d 27 (omega arith)) e in
        let k = held (lengths ∷ []) 27 (wrong_address (model_in d) (hidden d) h) (rule 12 (wrong_bool d v) ∷ []) (omega arith, tt) (λ z. omega arith) ((λ z. omega arith), tt) ((λ z. omega arith), tt)
        (sym (first-behind (check_order d) late (check-positive d) ok) ∙ e) in
        (right-lent (length v) i y ok k.0.0, k.1)

  -- ---- a returned _Bool

  module _ (v : List ℕ) where
    pub bool-broken : wrong_bool d v ≡ true → ReturnsBool d × (1 < get_or v 0 0)
    unfolding wrong_bool broken_byte is_bool is_void
    bool-broken e =
        let p = (and-eq-true_iff (not (is_void d)) (broken_byte d (return_in d) (get_or v 0 0))).0 e in
        let q = (and-eq-true_iff (is_bool d (return_in d)) (ltb 1 (get_or v 0 0))).0 p.1 in
        let s = (and-eq-true_iff (eqb (kind_at d (return_in d)) 0) (eqb (a_at d (return_in d)) 0)).0 q.0 in (
          record {
            some = λ h. true≢false (sym (eq-eqb (return_in d) 255 h) ∙ not-true _ p.0);
            kind = eqb-true _ _ s.0;
            code = eqb-true _ _ s.1;
          },
          ltb-true _ _ q.1,
        )

    pub broken-bool : ReturnsBool d → 1 < get_or v 0 0 → wrong_bool d v ≡ true
    unfolding wrong_bool broken_byte is_bool is_void
    broken-bool b l = rw (ne_eqb (return_in d) 255 b.some, eq-eqb _ 0 b.kind, eq-eqb _ 0 b.code, lt-ltb 1 _ l)

    pub bool-right : (ReturnsBool d → get_or v 0 0 ≤ 1) → wrong_bool d v ≡ false
    bool-right f = by (wrong_bool d v) refl
      where
        by : (x : Bool) → wrong_bool d v ≡ x → wrong_bool d v ≡ false
        by true e = let p = bool-broken e in absurd (omega (arith, p.1, f p.0))
        by false e = e

    -- a value without bytes has no wrong one
    pub none_right : length v ≡ 0 → wrong_bool d v ≡ false
    none_right l = bool-right (λ b. by v l)
      where
        by : (w : List ℕ) → length w ≡ 0 → get_or w 0 0 ≤ 1
        by [] e = omega arith
        by (x ∷ w) e = absurd (omega arith)
