-- The run of members that is answered, byte by byte. Assumes nothing.
use mathlib.Core.Path.{◌≡◌, refl, sym, ap, ◌∙◌, subst}
use mathlib.Core.Logic.{◌↔◌, ◌≢◌, ◌⊎◌, inl, inr}
use mathlib.Core.Bool.{Bool, true, false}
use mathlib.Core.List.{List, []}
use Prim.Native.Nat.{ℕ, ◌+◌, ◌-◌, ◌≤◌, ◌<◌}
use native.Mathlib.Omega.{arith}
use native.Mathlib.Nat.{add_assoc}
use borrow.Author.Tests.{eq-eqb, ne_eqb, le-ltb, lt-ltb, ltb-true, ltb-false, eqb-true, eqb-false}
use lib.Dec.{ltb, eqb}
use lib.ListN.{length, get_or, take, drop, length-take, length-drop}
use lib.Seq.{get_or-take, get_or-drop}
use Rattle.description.specs.Description.{kind_at, a_at, count_at, member_at, member_start}
use Rattle.questions.specs.Questions.{question_refusal}
use Rattle.questions.specs.Runs.{run_answer, run_in}
use Rattle.questions.proofs.Runs.{run-within, run-filled, run-lower}
use Rattle.promises.specs.Demand1.{RunOf}

module _ (d : List ℕ) (t : ℕ) where
  -- what is answered, by whether there is a refusal and whether the kind is below 2
  run-refused : question_refusal d t ≢ 0 → run_in (run_answer d t) d ≡ []
  unfolding run_answer
  run-refused h = rw (ne_eqb (question_refusal d t) 0 h) refl

  run-other : question_refusal d t ≡ 0 → kind_at d t < 2 → run_in (run_answer d t) d ≡ []
  unfolding run_answer
  run-other e k = rw (eq-eqb (question_refusal d t) 0 e, lt-ltb (kind_at d t) 2 k) refl

  run-group : question_refusal d t ≡ 0 → 2 ≤ kind_at d t → run_in (run_answer d t) d ≡ take (count_at d t) (drop (member_start d + a_at d t) d)
  unfolding run_answer
  run-group e k = rw (eq-eqb (question_refusal d t) 0 e, le-ltb (kind_at d t) 2 k) refl

  part-long : question_refusal d t ≡ 0 → 2 ≤ kind_at d t → length (take (count_at d t) (drop (member_start d + a_at d t) d)) ≡ count_at d t
  part-long e k =
      let w : member_start d + a_at d t + count_at d t ≤ length d = run-within d t e k in
      let l : length (drop (member_start d + a_at d t) d) ≡ length d - (member_start d + a_at d t) = length-drop (member_start d + a_at d t) d in
      length-take (count_at d t) (drop (member_start d + a_at d t) d) ∙ omega (arith, w, l)

  part-lower : question_refusal d t ≡ 0 → 2 ≤ kind_at d t → (i : ℕ) → i < count_at d t → get_or (take (count_at d t) (drop (member_start d + a_at d t) d)) i 0 < t
  unfolding member_at
  part-lower e k i h =
      let byte : get_or (take (count_at d t) (drop (member_start d + a_at d t) d)) i 0 ≡ member_at d (a_at d t + i) =
      get_or-take (count_at d t) (drop (member_start d + a_at d t) d) i 0 h ∙ get_or-drop (member_start d + a_at d t) d i 0 ∙ ap (λ n. get_or d n 0) (add_assoc (member_start d) (a_at d t) i) in
      subst (λ n. n < t) (sym byte) (run-lower d t e k (a_at d t + i) (omega arith) (omega (arith, h)))

  pub run-of : question_refusal d t ≡ 0 → 2 ≤ kind_at d t → RunOf d t (run_in (run_answer d t) d)
  run-of e k = subst (RunOf d t) (sym (run-group e k)) (record {
    bytes = refl;
    long = part-long e k;
    some = run-filled d t e k;
    lower = part-lower e k;
  })

  empty-some : run_in (run_answer d t) d ≡ [] → (question_refusal d t ≢ 0) ⊎ (kind_at d t < 2)
  empty-some e = by (eqb (question_refusal d t) 0) (ltb (kind_at d t) 2) refl refl
    where
      by : (b c : Bool) → eqb (question_refusal d t) 0 ≡ b → ltb (kind_at d t) 2 ≡ c → (question_refusal d t ≢ 0) ⊎ (kind_at d t < 2)
      by false c q k = inl (eqb-false (question_refusal d t) 0 q)
      by true true q k = inr (ltb-true (kind_at d t) 2 k)
      by true false q k =
          let two : 2 ≤ kind_at d t = ltb-false (kind_at d t) 2 k in
          let right : question_refusal d t ≡ 0 = eqb-true (question_refusal d t) 0 q in
          let none : length (run_in (run_answer d t) d) ≡ 0 = ap length e in
          absurd (omega (arith, none, (run-of right two).long, (run-of right two).some))

  some-empty : (question_refusal d t ≢ 0) ⊎ (kind_at d t < 2) → run_in (run_answer d t) d ≡ []
  some-empty (inl h) = run-refused h
  some-empty (inr k) = by (eqb (question_refusal d t) 0) refl
    where
      by : (b : Bool) → eqb (question_refusal d t) 0 ≡ b → run_in (run_answer d t) d ≡ []
      by true q = run-other (eqb-true (question_refusal d t) 0 q) k
      by false q = run-refused (eqb-false (question_refusal d t) 0 q)

  pub run-empty : (run_in (run_answer d t) d ≡ []) ↔ ((question_refusal d t ≢ 0) ⊎ (kind_at d t < 2))
  run-empty = (empty-some, some-empty)
