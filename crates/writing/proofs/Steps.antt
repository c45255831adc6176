-- The steps of the table of lengths. Assumes nothing.
use mathlib.Core.Path.{◌≡◌, refl, sym, ap, ◌∙◌}
use mathlib.Core.Bool.{Bool, true, false, cond}
use mathlib.Core.List.{List, [], ◌∷◌}
use Prim.Native.Nat.{ℕ, suc, ◌+◌, ◌-◌, ◌/◌, ◌≤◌, ◌<◌}
use native.Mathlib.Omega.{arith}
use borrow.Author.Tests.{eq-eqb, ne_eqb, leb-false, eqb-true, eqb-false}
use lib.Dec.{eqb, leb}
use lib.ListN.{length, get_or, set, length-append}
use lib.Seq.{get_or-set_same, get_or-set_other}
use Rattle.description.specs.Description.{model_in, types_in, variadic_in, named_in, return_in, argument_at, kind_at, a_at, count_at, member_at}
use Rattle.form.proofs.Form.{or_none, accepted-headed, accepted-counts}
use Rattle.types.specs.Asks.{Sized}
use Rattle.types.proofs.Trees.{sized-ruled}
use Rattle.types.proofs.Large.{accepted-form, accepted-sized}
use Rattle.uses.specs.Uses.{wrong_number, uses_refusal}
use Rattle.uses.proofs.Uses.{accepted-types, accepted-typed, accepted-return}
use Rattle.layout.specs.Arguments.{is_void}
use Rattle.listing.specs.Decimal.{decimal}
use Rattle.listing.proofs.Decimal.{decimal-small, decimal-large}
use Rattle.declaring.specs.Length.{words_length, braces_length, name_length, capped}
use Rattle.declaring.proofs.Cases.{each}
use Rattle.declaring.specs.Named.{written_text}
use Rattle.declaring.specs.Lengths.{members_from, length_from, length_at, arguments_from, whole_from}
use Rattle.declaring.proofs.Lengths.{length-right, text-length}
use Rattle.writing.specs.Texts.{AskMembers}
use Rattle.writing.proofs.Texts.{group-asks}
use Rattle.writing.specs.Asks.{Lengths}

-- ---- words and digits

pub words_are : (c : ℕ) → c < 17 → get_or (6 ∷ 5 ∷ 6 ∷ 4 ∷ 10 ∷ 9 ∷ 6 ∷ 7 ∷ 12 ∷ 11 ∷ 6 ∷ 7 ∷ 15 ∷ 16 ∷ 21 ∷ 7 ∷ 7 ∷ []) c 0 ≡ words_length c
words_are c h =
    each (λ c. get_or (6 ∷ 5 ∷ 6 ∷ 4 ∷ 10 ∷ 9 ∷ 6 ∷ 7 ∷ 12 ∷ 11 ∷ 6 ∷ 7 ∷ 15 ∷ 16 ∷ 21 ∷ 7 ∷ 7 ∷ []) c 0 ≡ words_length c) 17 0 (refl, (refl, (refl, (refl, (refl, (refl, (refl, (refl, (refl, (refl, (refl, (refl, (refl, (refl, (refl, (refl, (refl, tt))))))))))))))))) c (omega arith) h

more-digits : (n : ℕ) → 10 ≤ n → length (decimal n) ≡ length (decimal (n / 10)) + 1
more-digits n h = ap length (decimal-large n h) ∙ length-append (decimal (n / 10)) _

pub digits_1 : (n : ℕ) → n < 10 → length (decimal n) ≡ 1
digits_1 n h = ap length (decimal-small n h)

pub digits_2 : (n : ℕ) → 10 ≤ n → n < 100 → length (decimal n) ≡ 2
digits_2 n h l = more-digits n h ∙ ap (λ (x : ℕ). x + 1) (digits_1 (n / 10) (omega arith))

pub digits_3 : (n : ℕ) → 100 ≤ n → n < 1000 → length (decimal n) ≡ 3
digits_3 n h l = more-digits n (omega arith) ∙ ap (λ (x : ℕ). x + 1) (digits_2 (n / 10) (omega arith) (omega arith))

pub digits_4 : (n : ℕ) → 1000 ≤ n → n < 10000 → length (decimal n) ≡ 4
digits_4 n h l = more-digits n (omega arith) ∙ ap (λ (x : ℕ). x + 1) (digits_3 (n / 10) (omega arith) (omega arith))

pub digits_5 : (n : ℕ) → 10000 ≤ n → n < 100000 → length (decimal n) ≡ 5
digits_5 n h l = more-digits n (omega arith) ∙ ap (λ (x : ℕ). x + 1) (digits_4 (n / 10) (omega arith) (omega arith))

-- ---- entries

pub entry-low : (d : List ℕ) (k : ℕ) → length_at d k ≤ 4097
unfolding length_at
entry-low d k = omega arith

pub entry-is : {d : List ℕ} {n : ℕ} {table : List ℕ} (k r : ℕ) → Lengths d n table → k < n → r ≡ get_or table k 0 → (r ≡ length_at d k) × (r ≤ 4097)
entry-is {d} k r t h e = let q = e ∙ t.right k h in (q, omega (arith, q, entry-low d k))

-- ---- members

pub record Adding (d : List ℕ) (first count start x i : ℕ) : Type 0 where
  pub low : i ≤ count
  pub high : x ≤ 4097
  pub done : members_from (length_at d) d x i (first + i) (count - i) ≡ members_from (length_at d) d start 0 first count

pub adding_first : (d : List ℕ) (first count start x : ℕ) → x ≡ start → x ≤ 4097 → Adding d first count start x 0
adding_first d first count start x e h =
    let p : first + 0 ≡ first = omega arith in
    let q : count - 0 ≡ count = omega arith in
    record { low = omega arith; high = h; done = rw (p, q, e) refl }

adding_step : (d : List ℕ) (x i j n : ℕ) → members_from (length_at d) d x i j (suc n) ≡ members_from (length_at d) d (capped (x + (length_at d (member_at d j) + name_length i))) (suc i) (j + 1) n
unfolding members_from
adding_step d x i j n = refl

pub adding_next : {d : List ℕ} {first count start x i : ℕ} (m e f y : ℕ) → Adding d first count start x i → i < count → m ≡ member_at d (first + i) → e ≡ length_at d m → f ≡ length (decimal i)
    → y ≡ capped (x + (e + (4 + f))) → Adding d first count start y (i + 1)
adding_next {d} {first} {count} {start} {x} {i} m e f y g h em ee ef ey =
    let p : count - i ≡ suc (count - suc i) = omega arith in
    let q : first + (i + 1) ≡ first + i + 1 = omega arith in
    let s : i + 1 ≡ suc i = omega arith in
    let z : y ≡ capped (x + (length_at d (member_at d (first + i)) + name_length i)) = ey ∙ rw (ee, em, ef) refl in
    record {
      low = omega arith;
      high = omega (arith, ey);
      done = rw (q, s, z) (sym (ap (members_from (length_at d) d x i (first + i)) p ∙ adding_step d x i (first + i) (count - suc i)) ∙ g.done);
    }

pub adding_end : {d : List ℕ} {first count start x i : ℕ} → Adding d first count start x i → count ≤ i → x ≡ members_from (length_at d) d start 0 first count
unfolding members_from
adding_end {d} {first} {count} {start} {x} {i} g h =
    let p : count - i ≡ 0 = omega arith in
    sym (ap (members_from (length_at d) d x i (first + i)) p) ∙ g.done

-- ---- a type, by its kind

module _ (d : List ℕ) (k : ℕ) (s : Sized (model_in d) d k) where
  pub basic-length : (a : ℕ) → kind_at d k ≡ 0 → a ≡ a_at d k → (a < 17) × (words_length a ≡ length_at d k)
  unfolding length_from
  basic-length a e ea = (omega (arith, (sized-ruled d k s).code e), rw ea (sym (rw (eq-eqb (kind_at d k) 0 e) refl) ∙ length-right d k s))

  pub array-length : (a n x f : ℕ) → kind_at d k ≡ 1 → a ≡ a_at d k → n ≡ count_at d k → x ≡ length_at d a → f ≡ length (decimal n) → capped (x + (5 + f)) ≡ length_at d k
  unfolding length_from
  array-length a n x f e ea en ex ef =
      rw (ef, ex, ea, en) (sym (rw (ne_eqb (kind_at d k) 0 (omega (arith, e)), eq-eqb (kind_at d k) 1 e) refl) ∙ length-right d k s)

  pub group-length : (u : Bool) (a n : ℕ) → u ≡ eqb (kind_at d k) 3 → 2 ≤ kind_at d k → a ≡ a_at d k → n ≡ count_at d k → members_from (length_at d) d (braces_length u) 0 a n ≡ length_at d k
  unfolding length_from
  group-length u a n eu two ea en =
      rw (eu, ea, en) (sym (rw (ne_eqb (kind_at d k) 0 (omega (arith, two)), ne_eqb (kind_at d k) 1 (omega (arith, two))) refl) ∙ length-right d k s)

  pub group-asked : (a n : ℕ) → 2 ≤ kind_at d k → a ≡ a_at d k → n ≡ count_at d k → AskMembers d k a n
  group-asked a n two ea en = rw (ea, en) (group-asks d k s two)

-- ---- the table

pub lengths_none : (d table : List ℕ) → Lengths d 0 table
lengths_none d table = record { few = omega arith; right = λ k h. absurd (omega arith) }

pub lengths-next : (d table : List ℕ) (k y : ℕ) → k < 64 → length table ≡ 64 → Lengths d k table → y ≡ length_at d k → Lengths d (k + 1) (set table k y)
lengths-next d table k y h l t e = record { few = omega arith; right = λ j p. by j (eqb j k) refl p }
  where
    by : (j : ℕ) (b : Bool) → eqb j k ≡ b → j < k + 1 → get_or (set table k y) j 0 ≡ length_at d j
    by j true q p = let z = eqb-true j k q in rw (z, get_or-set_same table k y 0 (omega (arith, l))) e
    by j false q p = let z = eqb-false j k q in get_or-set_other table k j y 0 (omega (arith, z)) ∙ t.right j (omega arith)

-- ---- the whole

module _ (d : List ℕ) (right : uses_refusal d ≡ 0) where
  pub headed : 11 ≤ length d
  headed = accepted-headed d (accepted-form d (accepted-types d right))

  pub few-types : types_in d ≤ 64
  few-types = (accepted-counts d (accepted-form d (accepted-types d right))).types

  pub type-sized : (k : ℕ) → k < types_in d → Sized (model_in d) d k
  type-sized k l = accepted-sized d (accepted-types d right) k l

  pub return_low : (t : ℕ) → t ≡ return_in d → (t ≡ 255 → ⊥) → t < types_in d
  unfolding wrong_number
  return_low t e h =
      let p = (or_none (leb (types_in d) (return_in d)) (eqb (kind_at d (return_in d)) 1) (accepted-return d right (ne_eqb (return_in d) 255 (λ q. h (e ∙ q))))).0 in
      omega (arith, e, leb-false (types_in d) (return_in d) p)

  pub argument-low : (i t : ℕ) → i < named_in d → t ≡ argument_at d i → t < types_in d
  argument-low i t h e = omega (arith, e, (accepted-typed d right).below i (omega (arith, (accepted-typed d right).named)))

  pub whole_is : (n f b r : ℕ) → n ≡ named_in d → f ≡ variadic_in d → b ≡ cond (is_void d) 5 (length_at d (return_in d))
      → r ≡ cond (eqb n 0) (capped (b + 8 + cond (eqb f 1) 4 5)) (arguments_from (length_at d) d (capped (b + 6 + cond (eqb f 1) 6 0)) 0 n) → r ≡ capped (length (written_text d))
  unfolding whole_from
  whole_is n f b r en ef eb er = er ∙ rw (en, ef, eb) (text-length d right)

pub result-void : (d : List ℕ) (t : ℕ) → t ≡ return_in d → t ≡ 255 → ◌≡◌ {A = ℕ} 5 (cond (is_void d) 5 (length_at d (return_in d)))
unfolding is_void
result-void d t e h = rw (eq-eqb (return_in d) 255 (sym e ∙ h)) refl

pub result-type : (d : List ℕ) (t r : ℕ) → t ≡ return_in d → (t ≡ 255 → ⊥) → r ≡ length_at d t → r ≡ cond (is_void d) 5 (length_at d (return_in d))
unfolding is_void
result-type d t r e h er = er ∙ rw (ne_eqb (return_in d) 255 (λ q. h (e ∙ q)), e) refl

pub record Summing (d : List ℕ) (before named x i : ℕ) : Type 0 where
  pub low : i ≤ named
  pub high : x ≤ 4097
  pub done : arguments_from (length_at d) d x i (named - i) ≡ arguments_from (length_at d) d before 0 named

pub summing_first : (d : List ℕ) (before named : ℕ) → before ≤ 4097 → Summing d before named before 0
summing_first d before named h = let q : named - 0 ≡ named = omega arith in record { low = omega arith; high = h; done = rw q refl }

summing_step : (d : List ℕ) (x i n : ℕ) → arguments_from (length_at d) d x i (suc n) ≡ arguments_from (length_at d) d (capped (x + (2 + length_at d (argument_at d i)))) (i + 1) n
unfolding arguments_from
summing_step d x i n = refl

pub summing_next : {d : List ℕ} {before named x i : ℕ} (t e y : ℕ) → Summing d before named x i → i < named → t ≡ argument_at d i → e ≡ length_at d t → y ≡ capped (x + (2 + e)) → Summing d before named y (i + 1)
summing_next {d} {before} {named} {x} {i} t e y g h et ee ey =
    let p : named - i ≡ suc (named - (i + 1)) = omega arith in
    let z : y ≡ capped (x + (2 + length_at d (argument_at d i))) = ey ∙ rw (ee, et) refl in
    record {
      low = omega arith;
      high = omega (arith, ey);
      done = rw z (sym (ap (arguments_from (length_at d) d x i) p ∙ summing_step d x i (named - (i + 1))) ∙ g.done);
    }

pub summing_end : {d : List ℕ} {before named x i : ℕ} → Summing d before named x i → named ≤ i → x ≡ arguments_from (length_at d) d before 0 named
unfolding arguments_from
summing_end {d} {before} {named} {x} {i} g h = let p : named - i ≡ 0 = omega arith in sym (ap (arguments_from (length_at d) d x i) p) ∙ g.done

module _ (d : List ℕ) (right : uses_refusal d ≡ 0) (n f b : ℕ) (en : n ≡ named_in d) (ef : f ≡ variadic_in d) (eb : b ≡ cond (is_void d) 5 (length_at d (return_in d))) where
  pub whole-none : (e r : ℕ) → n ≡ 0 → e ≡ cond (eqb f 1) 4 5 → r ≡ capped (b + 8 + e) → r ≡ capped (length (written_text d))
  whole-none e r h ee er = whole_is d right n f b r en ef eb (rw (eq-eqb n 0 h) (er ∙ ap (λ (x : ℕ). capped (b + 8 + x)) ee))

  pub whole-some : (e x r : ℕ) → (n ≡ 0 → ⊥) → e ≡ cond (eqb f 1) 6 0 → x ≡ capped (b + 6 + e) → r ≡ arguments_from (length_at d) d x 0 n → r ≡ capped (length (written_text d))
  whole-some e x r h ee ex er =
      whole_is d right n f b r en ef eb
      (rw (ne_eqb n 0 h) (er ∙ ap (λ (y : ℕ). arguments_from (length_at d) d y 0 n) (ex ∙ ap (λ (y : ℕ). capped (b + 6 + y)) ee)))

pub table_done : (d table : List ℕ) (k : ℕ) → k ≡ types_in d → Lengths d k table → Lengths d (types_in d) table
table_done d table k e h = rw e at h
