-- The tables hold the grammar: one computed test of each. Assumes nothing.
use mathlib.Core.Path.{◌≡◌, refl, sym, ap, ◌∙◌}
use mathlib.Core.Bool.{Bool, true, false, cond, true≢false, ◌&&◌}
use mathlib.Core.List.{List, [], ◌∷◌}
use Prim.Native.Nat.{ℕ, zero, suc, ◌+◌, ◌*◌, ◌-◌, ◌/◌, ◌%◌, ◌≤◌, ◌<◌}
use native.Mathlib.Omega.{arith}
use lib.Dec.{eqb, leb}
use lib.ListN.{length, get_or, get_or-eq_default}
use borrow.Author.Tests.{eqb-true, leb-true, ne_eqb}
use Rattle.grammar.specs.Tokens.{class_of}
use Rattle.grammar.specs.Grammar.{Rest, stop, goes}
use Rattle.grammar.specs.Table.{pick, alternatives_of, absence_of, nowhere}
use Rattle.grammar.specs.Prototype.{declarations, spellings, table}
use Rattle.reading.specs.Productions.{productions}
use Rattle.reading.specs.Coded.{class_code, rest_at, absent_code}
use Rattle.reading.proofs.Lists.{class_list, rule_list, absent_list, production_list, spelling_list}

and_both : (a b : Bool) → (a && b) ≡ true → (a ≡ true) × (b ≡ true)
and_both true b h = (refl, h)
and_both false b h = absurd (true≢false (sym h))

-- the test f passes at each entry of the list and its place, counted from i
abbrev every : (ℕ → ℕ → Bool) → ℕ → List ℕ → Bool
every f i [] = true
every f i (x ∷ xs) = f i x && every f (suc i) xs

every-at : (f : ℕ → ℕ → Bool) (xs : List ℕ) (i : ℕ) → every f i xs ≡ true → (k j : ℕ) → k < length xs → j ≡ i + k → f j (get_or xs k 0) ≡ true
every-at f [] i h k j l e = absurd (omega arith)
every-at f (x ∷ xs) i h zero j l e = let z : j ≡ i = omega arith in rw z (and_both (f i x) (every f (suc i) xs) h).0
every-at f (x ∷ xs) i h (suc k) j l e = every-at f xs (suc i) (and_both (f i x) (every f (suc i) xs) h).1 k j (omega arith) (omega arith)

abbrev same_list : List ℕ → List ℕ → Bool
same_list [] [] = true
same_list [] (y ∷ ys) = false
same_list (x ∷ xs) [] = false
same_list (x ∷ xs) (y ∷ ys) = eqb x y && same_list xs ys

abbrev same_rest : Rest → Rest → Bool
same_rest stop stop = true
same_rest stop (goes r) = false
same_rest (goes r) stop = false
same_rest (goes r) (goes s) = same_list r s

list_same : (xs ys : List ℕ) → same_list xs ys ≡ true → xs ≡ ys
list_same [] [] h = refl
list_same [] (y ∷ ys) h = absurd (true≢false (sym h))
list_same (x ∷ xs) [] h = absurd (true≢false (sym h))
list_same (x ∷ xs) (y ∷ ys) h =
    let (p, q) = and_both (eqb x y) (same_list xs ys) h in
    let a = eqb-true x y p in
    let b = list_same xs ys q in
    cc

rest-same : (r s : Rest) → same_rest r s ≡ true → r ≡ s
rest-same stop stop h = refl
rest-same stop (goes r) h = absurd (true≢false (sym h))
rest-same (goes r) stop h = absurd (true≢false (sym h))
rest-same (goes r) (goes s) h = ap goes (list_same r s h)

class_test : ℕ → ℕ → Bool
class_test b x = eqb x (class_code (class_of b))

class_test_lem : every class_test 0 class_list ≡ true
unfolding class_test class_list class_of
class_test_lem = refl

pub class_right : (b : ℕ) → b < 256 → get_or class_list b 0 ≡ class_code (class_of b)
unfolding class_test class_list
class_right b h = eqb-true (get_or class_list b 0) (class_code (class_of b)) (every-at class_test class_list 0 class_test_lem b b (omega arith) (omega arith))

rule_test : ℕ → ℕ → Bool
rule_test i x = same_rest (declarations.rule (i / 48) (i % 48)) (rest_at x) && leb x 160

rule-test : every rule_test 0 rule_list ≡ true
unfolding rule_test rule_list table rest_at productions
rule-test = refl

rule-length : length rule_list ≡ 4128
unfolding rule_list
rule-length = refl

pub rule-right : (n k : ℕ) → n < 86 → k < 48
    → (declarations.rule n k ≡ rest_at (get_or rule_list (n * 48 + k) 0)) × (get_or rule_list (n * 48 + k) 0 ≤ 160)
unfolding rule_test
rule-right n k h l =
    let i = n * 48 + k in
    let d : i / 48 ≡ n = omega arith in
    let m : i % 48 ≡ k = omega arith in
    let t = every-at rule_test rule_list 0 rule-test i i (omega (arith, rule-length)) (omega arith) in
    let (p, q) = and_both (same_rest (declarations.rule (i / 48) (i % 48)) (rest_at (get_or rule_list i 0))) (leb (get_or rule_list i 0) 160) t in (
      ap (λ (z : ℕ). declarations.rule z k) (sym d) ∙ ap (λ (z : ℕ). declarations.rule (i / 48) z) (sym m)
          ∙ rest-same (declarations.rule (i / 48) (i % 48)) (rest_at (get_or rule_list i 0)) p,
      leb-true (get_or rule_list i 0) 160 q,
    )

table-length : length table ≡ 86
unfolding table
table-length = refl

pub rule-past : (n k : ℕ) → 86 ≤ n → declarations.rule n k ≡ rest_at 0
unfolding rest_at
rule-past n k h = ap (λ e. pick (alternatives_of e) k) (get_or-eq_default table nowhere (omega (arith, table-length)))

absent_test : ℕ → ℕ → Bool
absent_test n x = eqb x (absent_code (declarations.absent n))

absent-test : every absent_test 0 absent_list ≡ true
unfolding absent_test absent_list table
absent-test = refl

pub absent-right : (n : ℕ) → n < 86 → get_or absent_list n 0 ≡ absent_code (declarations.absent n)
unfolding absent_test absent_list
absent-right n h = eqb-true (get_or absent_list n 0) (absent_code (declarations.absent n)) (every-at absent_test absent_list 0 absent-test n n (omega arith) (omega arith))

pub absent-past : (n : ℕ) → 86 ≤ n → 1 ≡ absent_code (declarations.absent n)
absent-past n h = sym (ap (λ e. absent_code (absence_of e)) (get_or-eq_default table nowhere (omega (arith, table-length))))

-- a length and what follows it, in rows of a width
rows_test : List (List ℕ) → ℕ → ℕ → ℕ → ℕ → Bool
rows_test rows w most i x =
    cond (eqb (i % w) 0) (eqb x (length (get_or rows (i / w) [])) && leb x most) (eqb x (get_or (get_or rows (i / w) []) (i % w - 1) 0))

production_test : every (rows_test productions 6 5) 0 production_list ≡ true
unfolding rows_test productions production_list
production_test = refl

spelling_test : every (rows_test spellings 12 11) 0 spelling_list ≡ true
unfolding rows_test spellings spelling_list
spelling_test = refl

production_length : length production_list ≡ 960
unfolding production_list
production_length = refl

spelling_length : length spelling_list ≡ 540
unfolding spelling_list
spelling_length = refl

rows-length : (rows : List (List ℕ)) (w most i x p : ℕ) → i % w ≡ 0 → i / w ≡ p → rows_test rows w most i x ≡ true → (x ≡ length (get_or rows p [])) × (x ≤ most)
unfolding rows_test
rows-length rows w most i x p m d h =
    let t : (eqb x (length (get_or rows p [])) && leb x most) ≡ true = rw (m, d) at h in
    let (a, b) = and_both (eqb x (length (get_or rows p []))) (leb x most) t in
    (eqb-true x (length (get_or rows p [])) a, leb-true x most b)

rows-byte : (rows : List (List ℕ)) (w most i x p j : ℕ) → i % w ≡ suc j → i / w ≡ p → rows_test rows w most i x ≡ true → x ≡ get_or (get_or rows p []) j 0
unfolding rows_test
rows-byte rows w most i x p j m d h =
    let s : i % w - 1 ≡ j = omega arith in
    let t : eqb x (get_or (get_or rows (i / w) []) (i % w - 1) 0) ≡ true = nonzero (i % w) (eqb x (length (get_or rows (i / w) [])) && leb x most) (eqb x (get_or (get_or rows (i / w) []) (i % w - 1) 0)) (omega arith) h in
    eqb-true x (get_or (get_or rows p []) j 0) (rw (s, d) at t)
  where
    nonzero : (z : ℕ) (a b : Bool) → 0 < z → cond (eqb z 0) a b ≡ true → b ≡ true
    nonzero z a b l q = rw (ne_eqb z 0 (λ e. omega arith)) at q

pub count-right : (p : ℕ) → p < 160 → (get_or production_list (p * 6) 0 ≡ length (get_or productions p [])) × (get_or production_list (p * 6) 0 ≤ 5)
count-right p h =
    rows-length productions 6 5 (p * 6) (get_or production_list (p * 6) 0) p (omega arith) (omega arith)
    (every-at (rows_test productions 6 5) production_list 0 production_test (p * 6) (p * 6) (omega (arith, production_length)) (omega arith))

pub symbol-right : (p j : ℕ) → p < 160 → j < 5 → get_or production_list (p * 6 + j + 1) 0 ≡ get_or (get_or productions p []) j 0
symbol-right p j h l =
    rows-byte productions 6 5 (p * 6 + j + 1) (get_or production_list (p * 6 + j + 1) 0) p j (omega arith) (omega arith)
    (every-at (rows_test productions 6 5) production_list 0 production_test (p * 6 + j + 1) (p * 6 + j + 1) (omega (arith, production_length)) (omega arith))

pub length-right : (i : ℕ) → i < 45 → (get_or spelling_list (i * 12) 0 ≡ length (get_or spellings i [])) × (get_or spelling_list (i * 12) 0 ≤ 11)
length-right i h =
    rows-length spellings 12 11 (i * 12) (get_or spelling_list (i * 12) 0) i (omega arith) (omega arith)
    (every-at (rows_test spellings 12 11) spelling_list 0 spelling_test (i * 12) (i * 12) (omega (arith, spelling_length)) (omega arith))

pub byte-right : (i j : ℕ) → i < 45 → j < 11 → get_or spelling_list (i * 12 + j + 1) 0 ≡ get_or (get_or spellings i []) j 0
byte-right i j h l =
    rows-byte spellings 12 11 (i * 12 + j + 1) (get_or spelling_list (i * 12 + j + 1) 0) i j (omega arith) (omega arith)
    (every-at (rows_test spellings 12 11) spelling_list 0 spelling_test (i * 12 + j + 1) (i * 12 + j + 1) (omega (arith, spelling_length)) (omega arith))
