-- What a written plan says is what was written. Assumes nothing.
use mathlib.Core.Path.{◌≡◌, refl, sym, ap, ap₂, ◌∙◌}
use mathlib.Core.List.{List, [], ◌∷◌, ◌++◌}
use Prim.Native.Nat.{ℕ, zero, suc, ◌+◌, ◌*◌}
use native.Mathlib.Nat.{zero-add, suc-add}
use native.Mathlib.Omega.{arith}
use lib.ListN.{length, get_or, length-append}
use Rattle.addresses.specs.Addresses.{run, gather, All}
use Rattle.plans.specs.Moves.{Move}
use Rattle.plans.specs.Plans.{pairs, triples, end_of, moves_in, bools_in}
use Rattle.plans.specs.Cuts.{twos, threes, Head, written}

-- numbers before do not matter
pairs-behind : (pre l : List ℕ) (w n i : ℕ) → pairs (pre ++ l) w (length pre + i) n ≡ pairs l w i n
pairs-behind [] l w n i = ap (λ (k : ℕ). pairs l w k n) (zero-add i)
pairs-behind (x ∷ pre) l w n i = ap (λ (k : ℕ). pairs (x ∷ (pre ++ l)) w k n) (suc-add (length pre) i) ∙ one n (length pre + i) ∙ pairs-behind pre l w n i
  where
    one : (n i : ℕ) → pairs (x ∷ (pre ++ l)) w (suc i) n ≡ pairs (pre ++ l) w i n
    one zero i = refl
    one (suc n) i =
        let e : suc i + 1 ≡ suc (i + 1) = omega arith in
        let f : suc i + 2 ≡ suc (i + 2) = omega arith in
        rw (e, f) (ap (λ (r : List Move). record { source = get_or (pre ++ l) i 0; target = get_or (pre ++ l) (i + 1) 0; count = w } ∷ r) (one n (i + 2)))

triples-behind : (pre l : List ℕ) (n i : ℕ) → triples (pre ++ l) (length pre + i) n ≡ triples l i n
triples-behind [] l n i = ap (λ (k : ℕ). triples l k n) (zero-add i)
triples-behind (x ∷ pre) l n i = ap (λ (k : ℕ). triples (x ∷ (pre ++ l)) k n) (suc-add (length pre) i) ∙ one n (length pre + i) ∙ triples-behind pre l n i
  where
    one : (n i : ℕ) → triples (x ∷ (pre ++ l)) (suc i) n ≡ triples (pre ++ l) i n
    one zero i = refl
    one (suc n) i =
        let e : suc i + 1 ≡ suc (i + 1) = omega arith in
        let f : suc i + 2 ≡ suc (i + 2) = omega arith in
        let g : suc i + 3 ≡ suc (i + 3) = omega arith in
        rw (e, f, g) (ap (λ (r : List Move). record { source = get_or (pre ++ l) i 0; target = get_or (pre ++ l) (i + 1) 0; count = get_or (pre ++ l) (i + 2) 0 } ∷ r) (one n (i + 3)))

gather-behind : (pre l : List ℕ) (n i : ℕ) → gather (pre ++ l) (run (length pre + i) n) ≡ gather l (run i n)
gather-behind pre l zero i = refl
gather-behind pre l (suc n) i =
    let e : suc (length pre + i) ≡ length pre + suc i = omega arith in
    rw (e, lib.Seq.get_or-append-add) (ap (λ (r : List ℕ). get_or l i 0 ∷ r) (gather-behind pre l n (suc i)))

-- moves as numbers, read again
pairs-read : (ms : List Move) (w : ℕ) (post : List ℕ) → All (λ m. m.count ≡ w) ms → pairs (twos ms ++ post) w 0 (length ms) ≡ ms
pairs-read [] w post h = refl
pairs-read (m ∷ ms) w post h =
    ap₂ (λ (c : ℕ) (r : List Move). record { source = m.source; target = m.target; count = c } ∷ r) (sym h.0) (pairs-behind (m.source ∷ m.target ∷ []) (twos ms ++ post) w (length ms) 0 ∙ pairs-read ms w post h.1)

triples-read : (ms : List Move) (post : List ℕ) → triples (threes ms ++ post) 0 (length ms) ≡ ms
triples-read [] post = refl
triples-read (m ∷ ms) post =
    ap (λ (r : List Move). m ∷ r) (triples-behind (m.source ∷ m.target ∷ m.count ∷ []) (threes ms ++ post) (length ms) 0 ∙ triples-read ms post)

gather-read : (bs : List ℕ) → gather bs (run 0 (length bs)) ≡ bs
gather-read [] = refl
gather-read (b ∷ bs) = ap (λ (r : List ℕ). b ∷ r) (gather-behind (b ∷ []) bs (length bs) 0 ∙ gather-read bs)

pub length-twos : (ms : List Move) → length (twos ms) ≡ 2 * length ms
length-twos [] = refl
length-twos (m ∷ ms) = omega (arith, length-twos ms)

pub length-threes : (ms : List Move) → length (threes ms) ≡ 3 * length ms
length-threes [] = refl
length-threes (m ∷ ms) = omega (arith, length-threes ms)

module _ (h : Head) (es fs ps : List Move) (bs : List ℕ) where
  abbrev head : List ℕ
  head =
      h.values ∷ h.area ∷ h.vectors ∷ h.address ∷ length es ∷ length fs ∷ length ps ∷ length bs
      ∷ h.returned ∷ h.bool ∷ h.first.source ∷ h.first.target ∷ h.first.count ∷ h.second.source ∷ h.second.target ∷ h.second.count ∷ []

  eights-read : All (λ m. m.count ≡ 8) es → pairs (written h es fs ps bs) 8 16 (length es) ≡ es
  eights-read k = pairs-behind head (twos es ++ (twos fs ++ (threes ps ++ bs))) 8 (length es) 0 ∙ pairs-read es 8 (twos fs ++ (threes ps ++ bs)) k

  fours-read : All (λ m. m.count ≡ 4) fs → pairs (written h es fs ps bs) 4 (16 + 2 * length es) (length fs) ≡ fs
  fours-read k =
      let e : 2 * length es ≡ length (twos es) + 0 = omega (arith, length-twos es) in
      pairs-behind head (twos es ++ (twos fs ++ (threes ps ++ bs))) 4 (length fs) (2 * length es)
      ∙ ap (λ (i : ℕ). pairs (twos es ++ (twos fs ++ (threes ps ++ bs))) 4 i (length fs)) e
      ∙ pairs-behind (twos es) (twos fs ++ (threes ps ++ bs)) 4 (length fs) 0
      ∙ pairs-read fs 4 (threes ps ++ bs) k

  parts-read : triples (written h es fs ps bs) (16 + 2 * length es + 2 * length fs) (length ps) ≡ ps
  parts-read =
      let e : 16 + 2 * length es + 2 * length fs ≡ length head + (length (twos es) + (length (twos fs) + 0)) = omega (arith, length-twos es, length-twos fs) in
      ap (λ (i : ℕ). triples (written h es fs ps bs) i (length ps)) e
      ∙ triples-behind head (twos es ++ (twos fs ++ (threes ps ++ bs))) (length ps) (length (twos es) + (length (twos fs) + 0))
      ∙ triples-behind (twos es) (twos fs ++ (threes ps ++ bs)) (length ps) (length (twos fs) + 0)
      ∙ triples-behind (twos fs) (threes ps ++ bs) (length ps) 0
      ∙ triples-read ps bs

  pub moves_read : All (λ m. m.count ≡ 8) es → All (λ m. m.count ≡ 4) fs → moves_in (written h es fs ps bs) ≡ es ++ (fs ++ ps)
  unfolding moves_in
  moves_read k l = ap₂ (λ (x y : List Move). x ++ y) (eights-read k) (ap₂ (λ (x y : List Move). x ++ y) (fours-read l) parts-read)

  pub bools-read : bools_in (written h es fs ps bs) ≡ bs
  unfolding bools_in
  bools-read =
      let e : 16 + 2 * length es + 2 * length fs + 3 * length ps ≡ length head + (length (twos es) + (length (twos fs) + (length (threes ps) + 0))) = omega (arith, length-twos es, length-twos fs, length-threes ps) in
      ap (λ (i : ℕ). gather (written h es fs ps bs) (run i (length bs))) e
      ∙ gather-behind head (twos es ++ (twos fs ++ (threes ps ++ bs))) (length bs) (length (twos es) + (length (twos fs) + (length (threes ps) + 0)))
      ∙ gather-behind (twos es) (twos fs ++ (threes ps ++ bs)) (length bs) (length (twos fs) + (length (threes ps) + 0))
      ∙ gather-behind (twos fs) (threes ps ++ bs) (length bs) (length (threes ps) + 0)
      ∙ gather-behind (threes ps) bs (length bs) 0
      ∙ gather-read bs

  pub length-written : length (written h es fs ps bs) ≡ end_of (written h es fs ps bs)
  length-written =
      let t = length-append (twos es) (twos fs ++ (threes ps ++ bs)) in
      omega (arith, t, length-append (twos fs) (threes ps ++ bs), length-append (threes ps) bs, length-twos es, length-twos fs, length-threes ps)
