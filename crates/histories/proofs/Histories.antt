-- One walk through a history: by induction over the calls. Assumes nothing.
use mathlib.Core.Path.{◌≡◌, refl, sym, ap, subst, ◌∙◌}
use mathlib.Core.List.{List, [], ◌∷◌, ◌++◌}
use Prim.Native.Nat.{ℕ, zero, suc, ◌+◌, ◌≤◌, ◌<◌}
use native.Mathlib.Nat.{add-zero}
use native.Mathlib.Decide.{dec_lt}
use native.Mathlib.Omega.{arith}
use lib.ListN.{length, get_or, take, drop, length-take, length-drop, drop_of_length-le}
use lib.Seq.{drop-cons}
use Rattle.addresses.specs.Addresses.{All}
use Rattle.places.specs.Shapes.{Shape}
use Rattle.places.specs.Images.{total}
use Rattle.station.specs.Paper.{Paper, arguments, shape_at, type_at}
use Rattle.walk.specs.Orders.{standing}
use Rattle.histories.specs.Calls.{Desk, Call, call, calls, Along, Stays, handed_by, handed, Spares, Serves, Served, Question, asks}
use Rattle.histories.specs.Lawful.{Lawful}
use Rattle.histories.specs.Values.{cut, images_for, zipped, questions, question}
use Rattle.histories.specs.Outcomes.{Stands}
use Rattle.histories.proofs.Attachments.{Same, call_same, same-holds}
use Rattle.histories.proofs.Images.{length_cut}
use Rattle.histories.proofs.Turns.{Turn, other, refused, moved, turn, Move, still, onward, move}

-- ---- the right questions, one by one

length-zipped : (ts : List ℕ) (ss : List Shape) → length ts ≡ length ss → length (zipped ts ss) ≡ length ss
length-zipped [] [] h = refl
length-zipped [] (s ∷ ss) h = absurd (omega arith)
length-zipped (t ∷ ts) [] h = absurd (omega arith)
length-zipped (t ∷ ts) (s ∷ ss) h = ap suc (length-zipped ts ss (omega arith))

zipped-at : (ts : List ℕ) (ss : List Shape) (p : ℕ) (z : Question) (o : Shape) → length ts ≡ length ss → p < length ss
    → get_or (zipped ts ss) p z ≡ record { asked = get_or ts p 255; room = (get_or ss p o).size }
zipped-at ts [] p z o h l = absurd (omega arith)
zipped-at [] (s ∷ ss) p z o h l = absurd (omega arith)
zipped-at (t ∷ ts) (s ∷ ss) zero z o h l = refl
zipped-at (t ∷ ts) (s ∷ ss) (suc p) z o h l = zipped-at ts ss p z o (omega arith) (omega arith)

module _ (P : Paper) where
  pub length-questions : (d : List ℕ) → length (P.types d) ≡ arguments P d → length (questions P d) ≡ arguments P d
  unfolding questions arguments
  length-questions d h = length-zipped (P.types d) (P.shapes d) h

  question-at : (d : List ℕ) (p : ℕ) (z : Question) → length (P.types d) ≡ arguments P d → p < arguments P d → get_or (questions P d) p z ≡ question P d p
  unfolding questions arguments question type_at shape_at
  question-at d p z h l = zipped-at (P.types d) (P.shapes d) p z _ h l

  pub length-values : (d values : List ℕ) → length (cut (P.shapes d) values) ≡ arguments P d
  unfolding arguments
  length-values d values = length_cut (P.shapes d) values

  stands_same : (d : List ℕ) (i : ℕ) (k k' : Desk) (p p' : ℕ) → Stands P d i k p → Same P k k' → k'.walks i ≡ standing P d k.station.number p'
      → P.named d ≤ p' → p' ≤ arguments P d → Stands P d i k' p'
  stands_same d i k k' p p' h s w l m = record { held = same-holds P k k' d s h.held; walk = rw s.station w; from = l; to = m }

  -- the walk i stood before argument p; hs has been handed back since
  pub record Since (d values : List ℕ) (i : ℕ) (k : Desk) (p : ℕ) (hs : List (List ℕ)) : Type 0 where
    pub stands : Stands P d i k (p + length hs)
    pub bytes : hs ≡ take (length hs) (drop p (cut (P.shapes d) values))

  since_more : (d values : List ℕ) (i : ℕ) (k : Desk) (p : ℕ) (hs : List (List ℕ)) → p < arguments P d → Since d values i k (suc p) hs
      → Since d values i k p (get_or (cut (P.shapes d) values) p [] ∷ hs)
  since_more d values i k p hs l h =
      let q : suc p + length hs ≡ p + suc (length hs) = omega arith in
      record {
        stands = subst (λ (m : ℕ). Stands P d i k m) q h.stands;
        bytes = rw (drop-cons (cut (P.shapes d) values) p [] (rw length-values l)) (ap (λ (t : List (List ℕ)). get_or (cut (P.shapes d) values) p [] ∷ t) h.bytes);
      }

  -- a first question that is among the right ones
  record Asked (d : List ℕ) (p m : ℕ) (q : Question) (qs : List Question) : Type 0 where
    left : ℕ
    more : m ≡ suc left
    there : p < arguments P d
    right : q ≡ question P d p
    rest : qs ≡ take left (drop (suc p) (questions P d))

  first-asked : (d : List ℕ) (p m : ℕ) (q : Question) (qs : List Question) → length (P.types d) ≡ arguments P d
      → q ∷ qs ≡ take m (drop p (questions P d)) → Asked d p m q qs
  first-asked d p zero q qs h g = let z : ◌≡◌ {A = ℕ} 0 1 = cc in absurd (omega arith)
  first-asked d p (suc m) q qs h g = by (dec_lt p (arguments P d))
    where
      l : length (questions P d) ≡ arguments P d
      l = length-questions d h

      by : Dec (p < arguments P d) → Asked d p (suc m) q qs
      by (yes t) =
          let z : q ∷ qs ≡ get_or (questions P d) p q ∷ take m (drop (suc p) (questions P d)) = g ∙ ap (λ (x : List Question). take (suc m) x) (drop-cons (questions P d) p q (rw l t)) in
          let x : q ≡ get_or (questions P d) p q = cc in
          record { left = m; more = refl; there = t; right = x ∙ question-at d p q h t; rest = cc }
      by (no t) =
          let z : q ∷ qs ≡ [] = g ∙ ap (λ (x : List Question). take (suc m) x) (drop_of_length-le (questions P d) {i = p} (omega (arith, l))) in
          let y : ◌≡◌ {A = ℕ} 0 1 = cc in absurd (omega arith)

none : {A : Type 0} (l : List A) → length l ≡ 0 → [] ≡ l
none [] h = refl
none (x ∷ l) h = absurd (omega arith)

module _ (P : Paper) (L : Lawful P) (d address values : List ℕ) (f : length values ≡ total (P.shapes d)) (i : ℕ) where
  -- whatever the history asks of the walk i: it stands behind as many arguments as it has handed back, and these were the ones in order
  pub since : (cs : List Call) (k : Desk) (p : ℕ) → Stands P d i k p → Along P (Stays P) k cs → All (Spares i) cs
      → Along P (Served P i (images_for P d address values)) k cs → Since P d values i (calls P k cs) p (handed P i k cs)
  since [] k p h st sp se = record { stands = rw add-zero h; bytes = refl }
  since (c ∷ cs) k p h st sp se = by (λ p' g. since cs (call P k c) p' g st.1 sp.1 se.1) (move P L d address values f i k c p h sp.0 se.0)
    where
      s : Same P k (call P k c)
      s = call_same P k c h.held.attached st.0

      by : ((p' : ℕ) → Stands P d i (call P k c) p' → Since P d values i (calls P (call P k c) cs) p' (handed P i (call P k c) cs))
          → Move P d values i k c p → Since P d values i (calls P (call P k c) cs) p (handed_by P i k c ++ handed P i (call P k c) cs)
      by rec (still hb w) = rw hb (rec p (stands_same P d i k (call P k c) p p h s (w ∙ h.walk) h.from h.to))
      by rec (onward l hb w) =
          let l' = h.from in
          rw hb (since_more P d values i (calls P (call P k c) cs) p (handed P i (call P k c) cs) l (rec (suc p) (stands_same P d i k (call P k c) p (suc p) h s w (omega arith) l)))

  -- asked the right questions, it hands back their arguments
  pub answers : (cs : List Call) (k : Desk) (p m : ℕ) → Stands P d i k p → Along P (Stays P) k cs → All (Spares i) cs
      → All (Serves P i (images_for P d address values)) cs → asks i cs ≡ take m (drop p (questions P d))
      → handed P i k cs ≡ take m (drop p (cut (P.shapes d) values))
  answers [] k p m h st sp se q =
      none (take m (drop p (cut (P.shapes d) values)))
      (simp (length-take, length-drop, length-values)
      (omega (arith, simp (length-take, length-drop) at (ap length q), length-questions P d (L.typed d h.held.accepted))))
  answers (c ∷ cs) k p m h st sp se q =
      by (λ p' m' g. answers cs (call P k c) p' m' g st.1 sp.1 se.1) (turn P L d address values f i k c p h sp.0 se.0)
    where
      s : Same P k (call P k c)
      s = call_same P k c h.held.attached st.0

      ty : length (P.types d) ≡ arguments P d
      ty = L.typed d h.held.accepted

      by : ((p' m' : ℕ) → Stands P d i (call P k c) p' → asks i cs ≡ take m' (drop p' (questions P d))
          → handed P i (call P k c) cs ≡ take m' (drop p' (cut (P.shapes d) values)))
          → Turn P d values i k c p → handed_by P i k c ++ handed P i (call P k c) cs ≡ take m (drop p (cut (P.shapes d) values))
      by rec (other qa hb w) =
          rw hb (rec p m (stands_same P d i k (call P k c) p p h s (w ∙ h.walk) h.from h.to) (ap (λ (x : List Question). x ++ asks i cs) (sym qa) ∙ q))
      by rec (refused q₀ qa no' hb w) =
          let z = first-asked P d p m q₀ (asks i cs) ty (ap (λ (x : List Question). x ++ asks i cs) (sym qa) ∙ q) in
          absurd (no' z.there z.right)
      by rec (moved qa l hb w) =
          let z = first-asked P d p m (question P d p) (asks i cs) ty (ap (λ (x : List Question). x ++ asks i cs) (sym qa) ∙ q) in
          let l' = h.from in
          rw (hb, z.more, drop-cons (cut (P.shapes d) values) p [] (rw length-values l))
          (ap (λ (x : List (List ℕ)). get_or (cut (P.shapes d) values) p [] ∷ x)
          (rec (suc p) z.left (stands_same P d i k (call P k c) p (suc p) h s w (omega arith) l) z.rest))
