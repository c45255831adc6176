-- All the rest at once, among all other calls: the same as the steps that it stands for. Assumes nothing.
use mathlib.Core.Path.{◌≡◌, refl, sym, ap, ap₂, ◌∙◌}
use mathlib.Core.Bool.{Bool, true, false, cond}
use mathlib.Core.List.{List, [], ◌∷◌, ◌++◌, map, append-nil, append_assoc}
use Prim.Native.Nat.{ℕ, zero, suc}
use native.Mathlib.Omega.{arith}
use lib.Dec.{eqb}
use lib.ListN.{length, get_or, replicate, length-replicate}
use borrow.Author.Tests.{eqb-true, eq-eqb}
use Rattle.station.specs.Outcome.{leaves}
use Rattle.station.specs.Paper.{Paper, shape_at}
use Rattle.station.specs.Attachment.{described}
use Rattle.walk.specs.declared.Walk.{Walk}
use Rattle.walk.specs.Orders.{Ask, step_refusal}
use Rattle.walk.specs.Steps.{step_walk, step_out}
use Rattle.finishing.specs.Rest.{AskRest, finish_refusal, finish_walk, finish_out}
use Rattle.finishing.specs.Steps.{steps_answer, steps_walk, steps_out, OneByOne, RestIsSteps}
use Rattle.finishing.proofs.Orders.{finish-left}
use Rattle.finishing.proofs.Equal.{rest-is_steps}
use Rattle.histories.specs.Calls.{Desk, stepping, with_walk, calls, handed_by, handed}
use Rattle.histories.specs.Lawful.{Lawful}
use Rattle.histories.specs.Values.{joined}
use Rattle.histories.specs.Mixed.{Item, one, finishing, item, bytes_by, singles, spelt, written, WrittenOut, Mixed}
use Rattle.histories.proofs.Turns.{put_same}
use Rattle.histories.proofs.Frames.{calls-append, handed-append}

-- ---- lists

joined-append : (xs ys : List (List ℕ)) → joined (xs ++ ys) ≡ joined xs ++ joined ys
joined-append [] ys = refl
joined-append (x ∷ xs) ys = ap (λ (l : List ℕ). x ++ l) (joined-append xs ys) ∙ sym (append_assoc x (joined xs) (joined ys))

-- ---- a record put over itself

put-own : (ws : ℕ → Walk) (i : ℕ) (w : Walk) → w ≡ ws i → (j : ℕ) → ws j ≡ with_walk ws i w j
unfolding with_walk
put-own ws i w e j = by (eqb i j) refl
  where
    by : (b : Bool) → eqb i j ≡ b → ws j ≡ cond b w (ws j)
    by true q = ap ws (sym (eqb-true i j q)) ∙ sym e
    by false q = refl

put-twice : (ws : ℕ → Walk) (i : ℕ) (v w : Walk) (j : ℕ) → with_walk (with_walk ws i v) i w j ≡ with_walk ws i w j
unfolding with_walk
put-twice ws i v w j = by (eqb i j)
  where
    by : (b : Bool) → cond b w (cond b v (ws j)) ≡ cond b w (ws j)
    by true = refl
    by false = refl

module _ (P : Paper) where
  abbrev put : Desk → ℕ → Walk → Desk
  put k i w = record { station = k.station; seat = k.seat; walks = with_walk k.walks i w }

  put-unchanged : (k : Desk) (i : ℕ) (w : Walk) → w ≡ k.walks i → k ≡ put k i w
  put-unchanged k i w e = λ n. record { station = k.station; seat = k.seat; walks = λ j. put-own k.walks i w e j n }

  -- ---- steps in a row

  steps-desk : (i : ℕ) (qs : List Ask) (k : Desk) → calls P k (map (stepping i) qs) ≡ put k i (steps_walk P k.station k.seat (k.walks i) qs)
  steps-desk i [] k = put-unchanged k i (k.walks i) refl
  steps-desk i (q ∷ qs) k =
      let w = step_walk P k.station k.seat (k.walks i) q in
      steps-desk i qs (put k i w)
      ∙ (λ n. record { station = k.station; seat = k.seat; walks = λ j. put-twice k.walks i w (steps_walk P k.station k.seat (with_walk k.walks i w i) qs) j n })
      ∙ ap (λ (v : Walk). put k i (steps_walk P k.station k.seat v qs)) (put_same k.walks i w)

  first-zero : (n : ℕ) (ns : List ℕ) (m : ℕ) → n ∷ ns ≡ replicate (suc m) 0 → (n ≡ 0) × (ns ≡ replicate m 0)
  first-zero n ns m e = (ap (λ (l : List ℕ). get_or l 0 0) e, ap tail e)
    where
      tail : List ℕ → List ℕ
      tail [] = []
      tail (x ∷ xs) = xs

  steps-handed : (i : ℕ) (qs : List Ask) (k : Desk) → steps_answer P k.station k.seat (k.walks i) qs ≡ replicate (length qs) 0
      → joined (handed P i k (map (stepping i) qs)) ≡ steps_out P k.station k.seat (k.walks i) qs
  steps-handed i [] k e = refl
  steps-handed i (q ∷ qs) k e =
      let s = k.station in
      let w = step_walk P s k.seat (k.walks i) q in
      let z = first-zero (step_refusal P s k.seat (k.walks i) q) (steps_answer P s k.seat w qs) (length qs) e in
      let m = put_same k.walks i w in
      let r = steps-handed i qs (put k i w) (ap (λ (v : Walk). steps_answer P s k.seat v qs) m ∙ z.1) in
      rw (eq-eqb i i refl, z.0) (ap (λ (l : List ℕ). step_out P s k.seat (k.walks i) q ++ l) (r ∙ ap (λ (v : Walk). steps_out P s k.seat v qs) m))

  other-handed : (i j : ℕ) (qs : List Ask) (k : Desk) → eqb i j ≡ false → handed P i k (map (stepping j) qs) ≡ []
  other-handed i j [] k e = refl
  other-handed i j (q ∷ qs) k e = rw e (other-handed i j qs (put k j (step_walk P k.station k.seat (k.walks j) q)) e)

  single : (d : List ℕ) (a : AskRest) (ts : List ℕ) (p : ℕ) → OneByOne P d a p ts (singles P d a p ts)
  single d a [] p = tt
  single d a (t ∷ ts) p = (refl, length-replicate (shape_at P d p).size 0, single d a ts (suc p))

  -- ---- one item

  spelt-desk : RestIsSteps P → (k : Desk) (x : Item) → item P k x ≡ calls P k (spelt P k x)
  spelt-desk R k (one c) = refl
  spelt-desk R k (finishing i a) = by (finish_refusal P k.station k.seat (k.walks i) a) refl
    where
      qs : List Ask
      qs = singles P (described k.station k.seat) a (k.walks i).position a.asked

      by : (n : ℕ) → finish_refusal P k.station k.seat (k.walks i) a ≡ n
          → put k i (finish_walk P k.station k.seat (k.walks i) a) ≡ calls P k (leaves n (map (stepping i) qs) [])
      by zero e =
          ap (put k i) (R k.station k.seat (k.walks i) a qs e (single (described k.station k.seat) a a.asked (k.walks i).position)).walk
          ∙ sym (steps-desk i qs k)
      by (suc n) e = sym (put-unchanged k i _ (finish-left P k.station k.seat (k.walks i) a (λ z. omega (arith, sym e ∙ z))).0)

  spelt-bytes : RestIsSteps P → (i : ℕ) (k : Desk) (x : Item) → bytes_by P i k x ≡ joined (handed P i k (spelt P k x))
  spelt-bytes R i k (one c) = ap joined (sym (append-nil (handed_by P i k c)))
  spelt-bytes R i k (finishing j a) = by (finish_refusal P k.station k.seat (k.walks j) a) refl (eqb i j) refl
    where
      qs : List Ask
      qs = singles P (described k.station k.seat) a (k.walks j).position a.asked

      by : (n : ℕ) → finish_refusal P k.station k.seat (k.walks j) a ≡ n → (b : Bool) → eqb i j ≡ b
          → cond b (leaves n (finish_out P k.station k.seat (k.walks j) a) []) [] ≡ joined (handed P i k (leaves n (map (stepping j) qs) []))
      by zero e true q =
          let z = R k.station k.seat (k.walks j) a qs e (single (described k.station k.seat) a a.asked (k.walks j).position) in
          z.out ∙ sym (steps-handed j qs k z.answers) ∙ ap (λ (h : ℕ). joined (handed P h k (map (stepping j) qs))) (sym (eqb-true i j q))
      by zero e false q = ap joined (sym (other-handed i j qs k q))
      by (suc n) e true q = refl
      by (suc n) e false q = refl

  -- ---- many

  written_out : RestIsSteps P → (xs : List Item) (k : Desk) → WrittenOut P k xs
  written_out R [] k = record { desk = refl; bytes = λ i. refl }
  written_out R (x ∷ xs) k =
      let r = written_out R xs (item P k x) in
      let cs = spelt P k x in
      let ds = written P (item P k x) xs in
      let e = spelt-desk R k x in
      record {
        desk = r.desk ∙ ap (λ (l : Desk). calls P l ds) e ∙ sym (calls-append P cs ds k);
        bytes = λ i.
            ap₂ ◌++◌ (spelt-bytes R i k x) (r.bytes i ∙ ap (λ (l : Desk). joined (handed P i l ds)) e)
            ∙ sym (joined-append (handed P i k cs) (handed P i (calls P k cs) ds)) ∙ ap joined (sym (handed-append P i cs ds k));
      }

  pub mixed : Lawful P → Mixed P
  mixed L k xs = written_out (rest-is_steps P L.shaped L.starts) xs k
