-- Histories in which calls stand beside "all the rest at once" (document 02, request 2026-05), and the same written out step by step. Assumes nothing: these are
-- definitions.
use Rattle.std.specs.Prelude.{◌≡◌, cond, List, [], ◌∷◌, ◌++◌, map, ℕ, suc, eqb, replicate}
use Rattle.station.specs.Outcome.{leaves}
use Rattle.station.specs.Paper.{Paper, shape_at}
use Rattle.station.specs.Attachment.{described}
use Rattle.walk.specs.Orders.{Ask}
use Rattle.finishing.specs.Rest.{AskRest, step_ask, finish_refusal, finish_walk, finish_out}
use Rattle.histories.specs.Calls.{Desk, Call, stepping, with_walk, call, calls, handed_by, handed}
use Rattle.histories.specs.Values.{joined}

-- a call of a history, or all the rest of the walk under this name at once
pub data Item : Type 0 where
  one : Call → Item
  finishing : ℕ → AskRest → Item

module _ (P : Paper) where
  -- the desk after it, and after many
  abbrev pub item : Desk → Item → Desk
  item k (one c) = call P k c
  item k (finishing i a) =
      record { station = k.station; seat = k.seat; walks = with_walk k.walks i (finish_walk P k.station k.seat (k.walks i) a) }

  abbrev pub items : Desk → List Item → Desk
  items k [] = k
  items k (x ∷ xs) = items (item k x) xs

  -- the bytes that the walk i hands back by it, and by many, one argument behind the other
  abbrev pub bytes_by : ℕ → Desk → Item → List ℕ
  bytes_by i k (one c) = joined (handed_by P i k c)
  bytes_by i k (finishing j a) =
      cond (eqb i j) (leaves (finish_refusal P k.station k.seat (k.walks j) a) (finish_out P k.station k.seat (k.walks j) a) []) []

  abbrev pub bytes_of : ℕ → Desk → List Item → List ℕ
  bytes_of i k [] = []
  bytes_of i k (x ∷ xs) = bytes_by i k x ++ bytes_of i (item k x) xs

  -- "stepping one by one": a step for each type, with the same images, into a buffer of its own of the argument's size, from argument p on
  abbrev pub singles : List ℕ → AskRest → ℕ → List ℕ → List Ask
  singles d a p [] = []
  singles d a p (t ∷ ts) = step_ask a t (replicate (shape_at P d p).size 0) ∷ singles d a (suc p) ts

  -- the calls that it stands for: those steps, and none where it is refused
  abbrev pub spelt : Desk → Item → List Call
  spelt k (one c) = c ∷ []
  spelt k (finishing i a) =
      leaves (finish_refusal P k.station k.seat (k.walks i) a)
      (map (stepping i) (singles (described k.station k.seat) a (k.walks i).position a.asked)) []

  abbrev pub written : Desk → List Item → List Call
  written k [] = []
  written k (x ∷ xs) = spelt k x ++ written (item k x) xs

  -- the history that is written out leads to the same desk, and hands back the same bytes: what is proved of histories holds of the mixed ones
  pub record WrittenOut (k : Desk) (xs : List Item) : Type 0 where
    pub desk : items k xs ≡ calls P k (written k xs)
    pub bytes : (i : ℕ) → bytes_of i k xs ≡ joined (handed P i k (written k xs))

  abbrev pub Mixed : Type 0
  Mixed = (k : Desk) (xs : List Item) → WrittenOut k xs
