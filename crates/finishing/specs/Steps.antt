-- "Where it accepts, its answer, end record and bytes equal stepping one by one" (document 02, request 2026-05). Assumes nothing: these are
-- definitions.
use Rattle.std.specs.Prelude.{◌≡◌, List, [], ◌∷◌, ◌++◌, ℕ, suc, length, replicate}
use Rattle.station.specs.declared.Station.{Station}
use Rattle.station.specs.Paper.{Paper, shape_at}
use Rattle.station.specs.Attachment.{described}
use Rattle.walk.specs.declared.Walk.{Walk}
use Rattle.walk.specs.Orders.{Ask, step_refusal}
use Rattle.walk.specs.Steps.{step_walk, step_out}
use Rattle.finishing.specs.Rest.{AskRest, step_ask, finish_refusal, finish_walk, finish_out}

module _ (P : Paper) where
  -- steps in a row, each on from the record that the one before left: what they answer, the record after them, and what they write
  abbrev pub steps_answer : Station → List ℕ → Walk → List Ask → List ℕ
  steps_answer s seat w [] = []
  steps_answer s seat w (q ∷ qs) = step_refusal P s seat w q ∷ steps_answer s seat (step_walk P s seat w q) qs

  abbrev pub steps_walk : Station → List ℕ → Walk → List Ask → Walk
  steps_walk s seat w [] = w
  steps_walk s seat w (q ∷ qs) = steps_walk s seat (step_walk P s seat w q) qs

  abbrev pub steps_out : Station → List ℕ → Walk → List Ask → List ℕ
  steps_out s seat w [] = []
  steps_out s seat w (q ∷ qs) = step_out P s seat w q ++ steps_out s seat (step_walk P s seat w q) qs

  -- the steps qs ask for the types ts, with the images of a, each into a buffer of its own of the argument's size, from argument p on
  abbrev pub OneByOne : List ℕ → AskRest → ℕ → List ℕ → List Ask → Type 0
  OneByOne d a p [] [] = Unit {0}
  OneByOne d a p [] (q ∷ qs) = ⊥
  OneByOne d a p (t ∷ ts) [] = ⊥
  OneByOne d a p (t ∷ ts) (q ∷ qs) = (q ≡ step_ask a t q.out) × (length q.out ≡ (shape_at P d p).size) × OneByOne d a (suc p) ts qs

  -- each step is accepted, and they leave the record and the bytes that the one call leaves
  pub record EqualsSteps (s : Station) (seat : List ℕ) (w : Walk) (a : AskRest) (qs : List Ask) : Type 0 where
    pub answers : steps_answer s seat w qs ≡ replicate (length qs) 0
    pub walk : finish_walk P s seat w a ≡ steps_walk s seat w qs
    pub out : finish_out P s seat w a ≡ steps_out s seat w qs

  abbrev pub RestIsSteps : Type 0
  RestIsSteps =
      (s : Station) (seat : List ℕ) (w : Walk) (a : AskRest) (qs : List Ask) → finish_refusal P s seat w a ≡ 0
      → OneByOne (described s seat) a w.position a.asked qs → EqualsSteps s seat w a qs
