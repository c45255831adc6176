-- Request 2026-05, "All the rest at once", beside demands 1 and 2: "One call should take the expected type numbers and write all remaining arguments, packed, to
-- one buffer. Where it accepts, its answer, end record and bytes equal stepping one by one. It checks every type before it writes, so a refusal leaves walk and
-- buffer unchanged." `RestIsSteps` (finishing/specs/Steps.antt) states the second sentence of the definitions; what the call of a C host does is said of every outcome
-- that its contract admits. proofs/AllTheRest.antt proves `AllTheRest`. Assumes nothing: these are definitions.
use Rattle.std.specs.Prelude.{◌≡◌, ◌≢◌, List, ℕ}
use Rattle.form.specs.declared.Refusal.{Refusal}
use Rattle.station.specs.declared.Station.{Station as Attached}
use Rattle.station.specs.Paper.{kcb, refusal_under}
use Rattle.station.specs.Attachment.{described}
use Rattle.walk.specs.declared.Walk.{Walk as Standing}
use Rattle.walk.specs.Orders.{Ask}
use Rattle.finishing.specs.Rest.{AskRest, asking_rest, finish_refusal, finish_walk, finish_out}
use Rattle.finishing.specs.Steps.{steps_walk, steps_out, OneByOne, RestIsSteps}
use Rattle.histories.specs.Mixed.{Mixed}
use Rattle.flat.specs.declared.Station.{Station}
use Rattle.flat.specs.declared.Walk.{Walk}
use Rattle.flat.specs.Stations.{station_meant, walk_meant}
use Rattle.callbridge.specs.contracts.cb_finish_walk
use Rattle.promises.specs.Meaning.{Answered, of_refusal}
use Rattle.promises.specs.Orders.{finish_order}
use Rattle.promises.specs.WrongType.{Names}
use Rattle.promises.specs.Calls.{Ensures}

-- cb_finish_walk: "its answer, end record and bytes equal stepping one by one", whatever buffers the steps are lent
pub record FinishesFlat (s : Station) (seat : List ℕ) (old : Walk) (a : AskRest) (r : Refusal) (new : Walk) (o : List ℕ) : Type 0 where
  pub answered : Answered (of_refusal r) (finish_order (station_meant s) seat (walk_meant old) a) tt
  pub names : Names (described (station_meant s) seat) r
  pub refused : r.number ≢ 0 → (new ≡ old) × (o ≡ a.out)
  pub finished : r.number ≡ 0 → (qs : List Ask) → OneByOne kcb (described (station_meant s) seat) a (walk_meant old).position a.asked qs
      → (walk_meant new ≡ steps_walk kcb (station_meant s) seat (walk_meant old) qs) × (o ≡ steps_out kcb (station_meant s) seat (walk_meant old) qs)

pub record AllTheRest : Type 2 where
  -- of the definitions: which refusal, exactly; that one leaves all; and that without one it is what steps do
  pub answered : (s : Attached) (seat : List ℕ) (w : Standing) (a : AskRest)
      → Answered (of_refusal (refusal_under kcb (described s seat) (finish_refusal kcb s seat w a))) (finish_order s seat w a) tt
  pub frame : (s : Attached) (seat : List ℕ) (w : Standing) (a : AskRest) → finish_refusal kcb s seat w a ≢ 0
      → (finish_walk kcb s seat w a ≡ w) × (finish_out kcb s seat w a ≡ a.out)
  pub equals_steps : RestIsSteps kcb
  -- and in histories in which steps and this call are mixed: each leads to the desk, and hands back the bytes, of a history of condition C
  pub mixed : Mixed kcb
  -- the call
  pub finishes : Ensures cb_finish_walk.ended (λ M 𝓤 𝓛. cb_finish_walk.clauses 𝓛)
      (λ c r w. FinishesFlat c.passed.0.now c.passed.1.0.now c.passed.1.1.0.now
      (asking_rest c.passed.1.1.1.0.now c.passed.1.1.1.1.0.now c.passed.1.1.1.1.1.0.now c.passed.1.1.1.1.1.1.0.now) r w.1.1.0 w.1.1.1.1.1.1.0)
