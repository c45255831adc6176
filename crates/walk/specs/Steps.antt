-- What open and step give and leave (document 01, "Station and walk"). Assumes nothing: these are definitions.
use Rattle.std.specs.Prelude.{cond, List, ◌++◌, ℕ, suc, eqb, Err, Ok, Result}
use Rattle.addresses.specs.Addresses.{gather}
use Rattle.station.specs.declared.Station.{Station}
use Rattle.station.specs.Outcome.{leaves}
use Rattle.station.specs.Paper.{Paper, refusal_under, shape_at}
use Rattle.station.specs.Attachment.{described}
use Rattle.walk.specs.declared.Walk.{Walk}
use Rattle.walk.specs.Offsets.{read_at, step, bytes_from}
use Rattle.walk.specs.Orders.{Ask, offsets_of, with_offsets, standing, open_refusal, step_refusal}
use Rattle.form.specs.declared.Refusal.{Refusal}

module _ (P : Paper) where
  -- of d, that n is the number: the walk where n is 0, and else the refusal
  unfoldable pub opened_if : List ℕ → ℕ → Walk → Result Walk Refusal
  opened_if d n w = cond (eqb n 0) (Ok w) (Err (refusal_under P d n))

  -- "Open gives position N and the offsets after the named arguments (and hidden address)": the record where it answers 0
  unfoldable pub open_walk : Station → List ℕ → Walk
  open_walk s seat = standing P (described s seat) s.number (P.named (described s seat))

  unfoldable pub open_answer : Station → List ℕ → Result Walk Refusal
  open_answer s seat = opened_if (described s seat) (open_refusal P s seat) (open_walk s seat)

  -- the argument's bytes: fetched where 3.5.7 says, from the register image with the stack image after it
  unfoldable pub bytes_at : List ℕ → Walk → Ask → List ℕ
  bytes_at d w a = gather (a.registers ++ a.stack) (bytes_from P.registers (read_at P.slot (offsets_of w) (shape_at P d w.position)) (shape_at P d w.position).size)

  -- the record after the argument
  unfoldable pub moved_on : List ℕ → Walk → Walk
  moved_on d w = with_offsets w.number (suc w.position) (step P.slot (offsets_of w) (shape_at P d w.position))

  unfoldable pub step_walk : Station → List ℕ → Walk → Ask → Walk
  step_walk s seat w a = leaves (step_refusal P s seat w a) (moved_on (described s seat) w) w

  -- "The step copies into an out buffer"
  unfoldable pub step_out : Station → List ℕ → Walk → Ask → List ℕ
  step_out s seat w a = leaves (step_refusal P s seat w a) (bytes_at (described s seat) w a) a.out
