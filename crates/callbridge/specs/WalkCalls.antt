-- What the calls of the C interface that open a walk, step it, finish it and show an argument give: include/callbridge.h. Assumes nothing: these are definitions.
use Rattle.std.specs.Prelude.{List, ℕ, Err, None, Ok, Option, Result, Some}
use Rattle.form.specs.declared.Refusal.{Refusal}
use Rattle.form.specs.Reading.{refusal_of}
use Rattle.station.specs.Paper.{kcb, answer_under}
use Rattle.station.specs.Attachment.{described}
use Rattle.walk.specs.declared.Walk.{Walk as Standing}
use Rattle.walk.specs.declared.showing.Shown.{Shown}
use Rattle.walk.specs.declared.showing.Shown.TheVariants.{Registers, Stack}
use Rattle.walk.specs.Orders.{Ask, step_refusal}
use Rattle.walk.specs.Steps.{step_walk}
use Rattle.finishing.specs.Rest.{AskRest, finish_refusal, finish_walk}
use Rattle.flat.specs.declared.Part.{Part}
use Rattle.flat.specs.declared.Station.{Station}
use Rattle.flat.specs.declared.Walk.{Walk}
use Rattle.flat.specs.Parts.{nowhere, of_registers, of_stack}
use Rattle.flat.specs.Stations.{station_meant, walk_meant, flat_walk}

-- cb_open_walk
abbrev pub open_given : Result Standing Refusal → Result Walk Refusal
open_given (Ok w) = Ok (flat_walk w)
open_given (Err r) = Err r

-- cb_step: the record behind the argument
unfoldable pub step_given : Station → List ℕ → Walk → Ask → Result Walk Refusal
step_given s seat w a =
    answer_under kcb (described (station_meant s) seat) (step_refusal kcb (station_meant s) seat (walk_meant w) a)
    (flat_walk (step_walk kcb (station_meant s) seat (walk_meant w) a))

-- cb_finish_walk: the record at its end
unfoldable pub finish_given : Station → List ℕ → Walk → AskRest → Result Walk Refusal
finish_given s seat w a =
    answer_under kcb (described (station_meant s) seat) (finish_refusal kcb (station_meant s) seat (walk_meant w) a)
    (flat_walk (finish_walk kcb (station_meant s) seat (walk_meant w) a))

-- cb_show: a part is an answer, "and the empty part for a refusal, for two vector registers and for mixed ones"
abbrev pub shown_part : Result (Option Shown) Refusal → Part
shown_part (Ok (Some (Registers p))) = of_registers p.offset p.length
shown_part (Ok (Some (Stack p))) = of_stack p.offset p.length
shown_part (Ok None) = nowhere
shown_part (Err r) = nowhere

abbrev pub shown_refusal : Result (Option Shown) Refusal → Refusal
shown_refusal (Ok (Some (Registers p))) = refusal_of 0
shown_refusal (Ok (Some (Stack p))) = refusal_of 0
shown_refusal (Ok None) = refusal_of 0
shown_refusal (Err r) = r
