-- What `Lab::apply` and `Lab::run` reply, and what they leave of the lab.
use Rattle.std.specs.Prelude.{◌≡◌, ◌<◌, ◌≤◌, ℕ, List, length, take, slice_get, Result, Err}
use Rattle.std.specs.Prelude.{OnErr, IfOk, IfErr, IfSome}
use Rattle.lab_core.specs.declared.event.Event.{Event}
use Rattle.lab_core.specs.declared.event.Event.TheVariants.{Slice}
use Rattle.lab_core.specs.declared.answer.Answer.{Answer}
use Rattle.lab_core.specs.declared.answer.EventsFault.{EventsFault}
use Rattle.lab_core.specs.declared.answer.Wanted.TheVariants as wanted
use Rattle.lab_core.specs.declared.fault.EventFault.{EventFault}
use Rattle.lab_core.specs.declared.fault.EventFault.TheVariants.{OutOfMemory}
use Rattle.lab_core.specs.Board.{Board}
use Rattle.lab_core.specs.Events.{result_of}
use Rattle.lab_core.specs.SliceEnds.{traffic_in}
use Rattle.lab_core.specs.Labs.{LabState, RepresentsBoard, AppliesTo, CarriesOut, RunsOn}
use Rattle.lab_core.specs.Memory.{MayLackMemory}

-- A lab replies to an event as the relation and the function say. The answer to a slice has at most one port
-- operation for each step. An error leaves the lab unchanged.
pub record RepliesTo (old : LabState) (event : Event) (reply : Result Answer EventFault) (new : LabState)
    : Type 0 where
  pub applied : AppliesTo old event reply new
  pub given : CarriesOut (result_of event) old reply new
  pub few : (n : ℕ) (b : Board) → event ≡ Slice n → RepresentsBoard old b
      → IfOk reply (λ answer. length (traffic_in answer) ≤ n)
  pub err : OnErr reply (new ≡ old)
  pub memory : reply ≡ Err OutOfMemory → MayLackMemory event old

-- A lab replies to a list of events in order, or, if memory ran out, to those before some event.
pub record RepliesInOrder (old : LabState) (events : List Event)
    (result : Result (List (Result Answer EventFault)) EventsFault) (new : LabState) : Type 0 where
  pub ok : IfOk result (λ answers. RunsOn old events answers new)
  pub stopped : IfErr result (λ stopped.
      RunsOn old (take (length stopped.answers) events) stopped.answers new)
  pub fewer : IfErr result (λ stopped. length stopped.answers < length events)
  pub wanted : IfErr result (λ stopped. stopped.wanted ≡ wanted.Event
      → IfSome (slice_get events (length stopped.answers)) (λ event. MayLackMemory event new))
