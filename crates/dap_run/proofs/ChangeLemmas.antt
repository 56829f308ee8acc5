-- What an event makes of the board that a lab represents.
use Rattle.std.proofs.Common.{◌≡◌, ◌≢◌, Result, Ok, Err}
use Rattle.lab_core.specs.declared.event.Event.{Event}
use Rattle.lab_core.specs.declared.event.Event.TheVariants as event
use Rattle.lab_core.specs.declared.answer.Answer.{Answer}
use Rattle.lab_core.specs.declared.fault.EventFault.{EventFault}
use Rattle.lab_core.specs.declared.fault.EventFault.TheVariants.{OutOfMemory}
use Rattle.lab_core.specs.Board.{Board}
use Rattle.lab_core.specs.Events.{EventResult, result_of}
use Rattle.lab_core.specs.Memory.{Takes, MayLackMemory}
use Rattle.lab_core.specs.Labs.{LabState, RepresentsBoard, MatchesResult, CarriesOut}
use Rattle.dap_run.specs.Boards.{board_after, after, IsSure}

abbrev pub Answered : Type 0
Answered = Result Answer EventFault

abbrev pub err : EventFault → Answered
err f = Err f

pub stands_by : (g : EventResult) (b : Board) (r : Answered) (new : LabState) → MatchesResult b g r new
    → RepresentsBoard new (board_after b g)
stands_by (Ok (a, b')) b r new did = did.1
stands_by (Err f) b r new did = did.1

pub changed_so : (e : Event) (old new : LabState) (r : Answered) → CarriesOut (result_of e) old r new
    → r ≢ err OutOfMemory → (b : Board) → RepresentsBoard old b → RepresentsBoard new (after e b)
changed_so e old new r does other b represents = stands_by (result_of e b) b r new (does b represents other)

takes_none : (e : Event) (b : Board) → IsSure e → Takes e b → ⊥
takes_none (event.Start address) b sure takes = takes
takes_none event.Pause b sure takes = takes
takes_none event.Interrupt b sure takes = takes
takes_none (event.SetBoard option) b sure takes = takes
takes_none event.Attach b sure takes = takes
takes_none (event.Switches byte) b sure takes = takes
takes_none _ b sure takes = absurd sure

pub surely_so : (e : Event) (old new : LabState) (r : Answered) → IsSure e
    → CarriesOut (result_of e) old r new
    → (r ≡ err OutOfMemory → MayLackMemory e old) → (b : Board) → RepresentsBoard old b
    → RepresentsBoard new (after e b)
surely_so e old new r sure does lacks b represents =
    changed_so e old new r does (λ want. takes_none e b sure (lacks want b represents)) b represents
