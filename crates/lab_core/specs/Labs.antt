-- Which boards a lab represents.
use Rattle.std.specs.Prelude.{◌≡◌, ◌≢◌, ◌<◌, ◌≤◌, ◌+◌, ◌==◌, ℕ, List, [], ◌++◌, length, min, Bool, true}
use Rattle.std.specs.Prelude.{false, Option, Some, None, IsSome, is_some, unwrap_or, Result, Ok, Err, ◌⊎◌}
use Rattle.std.specs.List.{filter}
use Rattle.std.specs.Option.{IfSome}
use Rattle.i80_exec.specs.State.{MachineState, byte_at}
use Rattle.i80_base.specs.declared.ports.PortOperation.{PortOperation}
use Rattle.i80_exec.specs.declared.registers.Stepped.{Stepped}
use Rattle.i80_exec.specs.declared.registers.Stepped.TheVariants.{Undefined}
use Rattle.i80_exec.specs.declared.registers.Kind.{Kind}
use Rattle.i80_exec.specs.declared.registers.Kind.TheVariants.{Armed, Halted}
use Rattle.i80_exec.specs.Step.{operation_list, is_arming, is_halt}
use Rattle.i80_devs.specs.Past as devices
use Rattle.asm_build.specs.Reading.{Entries}
use Rattle.lab_frames.specs.declared.frame.Frame.{Frame}
use Rattle.lab_frames.specs.Live.{Entry, live, stays}
use Rattle.lab_frames.specs.Frames.{AtLeast, LeavesOldest}
use Rattle.lab_frames.specs.Frames as frames
use Rattle.lab_image.specs.Loads as origins
use Rattle.lab_image.specs.declared.spans.Span.{Span}
use Rattle.lab_image.specs.Breakpoints.{BreakpointState, CanBeMet}
use Rattle.lab_image.specs.Breakpoints as breakpoints
use Rattle.lab_core.specs.declared.lab.Context.{Context}
use Rattle.lab_core.specs.declared.run_state.RunState.{RunState}
use Rattle.lab_core.specs.declared.run_state.RunState.TheVariants.{Stopped}
use Rattle.lab_core.specs.declared.event.StepRequest.{StepRequest}
use Rattle.lab_shown.specs.declared.step.StepKind.{StepKind}
use Rattle.lab_shown.specs.declared.step.StepKind.TheVariants.{In, Over, Out}
use Rattle.lab_image.specs.declared.sources.Source.{Source}
use Rattle.lab_core.specs.declared.event.Event.{Event}
use Rattle.lab_core.specs.declared.answer.Answer.{Answer}
use Rattle.lab_core.specs.declared.fault.EventFault.{EventFault}
use Rattle.lab_core.specs.declared.fault.EventFault.TheVariants.{OutOfMemory}
use Rattle.lab_core.specs.Board.{Board, next_change, after_next_step}
use Rattle.lab_core.specs.Stops.{since, earlier, has_step, innermost, is_gone, is_gone_after}
use Rattle.lab_core.specs.Slices.{ends_in_halt, reason, reason_before_fetch, after_steps, traffic_of}
use Rattle.lab_core.specs.SliceEnds.{slice_end, after_slice}
use Rattle.lab_core.specs.declared.answer.SliceOutcome.{SliceOutcome}
use Rattle.lab_core.specs.declared.answer.SliceOutcome.TheVariants as outcomes
use Rattle.lab_core.specs.declared.answer.End.TheVariants as ends
use Rattle.lab_core.specs.declared.lab.burst.BurstStep.{BurstStep}
use Rattle.lab_core.specs.declared.lab.burst.BurstStep.TheVariants.{Within, Last, Ended}
use Rattle.lab_core.specs.Events.{Applies, Runs}

-- what a contract sees of a lab
pub record LabState : Type 0 where
  pub machine : MachineState
  pub devices : devices.DeviceState
  pub frames : List Frame
  pub origins : List Span
  pub symbols : Entries
  pub sources : List Source
  pub breakpoints : BreakpointState
  pub is_attached : Bool
  pub run : RunState
  pub is_halted : Bool
  pub is_resumed : Bool
  pub has_moved : Bool
  pub request : Option StepRequest
  pub older : ℕ
  pub innermost : Option Frame
  pub is_gone : Bool

-- What the lab tracks while a Step is pending, if these are the run's entries before and since it began: the
-- number of frames left of those live then, the innermost of them, and whether that one has ended.
pub record Follows (older : ℕ) (frame : Option Frame) (gone : Bool)
    (before later : List Entry) : Type 0 where
  pub older_is : older ≡ length (filter (stays later) (live before))
  pub innermost_is : frame ≡ innermost (live before)
  pub gone_is : gone ≡ is_gone (innermost (live before)) later

-- The lab represents the board, and `traffic` lists the port operations that haven't been taken yet.
pub record RepresentsDuringSlice (lab : LabState) (b : Board) (traffic : List PortOperation) : Type 0 where
  pub machine : lab.machine ≡ b.machine
  pub devices : devices.RepresentsPast lab.devices b.past
  pub traffic_is : lab.devices.operations ≡ traffic
  pub frames : lab.frames ≡ live b.trace
  pub origins : origins.GivesOrigins lab.origins b.loads
  pub symbols : lab.symbols ≡ b.symbols
  pub sources : lab.sources ≡ b.sources
  pub lists : lab.breakpoints.lists ≡ b.breakpoints
  pub met : breakpoints.MarksBreakpoints lab.breakpoints b.loads
  pub attached : lab.is_attached ≡ b.is_attached
  pub run : lab.run ≡ b.run
  pub is_halted : lab.is_halted ≡ ends_in_halt b.trace
  pub within : unwrap_or b.resumed 0 ≤ length b.trace
  pub is_resumed : lab.is_resumed ≡ is_some b.resumed
  pub has_moved : lab.has_moved ≡ has_step (since b)
  pub request : lab.request ≡ b.request
  pub follows : IsSome b.request → Follows lab.older lab.innermost lab.is_gone (earlier b) (since b)
  -- of the board alone: a stopped run has no pending Step, and no frame made since the Step began is below SP
  pub stopped : b.run ≡ Stopped → b.request ≡ None
  pub above : IsSome b.request → AtLeast b.machine.regs.sp (live (since b))

-- ---- what steps and queries do to a lab

-- for every board the old lab represents, the new lab represents it one step later
abbrev pub OneStepOn : LabState → LabState → Type 0
OneStepOn old new =
    (b : Board) (traffic : List PortOperation) → RepresentsDuringSlice old b traffic
    → RepresentsDuringSlice new (after_next_step b) (traffic ++ operation_list (next_change b).operation)

-- the new lab represents every board the old one did
abbrev pub SameBoard : LabState → LabState → Type 0
SameBoard old new =
    (b : Board) (traffic : List PortOperation) → RepresentsDuringSlice old b traffic
    → RepresentsDuringSlice new b traffic

-- `found` is the value of `f` on every board the lab represents
abbrev pub Computes : {A : Type 0} → (Board → A) → A → LabState → Type 0
Computes f found lab = (b : Board) (traffic : List PortOperation) → RepresentsDuringSlice lab b traffic
    → found ≡ f b

-- if not watched, there is neither a debugger nor a pending Step
abbrev pub Watches : Bool → Bool → Option StepRequest → Type 0
Watches true is_attached request = Unit {0}
Watches false is_attached request = (is_attached ≡ false) × (request ≡ None)

-- the lab with this machine and this context
abbrev pub in_slice : LabState → MachineState → Context → LabState
in_slice lab machine context = record lab {
  machine = machine;
  devices = context.devices;
  frames = context.frames;
  origins = context.origins;
  breakpoints = context.breakpoints;
  is_attached = context.is_attached;
  is_halted = context.is_halted;
  is_resumed = context.is_resumed;
  has_moved = context.has_moved;
  request = context.request;
  older = context.older;
  innermost = context.innermost;
  is_gone = context.is_gone;
}

-- the three above, for every lab with this machine and context
abbrev pub OneStepOnIn : MachineState → Context → MachineState → Context → Type 0
OneStepOnIn machine context machine' context' =
    (lab : LabState) → OneStepOn (in_slice lab machine context) (in_slice lab machine' context')

abbrev pub SameBoardIn : MachineState → Context → MachineState → Context → Type 0
SameBoardIn machine context machine' context' =
    (lab : LabState) → SameBoard (in_slice lab machine context) (in_slice lab machine' context')

abbrev pub ComputesIn : {A : Type 0} → (Board → A) → A → MachineState → Context → Type 0
ComputesIn f found machine context = (lab : LabState) → Computes f found (in_slice lab machine context)

-- steps don't change what the debugger requested
pub record KeepsAsked (old new : Context) : Type 0 where
  pub attached : new.is_attached ≡ old.is_attached
  pub breakpoints : new.breakpoints ≡ old.breakpoints
  pub request : new.request ≡ old.request

-- ---- bursts

-- Whether a Step of this kind is done: Over, if every live frame is older than the Step; Out, if the frame
-- that was innermost when it began has ended.
abbrev pub is_done_in : StepKind → Context → Bool
is_done_in In context = true
is_done_in Over context = length context.frames == context.older
is_done_in Out context = context.is_gone

-- whether a Step is pending and done
abbrev pub is_step_done : Option StepRequest → Context → Bool
is_step_done None context = false
is_step_done (Some request) context = is_done_in request.kind context

-- Only what is fetched next, a breakpoint's or an undefined opcode, can end the slice: the last step
-- wasn't HLT, one was made since the last Resume or Step, no pending Step is done, and no request is
-- latched.
pub record OnlyFetchCanStop (context : Context) : Type 0 where
  pub goes_on : context.is_halted ≡ false
  pub has_moved : context.has_moved ≡ true
  pub undone : is_step_done context.request context ≡ false
  pub unlatched : context.devices.panel.latched ≡ None

-- A burst checks for breakpoints only if a debugger is attached, and skips the check only if none can be met.
abbrev pub LooksUp : Bool → Context → Type 0
LooksUp true context = context.is_attached ≡ true
LooksUp false context = (context.is_attached ≡ false) ⊎ CanBeMet false context.breakpoints

-- A burst is in progress: only what is fetched next can end the slice, the last instruction wasn't EI, and SP
-- is below the frame floor. A step that answers Done and leaves SP there is quiet: it changes
-- nothing but the machine and the devices.
pub record IsInBurst (frame_floor : ℕ) (machine : MachineState) (context : Context) : Type 0 where
  pub only_fetch : OnlyFetchCanStop context
  pub settled : is_arming machine.regs.interrupts ≡ false
  pub within : machine.regs.sp < frame_floor
  pub above : (sp : ℕ) → sp < frame_floor → AtLeast sp context.frames

-- how a step of a burst ended the run, if it did
abbrev pub ending_of : BurstStep → Option SliceOutcome
ending_of (Within frame_floor) = None
ending_of Last = None
ending_of (Ended outcome) = Some outcome

-- the step was EI or HLT
abbrev pub IsLast : Kind → Type 0
IsLast kind = (kind ≡ Armed) ⊎ (kind ≡ Halted)

-- A burst continues after a step of this kind that left SP at `sp`: it was neither EI nor HLT, no pending
-- Step is done, and SP is below the frame floor.
pub record GoesOn (kind : Kind) (sp frame_floor : ℕ) (context : Context) : Type 0 where
  pub not_last : IsLast kind → ⊥
  pub undone : is_step_done context.request context ≡ false
  pub within : sp < frame_floor
  pub above : (low : ℕ) → low < frame_floor → AtLeast low context.frames

-- A step with this answer was made, with PC at `site` before and SP at `sp` after it: the context's frames
-- and what a pending Step is decided by are updated.
pub record IsMade (answer : Stepped) (site sp : ℕ) (old new : Context) : Type 0 where
  pub defined : (opcode : ℕ) → answer ≡ Undefined opcode → ⊥
  pub frames : frames.Advances answer site sp old.frames new.frames
  pub left : ℕ
  pub oldest : LeavesOldest answer sp old.frames left
  pub older : IsSome old.request → new.older ≡ min old.older left
  pub gone : IsSome old.request → new.is_gone ≡ is_gone_after old.is_gone old.innermost answer sp
  pub rest : new ≡ record old {
    frames = new.frames;
    is_halted = is_halt answer;
    older = new.older;
    is_gone = new.is_gone;
  }

-- No step was made, because the opcode at `site` is undefined.
pub record IsNotMade (answer : Stepped) (site : ℕ) (outcome : SliceOutcome) (old new : Context) : Type 0 where
  pub opcode : ℕ
  pub answer_is : answer ≡ Undefined opcode
  pub outcome_is : outcome ≡ outcomes.End (ends.Undefined opcode site)
  pub kept : new ≡ old

-- the update of the context after a step of a burst with this answer
abbrev pub FollowsBurstStep : Stepped → ℕ → ℕ → Context → Context → BurstStep → Type 0
FollowsBurstStep answer site sp old new (Within frame_floor) = IsMade answer site sp old new
FollowsBurstStep answer site sp old new Last = IsMade answer site sp old new
FollowsBurstStep answer site sp old new (Ended outcome) = IsNotMade answer site outcome old new

-- The lab represents the board after `made` steps. There was no reason to stop before any of them, and
-- `found`, if there is one, is the first reason after them.
pub record Makes (made : ℕ) (found : Option SliceOutcome) (b : Board) (traffic : List PortOperation)
    (lab : LabState) : Type 0 where
  pub represents : RepresentsDuringSlice lab (after_steps made b) (traffic ++ traffic_of made b)
  pub none_before : (j : ℕ) → j < made → reason (after_steps j b) ≡ None
  pub found_is : IfSome found (λ outcome. reason (after_steps made b) ≡ Some outcome)

-- the same from every board that the old lab represented
abbrev pub MakesIn : ℕ → Option SliceOutcome → MachineState → Context → MachineState → Context → Type 0
MakesIn made found machine context machine' context' =
    (lab : LabState) (b : Board) (traffic : List PortOperation)
    → RepresentsDuringSlice (in_slice lab machine context) b traffic
    → Makes made found b traffic (in_slice lab machine' context')

-- A burst of at most `most` steps may begin: there is space for their port operations, and there is no
-- reason to stop but an undefined opcode. `is_asked` says whether a Step is pending.
pub record BurstMayBegin (most frame_floor : ℕ) (is_asked : Bool) (machine : MachineState) (context : Context)
    : Type 0 where
  pub room : most ≤ context.devices.spare
  pub ready : IsInBurst frame_floor machine context
  pub free : ComputesIn reason_before_fetch None machine context
  pub asked : is_some context.request ≡ is_asked

-- The result of at most `most` steps, from an old machine and context to new ones: how many were made, and
-- the reason found after them, if any. At least one is made if none is found, and fewer than `most` if one
-- is. Each uses space for at most one port operation.
pub record MakesAtMost (most : ℕ) (result : ℕ × Option SliceOutcome) (old new : MachineState × Context)
    : Type 0 where
  pub makes : MakesIn result.0 result.1 old.0 old.1 new.0 new.1
  pub few : result.0 ≤ most
  pub some : IsSome result.1 → result.0 < most
  pub progress : 1 ≤ most → result.1 ≡ None → 1 ≤ result.0
  pub room : result.1 ≡ None → old.1.devices.spare ≤ new.1.devices.spare + result.0
  pub kept : KeepsAsked old.1 new.1

-- how a run ends where the opcode at PC is undefined
abbrev pub undefined_end : MachineState → SliceOutcome
undefined_end m = outcomes.End (ends.Undefined (byte_at m m.regs.pc) m.regs.pc)

-- how a burst that left this machine ended the run, if it did
abbrev pub end_at : Bool → MachineState → Option SliceOutcome
end_at true m = Some (undefined_end m)
end_at false m = None

-- No burst goes on from here: the last instruction was EI or HLT, the pending Step is done, or there is a
-- reason to stop.
abbrev pub EndsBurst : MachineState → Context → Type 0
EndsBurst machine context =
    (is_arming machine.regs.interrupts ≡ true) ⊎ ((context.is_halted ≡ true)
    ⊎ ((is_step_done context.request context ≡ true)
    ⊎ ((outcome : SliceOutcome) × ComputesIn reason_before_fetch (Some outcome) machine context)))

-- As many of the `most` steps were made as a burst makes: all of them, or until a reason was found, or until
-- no burst went on.
abbrev pub GoesFar : ℕ → ℕ × Option SliceOutcome → MachineState → Context → Type 0
GoesFar most result machine context =
    (result.0 ≡ most) ⊎ (IsSome result.1 ⊎ EndsBurst machine context)

-- ---- events

-- the same between events, when every port operation has been taken
abbrev pub RepresentsBoard : LabState → Board → Type 0
RepresentsBoard lab b = RepresentsDuringSlice lab b []

-- From every board the old lab represents, the event gives this reply and a board the new lab represents,
-- unless it ran out of memory.
abbrev pub AppliesTo : LabState → Event → Result Answer EventFault → LabState → Type 0
AppliesTo old event reply new =
    (b : Board) → RepresentsBoard old b → reply ≢ Err OutOfMemory
    → (b' : Board) × Applies b event reply b' × RepresentsBoard new b'

-- the same for a list of events
abbrev pub RunsOn : LabState → List Event → List (Result Answer EventFault) → LabState → Type 0
RunsOn old events replies new =
    (b : Board) → RepresentsBoard old b → (b' : Board) × Runs b events replies b' × RepresentsBoard new b'

-- The result is the function's, and the lab represents the board it returns, or the old one if it
-- refuses.
abbrev pub MatchesResult : {A : Type 0} → Board → Result (A × Board) EventFault → Result A EventFault
    → LabState
    → Type 0
MatchesResult b (Ok (x, b')) result new = (result ≡ Ok x) × RepresentsBoard new b'
MatchesResult b (Err fault) result new = (result ≡ Err fault) × RepresentsBoard new b

-- the same for every board the old lab represents, unless memory ran out
abbrev pub CarriesOut : {A : Type 0} → (Board → Result (A × Board) EventFault) → LabState
    → Result A EventFault
    → LabState → Type 0
CarriesOut f old result new = (b : Board) → RepresentsBoard old b → result ≢ Err OutOfMemory
    → MatchesResult b (f b) result new

-- the port operations and the outcome of a slice of 4,096 steps, after which the lab represents the board
abbrev pub IsSliceFrom : Board → List PortOperation × SliceOutcome → LabState → Type 0
IsSliceFrom b s new =
    (s.0 ≡ traffic_of (slice_end b).0 b) × ((s.1 ≡ (slice_end b).1) × RepresentsBoard new (after_slice b))
