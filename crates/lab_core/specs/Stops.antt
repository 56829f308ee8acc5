-- Where a debugger stops a run: at a breakpoint, and when a Step is complete.
use Rattle.std.specs.Prelude.{ℕ, List, [], ◌∷◌, take, drop, reverse, slice_get, Bool, true, false, not, ◌&&◌}
use Rattle.std.specs.Prelude.{◌||◌, Option, Some, None, is_none, unwrap_or, if◌then◌else◌}
use Rattle.i80_exec.specs.declared.registers.Stepped.{Stepped}
use Rattle.lab_frames.specs.declared.frame.Frame.{Frame}
use Rattle.lab_frames.specs.Live.{Entry, Step, Poke, ended_by, live, stays}
use Rattle.lab_image.specs.declared.origin.Origin.{Origin}
use Rattle.lab_image.specs.Loads.{origin_of}
use Rattle.lab_image.specs.Breakpoints.{is_met}
use Rattle.lab_core.specs.declared.answer.SliceOutcome.{SliceOutcome}
use Rattle.lab_core.specs.declared.answer.SliceOutcome.TheVariants as outcome
use Rattle.lab_core.specs.declared.answer.Stop.TheVariants as stop
use Rattle.lab_shown.specs.declared.step.StepKind.{StepKind}
use Rattle.lab_shown.specs.declared.step.StepKind.TheVariants.{In, Over, Out}
use Rattle.lab_shown.specs.declared.step.Granularity.{Granularity}
use Rattle.lab_shown.specs.declared.step.Granularity.TheVariants as granularity
use Rattle.lab_core.specs.declared.event.StepRequest.{StepRequest}
use Rattle.lab_core.specs.Board.{Board}

abbrev pub is_any : {A : Type 0} → List A → Bool
is_any [] = false
is_any (x ∷ xs) = true

-- whether one of the entries is a step
abbrev pub has_step : List Entry → Bool
has_step [] = false
has_step (Step step ∷ rest) = true
has_step (Poke before after ∷ rest) = has_step rest

-- the run's entries up to its last Resume or Step, and those since; if it had neither, all are since
abbrev pub earlier : Board → List Entry
earlier b = take (unwrap_or b.resumed 0) b.trace

abbrev pub since : Board → List Entry
since b = drop (unwrap_or b.resumed 0) b.trace

-- ---- a breakpoint

-- With a debugger attached, the breakpoint on the line whose statement begins at PC is met; but after a
-- Resume or a Step, only once a step was made.
abbrev pub meets_breakpoint : Board → Bool
meets_breakpoint b =
    b.is_attached && ((has_step (since b) || is_none b.resumed)
    && is_met b.breakpoints b.loads b.machine.regs.pc)

abbrev pub at_breakpoint : Board → Option SliceOutcome
at_breakpoint b = if meets_breakpoint b then Some (outcome.Stop stop.Breakpoint) else None

-- ---- a Step

-- the newest of some frames, which are listed oldest first
abbrev pub innermost : List Frame → Option Frame
innermost frames = slice_get (reverse frames) 0

-- whether there was a frame and these entries ended it
abbrev pub is_gone : Option Frame → List Entry → Bool
is_gone None entries = false
is_gone (Some frame) entries = not (stays entries frame)

-- whether it has ended after a step with this answer and SP, if `gone` says whether it had before
abbrev pub is_gone_after : Bool → Option Frame → Stepped → ℕ → Bool
is_gone_after gone None answer sp = gone
is_gone_after gone (Some frame) answer sp = gone || ended_by answer sp frame.slot

-- Over: no frame made since is live. Out: the frame that was innermost then has ended.
abbrev pub is_done : StepKind → List Entry → List Entry → Bool
is_done In before later = true
is_done Over before later = not (is_any (live later))
is_done Out before later = is_gone (innermost (live before)) later

abbrev pub is_first : Option Origin → Bool
is_first None = false
is_first (Some origin) = origin.is_first

-- a Step by line may end only where a statement begins
abbrev pub is_there : Granularity → Board → Bool
is_there granularity.Line b = is_first (origin_of b.loads b.machine.regs.pc)
is_there granularity.Instruction b = true

-- the Step is done, and may end at PC
abbrev pub is_reached : StepRequest → Board → Bool
is_reached request b = is_done request.kind (earlier b) (since b) && is_there request.granularity b

abbrev pub completes : Option StepRequest → Board → Bool
completes None b = false
completes (Some request) b = has_step (since b) && is_reached request b

-- a Step needs at least one step
abbrev pub complete : Board → Option SliceOutcome
complete b = if completes b.request b then Some (outcome.Stop stop.Step) else None
