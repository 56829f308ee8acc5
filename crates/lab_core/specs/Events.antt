-- The answer to each event, and the board after it.
use Rattle.std.specs.Prelude.{◌≡◌, ℕ, ◌≤◌, List, [], ◌∷◌, ◌++◌, length, map, Bool, true, false, ◌&&◌, Option}
use Rattle.std.specs.Prelude.{Some, None, Result, Ok, Err, is_some, nat_lt, nat_le, if◌then◌else◌}
use Rattle.i80_base.specs.declared.board.Board.{Board as BoardOption}
use Rattle.i80_exec.specs.State.{MachineState, with_board, with_pc, power_on, with_image_bytes as with_image}
use Rattle.i80_devs.specs.Past.{Operation, Typed, Switches, Press, panel_after}
use Rattle.asm_syntax.specs.declared.fault.AsmFault.TheVariants.{At}
use Rattle.asm_syntax.specs.Outcome.{CellFault, ◌>>=◌}
use Rattle.asm_text.specs.Statements.{statements_of}
use Rattle.asm_build.specs.Reading.{Entries}
use Rattle.asm_build.specs.Meaning.{Meaning, built_of}
use Rattle.lab_frames.specs.Live.{live, Poke}
use Rattle.lab_views.specs.declared.poke_fault.PokeFault.{PokeFault}
use Rattle.lab_views.specs.Places.{place_named}
use Rattle.lab_views.specs.Values.{value_spelled, text_at}
use Rattle.lab_views.specs.Changes.{machine_with}
use Rattle.lab_core.specs.declared.run_state.RunState.{RunState}
use Rattle.lab_core.specs.declared.run_state.RunState.TheVariants.{NoRun, Running, Stopped}
use Rattle.lab_image.specs.declared.sources.Source.{Source}
use Rattle.lab_image.specs.declared.sources.SourceFault.{SourceFault}
use Rattle.lab_image.specs.Sources.{place_of, number_at, kept_at, source_at, line_count}
use Rattle.lab_image.specs.Breakpoints.{with_lines}
use Rattle.lab_shown.specs.declared.shown.Shown.{Shown}
use Rattle.lab_views.specs.declared.fault.ViewFault.{ViewFault}
use Rattle.lab_views.specs.Parts.{Parts}
use Rattle.lab_views.specs.Views.{view_of}
use Rattle.lab_core.specs.declared.event.Event.{Event}
use Rattle.lab_core.specs.declared.event.Event.TheVariants as event
use Rattle.lab_core.specs.declared.fault.EventFault.{EventFault}
use Rattle.lab_core.specs.declared.fault.EventFault.TheVariants.{NotRunning, NotStopped, NotAttached}
use Rattle.lab_core.specs.declared.fault.EventFault.TheVariants.{NoSource, Busy, Latched, Vector, Assembly}
use Rattle.lab_core.specs.declared.event.StepRequest.{StepRequest}
use Rattle.lab_shown.specs.declared.shown.Breakpoint.{Breakpoint}
use Rattle.lab_core.specs.declared.answer.SliceOutcome.{SliceOutcome}
use Rattle.lab_core.specs.declared.answer.Answer.{Answer}
use Rattle.lab_core.specs.declared.answer.Answer.TheVariants as answer
use Rattle.lab_core.specs.Board.{Board}
use Rattle.lab_core.specs.Refusals.{refused_source, refused_view, refused_poke}
use Rattle.lab_core.specs.Cells.{TextGives}
use Rattle.lab_core.specs.Slices.{IsSlice, after_steps, traffic_of, left_by}
use Rattle.lab_core.specs.SliceEnds.{slice_from, sliced_at}

-- the answer to an event and the board after it, or the error
abbrev pub EventResult : Type 0
EventResult = Result (Answer × Board) EventFault

-- ---- states of the run

abbrev pub without_run : RunState → EventResult → EventResult
without_run NoRun given = given
without_run Running given = Err Busy
without_run Stopped given = Err Busy

abbrev pub with_run : RunState → EventResult → EventResult
with_run NoRun given = Err NotRunning
with_run Running given = given
with_run Stopped given = given

abbrev pub while_running : RunState → EventResult → EventResult
while_running NoRun given = Err NotRunning
while_running Running given = given
while_running Stopped given = Err NotRunning

abbrev pub while_stopped : RunState → EventResult → EventResult
while_stopped NoRun given = Err NotStopped
while_stopped Running given = Err NotStopped
while_stopped Stopped given = given

abbrev pub while_attached : Bool → EventResult → EventResult
while_attached true given = given
while_attached false given = Err NotAttached

-- ---- the events

abbrev pub or_assembly : {A : Type 0} → Result A CellFault → Result A EventFault
or_assembly (Ok x) = Ok x
or_assembly (Err (line, column, kind)) = Err (Assembly (At line column kind))

-- the board with an assembled cell loaded as the source of this number
abbrev pub with_built : ℕ → Meaning → Board → Board
with_built number m b = record b {
  machine = with_image b.machine m.output.image;
  loads = b.loads ++ record { source = number; rows = m.output.rows } ∷ [];
  symbols = m.symbols;
}

-- and with its text stored: in its place, or at the end if it has none
abbrev pub with_cell : Source → Option ℕ → Meaning → Board → Board
with_cell s place m b =
    let loaded = with_built (number_at place b.sources) m b in
    record loaded { sources = kept_at place s b.sources }

-- what a text assembles to with the symbols of earlier cells
abbrev pub cell_meaning : Entries → List ℕ → Result Meaning CellFault
cell_meaning kept text = do
  statements ← statements_of text
  built_of kept statements

abbrev pub or_source : {A : Type 0} → Result A SourceFault → Result A EventFault
or_source (Ok x) = Ok x
or_source (Err fault) = Err (refused_source fault)

-- the load of a cell that assembles to this, or has this fault
abbrev pub loaded_as : Result Meaning CellFault → Source → Board → EventResult
loaded_as cell s b = do
  place ← or_source (place_of s b.sources)
  meaning ← or_assembly cell
  Ok (answer.Loaded meaning.output.start, with_cell s place meaning b)

-- a text stored under its path and not assembled
abbrev pub dump_result : Source → Board → EventResult
dump_result s b = do
  place ← or_source (place_of s b.sources)
  Ok (answer.Dumped, record b { sources = kept_at place s b.sources })

-- a run from this address, with no live frame
abbrev pub after_start : ℕ → Board → Board
after_start address b = record b {
  machine = with_pc b.machine address;
  run = Running;
  trace = [];
  resumed = None;
  request = None;
}

abbrev pub after_stop : Board → Board
after_stop b = record b { run = Stopped; request = None }

-- after a Resume, or with a request after a Step
abbrev pub going_on : Option StepRequest → Board → Board
going_on request b = record b { run = Running; resumed = Some (length b.trace); request = request }

abbrev pub or_poke : {A : Type 0} → Result A PokeFault → Result A EventFault
or_poke (Ok x) = Ok x
or_poke (Err fault) = Err (refused_poke fault)

-- A change of the machine by hand is an entry of the trace, but not a step.
abbrev pub changed_to : MachineState → Board → Board
changed_to machine b = record b { machine = machine; trace = b.trace ++ Poke b.machine machine ∷ [] }

-- The named place of a scope gets the value spelled by the text. The answer is the value as the scope
-- shows it.
abbrev pub poke_result : ℕ → List ℕ → List ℕ → Board → EventResult
poke_result reference name value b = do
  place ← or_poke (place_named reference name)
  n ← or_poke (value_spelled place value)
  Ok (answer.Poked (text_at place n), changed_to (machine_with place n b.machine) b)

abbrev pub after_end : Board → Board
after_end b = record b { run = NoRun; request = None }

-- a reset machine keeps its treatment of undefined opcodes
abbrev pub machine_reset : MachineState → MachineState
machine_reset m = with_board power_on m.board

-- symbols, texts, breakpoints and the attached debugger are kept
abbrev pub reset : Board → Board
reset b = record b {
  machine = machine_reset b.machine;
  past = [];
  loads = [];
  run = NoRun;
  trace = [];
  resumed = None;
  request = None;
}

-- the board with this treatment of undefined opcodes
abbrev pub with_option : BoardOption → Board → Board
with_option option b = record b { machine = with_board b.machine option }

-- ---- events of a debugger

-- a breakpoint is verified if the text has its line
abbrev pub is_line : List ℕ → ℕ → Bool
is_line text line = nat_le 1 line && nat_le line (line_count text)

abbrev pub breakpoint_at : List ℕ → ℕ → Breakpoint
breakpoint_at text line = record { line = line; is_verified = is_line text line }

abbrev pub with_source : Option (ℕ × List ℕ) → (ℕ → List ℕ → EventResult) → EventResult
with_source None given = Err NoSource
with_source (Some (number, text)) given = given number text

abbrev pub with_breakpoints : List ℕ → List ℕ → Board → EventResult
with_breakpoints path lines b =
    with_source (source_at b.sources path) (λ number text.
    Ok (
      answer.Breakpoints (map (breakpoint_at text) lines),
      record b { breakpoints = with_lines number lines b.breakpoints },
    ))

abbrev pub after_attach : Board → Board
after_attach b = record b { is_attached = true }

-- a stopped run continues
abbrev pub resumed_run : RunState → RunState
resumed_run NoRun = NoRun
resumed_run Running = Running
resumed_run Stopped = Running

-- A Detach doesn't count as a Resume.
abbrev pub after_detach : Board → Board
after_detach b = record b { is_attached = false; breakpoints = []; request = None; run = resumed_run b.run }

abbrev pub is_stopped : RunState → Bool
is_stopped NoRun = false
is_stopped Running = false
is_stopped Stopped = true

-- the parts of the board that views show
abbrev pub parts_of : Board → Parts
parts_of b = record {
  machine = b.machine;
  past = b.past;
  loads = b.loads;
  frames = live b.trace;
  symbols = b.symbols;
  sources = b.sources;
  breakpoints = b.breakpoints;
  is_attached = b.is_attached;
  is_stopped = is_stopped b.run;
}

abbrev pub as_answer : Result Shown ViewFault → Board → EventResult
as_answer (Ok s) b = Ok (answer.Shown s, b)
as_answer (Err fault) b = Err (refused_view fault)

abbrev pub with_operation : Operation → Board → Board
with_operation o b = record b { past = b.past ++ o ∷ [] }

-- the buttons are 0 to 7, and at most one request is latched
abbrev pub press_result : ℕ → Board → EventResult
press_result n b =
    if nat_lt 7 n then Err Vector else
    if is_some (panel_after b.past).latched then Err Latched else
    Ok (answer.Accepted, with_operation (Press n) b)

-- ---- the answer to each event, and the board after it

abbrev pub result_of : Event → Board → EventResult
result_of (event.Load path text) b =
    without_run b.run (loaded_as (cell_meaning b.symbols text) (record { path = path; text = text }) b)
result_of (event.Dump path text) b = dump_result (record { path = path; text = text }) b
result_of (event.Start address) b = without_run b.run (Ok (answer.Started, after_start address b))
result_of (event.Slice n) b = while_running b.run (Ok (sliced_at b (slice_from n 0 b)))
result_of event.Pause b =
    while_attached b.is_attached (while_running b.run (Ok (answer.Accepted, after_stop b)))
result_of event.Resume b = while_stopped b.run (Ok (answer.Accepted, going_on None b))
result_of (event.Step request) b = while_stopped b.run (Ok (answer.Accepted, going_on (Some request) b))
result_of (event.Poke reference name value) b = while_stopped b.run (poke_result reference name value b)
result_of event.Interrupt b = with_run b.run (Ok (answer.Interrupted, after_end b))
result_of event.Reset b = Ok (answer.Reset, reset b)
result_of (event.SetBoard option) b = without_run b.run (Ok (answer.BoardSet, with_option option b))
result_of (event.SetBreakpoints path lines) b = with_breakpoints path lines b
result_of event.Attach b = Ok (answer.Accepted, after_attach b)
result_of event.Detach b = Ok (answer.Accepted, after_detach b)
result_of (event.Typed bytes) b = Ok (answer.Accepted, with_operation (Typed bytes) b)
result_of (event.Switches byte) b = Ok (answer.Accepted, with_operation (Switches byte) b)
result_of (event.Press n) b = press_result n b
result_of (event.Show view) b = as_answer (view_of view (parts_of b)) b

-- ---- events as a relation

-- a refused event leaves the board unchanged
abbrev pub Gives : Board → EventResult → Result Answer EventFault → Board → Type 0
Gives b (Ok (a, b')) reply new = (reply ≡ Ok a) × (new ≡ b')
Gives b (Err r) reply new = (reply ≡ Err r) × (new ≡ b)

-- a slice of at most n steps that made k
pub record GivesSlice (n : ℕ) (b : Board) (reply : Result Answer EventFault) (new : Board) : Type 0 where
  pub k : ℕ
  pub ending : SliceOutcome
  pub slice : IsSlice n b k ending
  pub reply_is : reply ≡ Ok (answer.Sliced k (traffic_of k b) ending)
  pub board_is : new ≡ left_by ending (after_steps k b)

abbrev pub SlicesRun : RunState → ℕ → Board → Result Answer EventFault → Board → Type 0
SlicesRun NoRun n b reply new = Gives b (Err NotRunning) reply new
SlicesRun Running n b reply new = GivesSlice n b reply new
SlicesRun Stopped n b reply new = Gives b (Err NotRunning) reply new

-- a load, by what the text gives according to its statements and their readings
abbrev pub Loads : Source → Board → Result Answer EventFault → Board → Type 0
Loads s b reply new =
    (cell : Result Meaning CellFault) × TextGives b.symbols s.text cell
    × Gives b (without_run b.run (loaded_as cell s b)) reply new

-- On this board the event has this reply and leaves that board: a Load and a Slice by conditions, all
-- others by the function `result_of`.
abbrev pub Applies : Board → Event → Result Answer EventFault → Board → Type 0
Applies b (event.Load path text) reply new = Loads (record { path = path; text = text }) b reply new
Applies b (event.Slice n) reply new = SlicesRun b.run n b reply new
Applies b event reply new = Gives b (result_of event b) reply new

-- the events, in order, have these replies
abbrev pub Runs : Board → List Event → List (Result Answer EventFault) → Board → Type 0
Runs b [] [] new = new ≡ b
Runs b (event ∷ events) (reply ∷ replies) new =
    (mid : Board) × Applies b event reply mid × Runs mid events replies new
Runs b [] (reply ∷ replies) new = ⊥
Runs b (event ∷ events) [] new = ⊥

-- a slice has from 1 to 4,096 steps, and a text at most 256 breakpoints
abbrev pub Fits : Event → Type 0
Fits (event.Slice n) = (1 ≤ n) × (n ≤ 4096)
Fits (event.SetBreakpoints path lines) = length lines ≤ 256
Fits _ = Unit {0}
