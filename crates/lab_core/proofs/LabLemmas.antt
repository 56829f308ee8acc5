-- The board a lab represents after an event that changes some of its parts.
use Rattle.std.proofs.Common.{◌≡◌, ℕ, List, [], ◌∷◌, ◌++◌, true, false, Option, Some, None, Result, Ok}
use Rattle.std.proofs.Common.{length, map, refl, ap, sym, subst, ◌∙◌, rules}
use Rattle.std.specs.Option.{IsSome}
use Rattle.i80_exec.specs.declared.registers.Registers.{Registers}
use Rattle.lab_frames.specs.Live.{live}
use Rattle.lab_frames.specs.Frames.{AtLeast}
use Rattle.lab_core.specs.Stops.{since}
use Rattle.lab_core.proofs.EventLemmas.{loaded-regs}
use Rattle.i80_base.specs.declared.board.Board.{Board as BoardOption}
use Rattle.i80_exec.specs.State.{MachineState, with_board, with_pc, with_image_bytes as with_image}
use Rattle.i80_devs.specs.Past as devices
use Rattle.asm_build.specs.Reading.{Entries}
use Rattle.asm_build.specs.Meaning.{Meaning}
use Rattle.lab_image.specs.declared.spans.Span.{Span}
use Rattle.lab_image.specs.Loads as origins
use Rattle.lab_image.specs.Breakpoints.{BreakpointState}
use Rattle.lab_image.specs.Breakpoints as breakpoints
use Rattle.i80_base.specs.declared.ports.PortOperation.{PortOperation}
use Rattle.lab_image.specs.declared.sources.Source.{Source}
use Rattle.lab_image.specs.Sources.{place_of, kept_at, source_at}
use Rattle.lab_image.specs.Breakpoints.{with_lines}
use Rattle.lab_core.specs.declared.run_state.RunState.{RunState}
use Rattle.lab_core.specs.declared.run_state.RunState.TheVariants.{NoRun, Running, Stopped}
use Rattle.lab_core.specs.declared.answer.Answer.{Answer}
use Rattle.lab_core.specs.declared.answer.Answer.TheVariants.{Dumped, Breakpoints}
use Rattle.lab_shown.specs.declared.shown.Breakpoint.{Breakpoint}
use Rattle.lab_core.specs.declared.fault.EventFault.{EventFault}
use Rattle.lab_core.specs.Board.{Board}
use Rattle.lab_core.specs.Events.{Gives, GivesSlice, SlicesRun, while_attached, while_running, after_stop}
use Rattle.lab_core.specs.Events.{after_start, machine_reset, reset, with_option, with_built, with_cell}
use Rattle.lab_core.specs.Events.{dump_result}
use Rattle.lab_core.specs.Events.{breakpoint_at, with_breakpoints}
use Rattle.lab_core.specs.Labs.{LabState, RepresentsDuringSlice, RepresentsBoard}

pub gives_paused : (b new : Board) (a : Answer) → b.is_attached ≡ true → b.run ≡ Running
    → Gives b (while_attached b.is_attached (while_running b.run (Ok (a, new)))) (Ok a) new
gives_paused b new a attached running = rw (attached, running) (refl, refl)

pub stands_stopped : (old : LabState) (b : Board) → RepresentsBoard old b
    → RepresentsBoard (record old { run = Stopped; request = None }) (after_stop b)
stands_stopped old b s = search rules

-- with an empty trace
abbrev pub forgotten : LabState → LabState
forgotten lab =
    record lab { frames = []; is_halted = false; is_resumed = false; has_moved = false; request = None }

pub stands_started : (old : LabState) (b : Board) (machine : MachineState) (address : ℕ)
    → RepresentsBoard old b
    → machine ≡ with_pc old.machine address
    → RepresentsBoard (record (forgotten old) { machine = machine; run = Running }) (after_start address b)
stands_started old b machine address s machine-is =
    let moved = machine-is ∙ ap (λ (m : MachineState). with_pc m address) s.machine in
    search rules

pub stands_reset : (old : LabState) (b : Board) (machine : MachineState) (panel : devices.DeviceState)
    (spans : List Span) (points : BreakpointState)
    → RepresentsBoard old b → machine ≡ machine_reset old.machine → devices.RepresentsPast panel []
    → panel.operations ≡ []
    → origins.GivesOrigins spans []
    → points.lists ≡ old.breakpoints.lists → breakpoints.MarksBreakpoints points []
    → RepresentsBoard (record (forgotten old) {
      machine = machine;
      devices = panel;
      origins = spans;
      breakpoints = points;
      run = NoRun;
    }) (reset b)
stands_reset old b machine panel spans points s machine-is past none cleared lists met =
    let fresh = machine-is ∙ ap machine_reset s.machine in
    let listed = lists ∙ s.lists in
    search rules

pub stands_with_option : (old : LabState) (b : Board) (machine : MachineState) (option : BoardOption)
    → RepresentsBoard old b → machine ≡ with_board old.machine option
    → RepresentsBoard (record old { machine = machine }) (with_option option b)
stands_with_option old b machine option s machine-is =
    let set = machine-is ∙ ap (λ (m : MachineState). with_board m option) s.machine in
    let above : IsSome b.request → AtLeast (with_board b.machine option).regs.sp (live (since b)) = s.above in
    let stopped : b.run ≡ Stopped → b.request ≡ None = s.stopped in
    search rules

pub stands_built : (old : LabState) (b : Board) (number : ℕ) (m : Meaning) (machine : MachineState)
    (spans : List Span) (points : BreakpointState) (symbols : Entries)
    → RepresentsBoard old b → machine ≡ with_image old.machine m.output.image
    → origins.GivesOrigins spans (b.loads ++ record { source = number; rows = m.output.rows } ∷ [])
    → points.lists ≡ old.breakpoints.lists
    → breakpoints.MarksBreakpoints points (b.loads ++ record { source = number; rows = m.output.rows } ∷ [])
    → symbols ≡ m.symbols
    → RepresentsBoard (record old {
      machine = machine;
      origins = spans;
      breakpoints = points;
      symbols =
          symbols;
    })
    (with_built number m b)
stands_built old b number m machine spans points symbols s machine-is put lists met symbols-are =
    let changed = machine-is ∙ ap (λ (n : MachineState). with_image n m.output.image) s.machine in
    let listed = lists ∙ s.lists in
    let A : Registers → Type 0 = λ r. AtLeast r.sp (live (since b)) in
    let above : IsSome b.request → AtLeast (with_image b.machine m.output.image).regs.sp (live (since b)) =
    λ asked. subst A (sym (loaded-regs b.machine m.output.image)) (s.above asked) in
    let stopped : b.run ≡ Stopped → b.request ≡ None = s.stopped in
    search rules

-- ---- devices with more reserved space, or whose traffic was taken

pub stands_reserved : (old : LabState) (b : Board) (panel : devices.DeviceState) → RepresentsBoard old b
    → panel.panel ≡ old.devices.panel → panel.operations ≡ old.devices.operations
    → RepresentsBoard (record old { devices = panel }) b
stands_reserved old b panel s same operations =
    let panel-is = same ∙ s.devices in
    let traffic-is = operations ∙ s.traffic_is in
    search rules

pub stands_taken : (lab : LabState) (b : Board) (traffic : List PortOperation) (panel : devices.DeviceState)
    → RepresentsDuringSlice lab b traffic
    → panel ≡ record { panel = lab.devices.panel; operations = []; spare = 0 }
    → RepresentsBoard (record lab { devices = panel }) b
stands_taken lab b traffic panel s is =
    let panel-is = ap (λ (d : devices.DeviceState). d.panel) is ∙ s.devices in
    let none = ap (λ (d : devices.DeviceState). d.operations) is in
    search rules

pub slices_running : (run : RunState) (n : ℕ) (b new : Board) (reply : Result Answer EventFault)
    → run ≡ Running
    → GivesSlice n b reply new → SlicesRun run n b reply new
slices_running run n b new reply is g = rw is g

-- ---- a stored text and its breakpoints

pub gives_dumped : (s : Source) (b : Board) (place : Option ℕ) → place_of s b.sources ≡ Ok place
    → Gives b (dump_result s b) (Ok Dumped) (record b { sources = kept_at place s b.sources })
gives_dumped s b place is = rw is (refl, refl)

pub stands_dumped : (old : LabState) (b : Board) (sources all : List Source) → RepresentsBoard old b
    → sources ≡ all
    → RepresentsBoard (record old { sources = sources }) (record b { sources = all })
stands_dumped old b sources all s same = search rules

pub stands_kept : (lab : LabState) (b : Board) (s : Source) (place : Option ℕ) (n : ℕ) (m : Meaning)
    (sources : List Source)
    → place ≡ None → n ≡ length b.sources → RepresentsBoard lab (with_built n m b)
    → sources ≡ b.sources ++ s ∷ []
    → RepresentsBoard (record lab { sources = sources }) (with_cell s place m b)
stands_kept lab b s place n m sources none number represents same =
    rw (none, ← number) (stands_dumped lab (with_built n m b) sources (b.sources ++ s ∷ []) represents same)

pub gives_breakpoints : (b : Board) (path lines : List ℕ) (number : ℕ) (text : List ℕ)
    (answers : List Breakpoint)
    → source_at b.sources path ≡ Some (number, text) → answers ≡ map (breakpoint_at text) lines
    → Gives b (with_breakpoints path lines b) (Ok (Breakpoints answers))
    (record b { breakpoints = with_lines number lines b.breakpoints })
gives_breakpoints b path lines number text answers found are = rw (found, are) (refl, refl)

pub stands_listed : (old : LabState) (b : Board) (points : BreakpointState) (number : ℕ) (lines : List ℕ)
    → RepresentsBoard old b
    → points.lists ≡ with_lines number lines old.breakpoints.lists
    → breakpoints.MarksBreakpoints points b.loads
    → RepresentsBoard (record old { breakpoints = points })
    (record b { breakpoints = with_lines number lines b.breakpoints })
stands_listed old b points number lines s lists met =
    let listed : points.lists ≡ with_lines number lines b.breakpoints = rw (← s.lists) lists in
    search rules
