-- What events leave as it was: a board's run, and whether a debugger is attached.
use Rattle.std.proofs.Common.{◌≡◌, ◌∙◌, ℕ, zero, suc, List, [], ◌∷◌, Bool, true, false, Option, Some}
use Rattle.std.proofs.Common.{None, Result, Ok, Err, if◌then◌else◌, refl, sym, ap, subst}
use Rattle.base_text.specs.Bytes.{Bytes, Text}
use Rattle.asm_syntax.specs.Outcome.{◌>>=◌}
use Rattle.lab_views.specs.declared.view.View.{View}
use Rattle.lab_shown.specs.declared.shown.Shown.{Shown}
use Rattle.lab_views.specs.declared.fault.ViewFault.{ViewFault}
use Rattle.lab_views.specs.Views.{view_of}
use Rattle.lab_image.specs.Sources.{place_of, source_at}
use Rattle.lab_core.specs.declared.answer.Answer.TheVariants as answer
use Rattle.lab_core.specs.declared.event.Event.TheVariants as event
use Rattle.lab_core.specs.declared.fault.EventFault.{EventFault}
use Rattle.lab_core.specs.declared.fault.EventFault.TheVariants.{Vector, Latched}
use Rattle.lab_core.specs.declared.run_state.RunState.{RunState}
use Rattle.lab_core.specs.declared.run_state.RunState.TheVariants.{NoRun, Running, Stopped}
use Rattle.lab_core.specs.Board.{Board}
use Rattle.lab_core.specs.Events.{EventResult, result_of, without_run, with_run, while_running}
use Rattle.lab_core.specs.Events.{while_attached, with_source, with_breakpoints, or_source}
use Rattle.lab_core.specs.Events.{or_assembly, cell_meaning, as_answer, parts_of, after_start, after_stop}
use Rattle.lab_core.specs.Events.{after_end}
use Rattle.lab_core.specs.Changes.{after_write}
use Rattle.lab_core.specs.Slices.{after_steps}
use Rattle.dap_requests.specs.declared.request.Launch.{Launch}
use Rattle.dap_history.specs.declared.input.Input.{Input}
use Rattle.dap_history.specs.declared.input.Input.TheVariants as input
use Rattle.dap_history.specs.Runs.{board_of, after_input}
use Rattle.dap_launch.specs.declared.load.LoadFault.{LoadFault}
use Rattle.dap_run.specs.Boards.{board_after, after, begin_run}
use Rattle.dap_breakpoints.specs.Arming.{board_armed_at}
use Rattle.dap_launch.specs.Loading.{attached_where, board_to_load_on, start_of, with_start, loaded_by}
use Rattle.dap_launch.specs.Loading.{load_result}
use Rattle.dap_breakpoints.specs.Arming.{ProgramLists, placed_on}
use Rattle.dap_launch.specs.Programs.{with_input}
use Rattle.dap_run.specs.declared.program.Program.{Program}
use Rattle.dap_session.specs.Breakpoints.{armed_where}

-- the run is the same, and so is the attachment
pub record SameRun (b b' : Board) : Type 0 where
  pub run : b'.run ≡ b.run
  pub is_attached : b'.is_attached ≡ b.is_attached

pub same : (b : Board) → SameRun b b
same b = record { run = refl; is_attached = refl }

-- so it is after what an event gives
abbrev pub KeepsRun : Board → EventResult → Type 0
KeepsRun b (Ok (a, b')) = SameRun b b'
KeepsRun b (Err f) = Unit {0}

kept_after : (b : Board) (g : EventResult) → KeepsRun b g → SameRun b (board_after b g)
kept_after b (Ok (a, b')) kept = kept
kept_after b (Err f) kept = same b

-- ---- conditions

pub kept_without : (r : RunState) (b : Board) (g : EventResult) → KeepsRun b g → KeepsRun b (without_run r g)
kept_without NoRun b g kept = kept
kept_without Running b g kept = tt
kept_without Stopped b g kept = tt

kept_latch : (c d : Bool) (f h : EventFault) (b b' : Board) → SameRun b b'
    → KeepsRun b (if c then Err f else if d then Err h else Ok (answer.Accepted, b'))
kept_latch true d f h b b' kept = tt
kept_latch false true f h b b' kept = tt
kept_latch false false f h b b' kept = kept

kept_step : {A : Type 0} (r : Result A EventFault) (b : Board) (f : A → EventResult) → ((x : A)
    → KeepsRun b (f x))
    → KeepsRun b (r >>= f)
kept_step (Ok x) b f kept = kept x
kept_step (Err e) b f kept = tt

kept_source : (o : Option (ℕ × List ℕ)) (b : Board) (f : ℕ → List ℕ → EventResult)
    → ((n : ℕ) (text : List ℕ) → KeepsRun b (f n text)) → KeepsRun b (with_source o f)
kept_source None b f kept = tt
kept_source (Some (n, text)) b f kept = kept n text

-- ---- events

pub kept_load : (path text : Text) (b : Board) → KeepsRun b (result_of (event.Load path text) b)
kept_load path text b =
    kept_without b.run b _
    (kept_step (or_source (place_of (record { path = path; text = text }) b.sources)) b _
    (λ place. kept_step (or_assembly (cell_meaning b.symbols text)) b _
    (λ m. record { run = refl; is_attached = refl })))

pub kept_dump : (path text : Text) (b : Board) → KeepsRun b (result_of (event.Dump path text) b)
kept_dump path text b =
    kept_step (or_source (place_of (record { path = path; text = text }) b.sources)) b _
    (λ place. record { run = refl; is_attached = refl })

pub kept_press : (n : ℕ) (b : Board) → KeepsRun b (result_of (event.Press n) b)
kept_press n b = kept_latch _ _ Vector Latched b _ (record { run = refl; is_attached = refl })

kept_answer : (r : Result Shown ViewFault) (b : Board) → KeepsRun b (as_answer r b)
kept_answer (Ok s) b = same b
kept_answer (Err f) b = tt

pub kept_show : (view : View) (b : Board) → KeepsRun b (result_of (event.Show view) b)
kept_show view b = kept_answer (view_of view (parts_of b)) b

kept_lines : (path : Text) (lines : List ℕ) (b : Board) → KeepsRun b (with_breakpoints path lines b)
kept_lines path lines b =
    kept_source (source_at b.sources path) b _ (λ n text. record { run = refl; is_attached = refl })

-- ---- breakpoints

pub kept_armed : (path : Text) (lines : List ℕ) (b : Board)
    → SameRun b (board_armed_at path lines b)
kept_armed path lines b = kept_after b _ (kept_lines path _ b)

pub kept_where : (o : Option Program) (wanted : Program → ProgramLists) (b : Board)
    → SameRun b (armed_where o wanted b)
kept_where None wanted b = same b
kept_where (Some p) wanted b =
    kept_armed p.launch.program (placed_on b (wanted p)).on_board b

-- ---- bytes that are written

pub kept_written : (start : ℕ) (bytes : Bytes) (b : Board) → SameRun b (after_write start bytes b)
kept_written start bytes b = record { run = refl; is_attached = refl }

-- and that are typed
pub kept_typed : (input : Text) (b : Board) → SameRun b (with_input input b)
kept_typed [] b = same b
kept_typed (character ∷ input) b = record { run = refl; is_attached = refl }

kept_event : (b : Board) (g : EventResult) → KeepsRun b g → SameRun b (board_of b g)
kept_event b (Ok (a, b')) kept = kept
kept_event b (Err f) kept = same b

-- an input of the run
pub kept_input : (i : Input) (b : Board) → SameRun b (after_input i b)
kept_input (input.Typed bytes) b = record { run = refl; is_attached = refl }
kept_input (input.Switches byte) b = record { run = refl; is_attached = refl }
kept_input (input.Press n) b = kept_event b (result_of (event.Press n) b) (kept_press n b)
kept_input (input.Registers registers) b = record { run = refl; is_attached = refl }
kept_input (input.Write start bytes) b = record { run = refl; is_attached = refl }

-- ---- steps

pub kept_steps : (k : ℕ) (b : Board) → SameRun b (after_steps k b)
kept_steps zero b = same b
kept_steps (suc k) b = let kept = kept_steps k b in record { run = kept.run; is_attached = kept.is_attached }

-- ---- a run begins, or ends

begins : (r : RunState) (start : ℕ) (b : Board) → r ≡ NoRun
    → board_after b (without_run r (Ok (answer.Started, after_start start b))) ≡ after_start start b
begins NoRun start b is = refl
begins Running start b is = absurd cc
begins Stopped start b is = absurd cc

pauses : (a : Bool) (b : Board) → a ≡ true
    → (board_after b (while_attached a (while_running Running (Ok (answer.Accepted, after_stop b))))).run
    ≡ Stopped
pauses true b is = refl
pauses false b is = absurd cc

keeps_attached : (a : Bool) (b : Board)
    → (board_after b (while_attached a (while_running Running (Ok (
      answer.Accepted,
      after_stop
          b,
    ))))).is_attached
    ≡ b.is_attached
keeps_attached true b = refl
keeps_attached false b = refl

abbrev pub run_started : Bool → RunState
run_started true = Stopped
run_started false = Running

pub begun_run : (q : Bool) (start : ℕ) (b : Board) → b.run ≡ NoRun → (q ≡ true → b.is_attached ≡ true)
    → (begin_run start q b).run ≡ run_started q
begun_run true start b none attached =
    subst (λ x. (after event.Pause x).run ≡ Stopped) (sym (begins b.run start b none))
    (pauses b.is_attached (after_start start b) (attached refl))
begun_run false start b none attached = ap (λ (x : Board). x.run) (begins b.run start b none)

pub begun_attached : (q : Bool) (start : ℕ) (b : Board) → b.run ≡ NoRun
    → (begin_run start q b).is_attached ≡ b.is_attached
begun_attached true start b none =
    subst (λ x. (after event.Pause x).is_attached ≡ b.is_attached) (sym (begins b.run start b none))
    (keeps_attached b.is_attached (after_start start b))
begun_attached false start b none = ap (λ (x : Board). x.is_attached) (begins b.run start b none)

interrupted_from : (r : RunState) (b : Board) → b.run ≡ r
    → (board_after b (with_run r (Ok (answer.Interrupted, after_end b)))).run ≡ NoRun
interrupted_from NoRun b is = is
interrupted_from Running b is = refl
interrupted_from Stopped b is = refl

interrupted_attached : (r : RunState) (b : Board)
    → (board_after b (with_run r (Ok (answer.Interrupted, after_end b)))).is_attached ≡ b.is_attached
interrupted_attached NoRun b = refl
interrupted_attached Running b = refl
interrupted_attached Stopped b = refl

pub run_interrupted : (b : Board) → (after event.Interrupt b).run ≡ NoRun
run_interrupted b = interrupted_from b.run b refl

pub still_attached : (b : Board) → (after event.Interrupt b).is_attached ≡ b.is_attached
still_attached b = interrupted_attached b.run b

-- ---- a program is loaded

-- no run is on a board that was loaded, and a debugger is attached where the launch has one
abbrev pub IsLoaded : Launch → Result (Board × ℕ) LoadFault → Type 0
IsLoaded l (Ok (b, start)) = (b.run ≡ NoRun) × (b.is_attached ≡ l.is_debugged)
IsLoaded l (Err f) = Unit {0}

attached_run : (d : Bool) (b : Board) → (attached_where d b).run ≡ b.run
attached_run true b = refl
attached_run false b = refl

attached_so : (d : Bool) (b : Board) → b.is_attached ≡ false → (attached_where d b).is_attached ≡ d
attached_so true b none = refl
attached_so false b none = none

loaded_start : (o : Option ℕ) (l : Launch) (b : Board) → b.run ≡ NoRun → b.is_attached ≡ l.is_debugged
    → IsLoaded l (with_start o b)
loaded_start None l b none attached = tt
loaded_start (Some start) l b none attached = (none, attached)

loaded_so : (g : EventResult) (l : Launch) (b : Board) → KeepsRun b g → b.run ≡ NoRun
    → b.is_attached ≡ l.is_debugged
    → IsLoaded l (loaded_by g)
loaded_so (Ok (a, b')) l b kept none attached =
    loaded_start (start_of a) l b' (kept.run ∙ none) (kept.is_attached ∙ attached)
loaded_so (Err f) l b kept none attached = tt

pub is_loaded : (l : Launch) (text : Text) → IsLoaded l (load_result l text)
unfolding load_result
is_loaded l text =
    let b = board_to_load_on l in
    loaded_so (result_of (event.Load l.program text) b) l b (kept_load l.program text b)
    (attached_run l.is_debugged _) (attached_so l.is_debugged _ refl)
