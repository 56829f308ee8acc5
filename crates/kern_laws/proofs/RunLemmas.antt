-- Which events keep a board's run.
use Rattle.std.proofs.Common.{◌≡◌, ℕ, zero, suc, List, Bool, true, false, Option, Some, None}
use Rattle.std.proofs.Common.{Result, Ok, Err, if◌then◌else◌, refl, sym, ap, rules, nat_lt, is_some}
use Rattle.asm_syntax.specs.Outcome.{◌>>=◌}
use Rattle.lab_core.specs.declared.answer.Answer.TheVariants as answer
use Rattle.lab_core.specs.declared.event.Event.TheVariants as event
use Rattle.lab_core.specs.declared.event.StepRequest.{StepRequest}
use Rattle.lab_core.specs.declared.fault.EventFault.{EventFault}
use Rattle.lab_core.specs.declared.fault.EventFault.TheVariants.{Vector, Latched}
use Rattle.lab_core.specs.declared.run_state.RunState.{RunState}
use Rattle.lab_core.specs.declared.run_state.RunState.TheVariants.{NoRun, Running, Stopped}
use Rattle.lab_core.specs.Board.{Board}
use Rattle.lab_core.specs.Events.{EventResult, result_of, without_run, while_stopped, while_running}
use Rattle.lab_core.specs.Events.{while_attached, with_source, as_answer, after_stop, going_on, resumed_run}
use Rattle.lab_core.specs.Events.{poke_result, with_operation, with_option}
use Rattle.lab_core.specs.Slices.{after_steps}
use Rattle.i80_devs.specs.Past.{Press, panel_after}
use Rattle.dap_answers.specs.Murmur.{cell_path}
use Rattle.dap_board.specs.Commands.{step_request, board_with}
use Rattle.dap_talk.specs.declared.command.DapCommand.{DapCommand}
use Rattle.dap_talk.specs.declared.command.DapCommand.TheVariants as command
use Rattle.kern_exec.specs.Boards.{board_after, is_run}
use Rattle.kern_core.specs.Requests.{is_reset}
use Rattle.kern_laws.specs.Events.{command_events}
use Rattle.kern_laws.proofs.BoardLemmas.{after_events}

-- after an event there is a run if there was one before
abbrev pub KeepsRun : Board → EventResult → Type 0
KeepsRun b (Ok (a, b')) = is_run b'.run ≡ is_run b.run
KeepsRun b (Err f) = Unit {0}

pub kept_after : (b : Board) (g : EventResult) → KeepsRun b g → is_run (board_after b g).run ≡ is_run b.run
kept_after b (Ok (a, b')) kept = kept
kept_after b (Err f) kept = refl

kept_without : (r : RunState) (b : Board) (g : EventResult) → KeepsRun b g → KeepsRun b (without_run r g)
kept_without NoRun b g kept = kept
kept_without Running b g kept = tt
kept_without Stopped b g kept = tt

kept_stopped : (r : RunState) (b : Board) (g : EventResult) → (r ≡ Stopped → KeepsRun b g)
    → KeepsRun b (while_stopped r g)
kept_stopped NoRun b g kept = tt
kept_stopped Running b g kept = tt
kept_stopped Stopped b g kept = kept refl

kept_attached : (a : Bool) (r : RunState) (b : Board) (g : EventResult) → (r ≡ Running → KeepsRun b g)
    → KeepsRun b (while_attached a (while_running r g))
kept_attached false r b g kept = tt
kept_attached true NoRun b g kept = tt
kept_attached true Running b g kept = kept refl
kept_attached true Stopped b g kept = tt

kept_latch : (c d : Bool) (f h : EventFault) (b b' : Board) → is_run b'.run ≡ is_run b.run
    → KeepsRun b (if c then Err f else if d then Err h else Ok (answer.Accepted, b'))
kept_latch true d f h b b' kept = tt
kept_latch false true f h b b' kept = tt
kept_latch false false f h b b' kept = kept

kept_step : {A : Type 0} (r : Result A EventFault) (b : Board) (f : A → EventResult)
    → ((x : A) → KeepsRun b (f x)) → KeepsRun b (r >>= f)
kept_step (Ok x) b f kept = kept x
kept_step (Err e) b f kept = tt

kept_source : (o : Option (ℕ × List ℕ)) (b : Board) (f : ℕ → List ℕ → EventResult)
    → ((n : ℕ) (text : List ℕ) → KeepsRun b (f n text)) → KeepsRun b (with_source o f)
kept_source None b f kept = tt
kept_source (Some (n, text)) b f kept = kept n text

-- a look leaves it
pub kept_look : (shown : _) (b : Board) → is_run (board_after b (as_answer shown b)).run ≡ is_run b.run
kept_look (Ok x) b = refl
kept_look (Err f) b = refl

still_run : (r : RunState) → is_run (resumed_run r) ≡ is_run r
still_run NoRun = refl
still_run Running = refl
still_run Stopped = refl

kept_going : (request : Option StepRequest) (b : Board)
    → KeepsRun b (while_stopped b.run (Ok (answer.Accepted, going_on request b)))
kept_going request b = kept_stopped b.run b _ (λ is. sym (ap is_run is))

-- a load keeps the board's run
pub kept_load : (path text : List ℕ) (b : Board) → KeepsRun b (result_of (event.Load path text) b)
kept_load path text b =
    search (rules, kept_without, kept_step)

abbrev KeepsRunBy : Board → DapCommand → Type 0
KeepsRunBy b c = is_run (after_events (command_events c) b).run ≡ is_run b.run

-- so does every command but a reset of the board
pub kept_command : (c : DapCommand) (b : Board) → is_reset c ≡ false → KeepsRunBy b c
kept_command command.Attach b other = refl
kept_command command.Disconnect b other = still_run b.run
kept_command (command.SetBreakpoints path lines) b other =
    kept_after b (result_of (event.SetBreakpoints path lines) b) (search (rules, kept_source))
kept_command command.Continue b other = kept_after b (result_of event.Resume b) (kept_going None b)
kept_command (command.Step kind granularity) b other =
    let request = step_request kind granularity in
    kept_after b (result_of (event.Step request) b) (kept_going (Some request) b)
kept_command command.Pause b other =
    kept_after b (result_of event.Pause b)
    (kept_attached b.is_attached b.run b (Ok (answer.Accepted, after_stop b)) (λ is. sym (ap is_run is)))
kept_command (command.DumpCell code) b other =
    kept_after b (result_of (event.Dump (cell_path code) code) b) (search (rules, kept_step))
kept_command (command.SetVariable reference name value) b other =
    kept_after b (result_of (event.Poke reference name value) b)
    (kept_stopped b.run b (poke_result reference name value b) (λ is. search (rules, kept_step)))
kept_command (command.BoardSwitches value) b other = refl
kept_command (command.BoardPress vector) b other =
    kept_after b (result_of (event.Press vector) b)
    (kept_latch (nat_lt 7 vector) (is_some (panel_after b.past).latched) Vector Latched b
    (with_operation (Press vector) b) refl)
kept_command (command.BoardType text) b other = refl
kept_command command.BoardReset b other = absurd cc
kept_command (command.BoardAliases aliases) b other =
    kept_after b (result_of (event.SetBoard (board_with aliases)) b)
    (kept_without b.run b (Ok (answer.BoardSet, with_option (board_with aliases) b)) refl)
kept_command _ b other = refl

-- steps keep the run
pub kept_steps : (k : ℕ) (b : Board) → (after_steps k b).run ≡ b.run
kept_steps zero b = refl
kept_steps (suc k) b = kept_steps k b
