-- What is told of stops and of ends where a program begins.
use Rattle.std.proofs.Common.{◌≡◌, ◌∙◌, ℕ, List, [], ◌∷◌, ◌++◌, Bool, true, false, not, Option, Some}
use Rattle.std.proofs.Common.{None, Result, unwrap_or}
use Rattle.std.proofs.Common.{Ok, Err, option_to_list, if◌then◌else◌, refl, sym, ap, subst, fold}
use Rattle.std.proofs.lemmas.Bool.{and_parts}
use Rattle.base_text.specs.Bytes.{Text}
use Rattle.asm_syntax.specs.declared.fault.AsmFault.TheVariants as asm
use Rattle.lab_core.specs.declared.fault.EventFault.{EventFault}
use Rattle.lab_core.specs.declared.fault.EventFault.TheVariants as refused
use Rattle.lab_core.specs.declared.run_state.RunState.TheVariants.{NoRun}
use Rattle.lab_core.specs.Board.{Board}
use Rattle.dap_messages.specs.declared.message.EditorEvent.{EditorEvent}
use Rattle.dap_messages.specs.declared.message.EditorEvent.TheVariants as unasked
use Rattle.dap_messages.specs.declared.message.EditorStop.TheVariants.{Entry}
use Rattle.dap_messages.specs.declared.message.PlacedBreakpoint.{PlacedBreakpoint}
use Rattle.dap_requests.specs.declared.request.Launch.{Launch as LaunchOf}
use Rattle.dap_launch.specs.declared.load.LoadFault.{LoadFault}
use Rattle.dap_launch.specs.declared.load.LoadFault.TheVariants as fault
use Rattle.dap_run.specs.declared.messages.FollowUp.{FollowUp}
use Rattle.dap_run.specs.declared.messages.FollowUp.TheVariants as follow
use Rattle.dap_launch.specs.declared.opening.LoadReason.{LoadReason}
use Rattle.dap_launch.specs.declared.opening.LoadReason.TheVariants.{Launch, Restart}
use Rattle.dap_run.specs.Boards.{begin_run}
use Rattle.dap_launch.specs.Failures.{load_event}
use Rattle.dap_launch.specs.Loading.{load_result}
use Rattle.dap_run.specs.Messages.{as_messages, events_of}
use Rattle.dap_launch.specs.Openings.{changed_events, first_events}
use Rattle.dap_launch.specs.declared.file.FileText.{FileText}
use Rattle.dap_run.specs.declared.program.Phase.{Phase}
use Rattle.dap_run.specs.declared.program.Phase.TheVariants as phase
use Rattle.dap_run.specs.declared.program.Program.{Program}
use Rattle.dap_session.specs.States.{SessionState, with_board, with_program}
use Rattle.dap_session.specs.Turns.{Turn}
use Rattle.dap_launch.specs.Files.{program_text}
use Rattle.dap_run.specs.Lives.{in_phase, is_over, is_live}
use Rattle.dap_launch.specs.Programs.{pauses, going_follow, begun_follow}
use Rattle.dap_run.specs.Programs.{program_of}
use Rattle.dap_breakpoints.specs.Reports.{all_changed}
use Rattle.dap_breakpoints.specs.Arming.{program_board, program_lists, placed_on}
use Rattle.dap_launch.specs.Programs.{with_input, begun_if, board_if}
use Rattle.dap_session.specs.Launches.{installing, beginning_in, beginning_where, started_follow}
use Rattle.dap_session.specs.Launches.{loading_as, by_text, loading, launching_over, restarting_of}
use Rattle.dap_session.specs.Requests.{set_configured}
use Rattle.dap_session.specs.Laws.{Shown, unstopped, shown_after, shown_for, ends_told, has_run}
use Rattle.dap_laws.proofs.BoardLemmas.{kept_armed, kept_typed, run_started, begun_run, begun_attached}
use Rattle.dap_laws.proofs.BoardLemmas.{IsLoaded, is_loaded}
use Rattle.dap_laws.proofs.RunLemmas.{Seen, seen, PhaseFits, ProgramFits, IsReached, both, idle, waiting}
use Rattle.dap_laws.proofs.RunLemmas.{Follows, Goes, none_ended, none_living, still, IsCalm, calm_follows}
use Rattle.dap_laws.proofs.RunLemmas.{calm_still}
use Rattle.dap_laws.proofs.TurnLemmas.{GoesBy}

-- ---- a program begins

-- a program that has begun, on a board
abbrev begun_seen : Program → Board → Bool → Seen
begun_seen p b is_configured = record {
  program = Some (in_phase phase.Begun p);
  run = b.run;
  is_attached = b.is_attached;
  is_configured = is_configured;
}

begun_has : (q : Bool) → has_run (run_started q) ≡ true
begun_has true = refl
begun_has false = refl

-- this tells of a run that goes on, and of no end
record GoesOn (d : Shown) (f : FollowUp) : Type 0 where
  pub stops : fold shown_after d (as_messages (events_of f)) ≡ unstopped
  pub ends : ends_told (as_messages (events_of f)) ≡ 0

begun_shown : (q : Bool) (f : FollowUp) (d : Shown) → GoesOn d f
    → fold shown_after d (as_messages (events_of (if q then follow.Stopped Entry else f)))
    ≡ shown_for (run_started q)
begun_shown true f d goes = refl
begun_shown false f d goes = goes.stops

begun_ends : (q : Bool) (f : FollowUp) (d : Shown) → GoesOn d f
    → ends_told (as_messages (events_of (if q then follow.Stopped Entry else f))) ≡ 0
begun_ends true f d goes = refl
begun_ends false f d goes = goes.ends

begins : (q : Bool) (f : FollowUp) (p : Program) (b : Board) (c : Bool) (v : Seen) → b.run ≡ NoRun
    → b.is_attached ≡ p.launch.is_debugged → (q ≡ true → p.launch.is_debugged ≡ true) → c ≡ true
    → GoesOn (shown_for v.run) f
    → Follows v (as_messages (events_of (if q then follow.Stopped Entry else f)))
    (begun_seen p (begin_run p.start q b) c)
begins q f p b c v none attached debugs done goes =
    let run : (begin_run p.start q b).run ≡ run_started q =
    begun_run q p.start b none (λ is. attached ∙ debugs is) in
    record {
      reached = (begun_attached q p.start b none ∙ attached, (ap has_run run ∙ begun_has q, done));
      stops = begun_shown q f (shown_for v.run) goes ∙ sym (ap shown_for run);
      ends = begun_ends q f (shown_for v.run) goes ∙ none_living (is_live v.program) true refl;
    }

debugged : (l : LaunchOf) → pauses l ≡ true → l.is_debugged ≡ true
debugged l is = (and_parts l.stops_on_entry l.is_debugged is).1

-- the configuration is done, which begins nothing
only_configured : (s : SessionState) → IsReached (seen (set_configured s)) → Goes s [] (set_configured s)
only_configured s reached = record {
  follows = record { reached = reached; stops = refl; ends = none_ended (is_live s.settings.program) };
  quiet = λ dead. refl;
}

configured_fits : (o : Option Program) (s : SessionState) → s.settings.program ≡ o
    → ProgramFits o s.board.run s.board.is_attached true → IsReached (seen (set_configured s))
configured_fits o s on fits =
    subst (λ x. ProgramFits x s.board.run s.board.is_attached true) (sym on) fits

phase_fits : (h : Phase) (p : Program) (s : SessionState) → p.phase ≡ h → s.settings.program ≡ Some p
    → s.board.is_attached ≡ p.launch.is_debugged → PhaseFits h s.board.run true
    → IsReached (seen (set_configured s))
phase_fits h p s is on attached fits =
    configured_fits (Some p) s on (attached, subst (λ x. PhaseFits x s.board.run true) (sym is) fits)

goes_in : (h : Phase) (p : Program) (s : SessionState) → p.phase ≡ h → s.settings.program ≡ Some p
    → s.board.is_attached ≡ p.launch.is_debugged → PhaseFits h s.board.run s.settings.is_configured
    → GoesBy s (beginning_in h p (set_configured s))
goes_in phase.Loaded p s is on attached none =
    let live : is_live s.settings.program ≡ true = ap is_live on ∙ ap (λ x. not (is_over x)) is in
    record {
      follows =
          (let kept = kept_typed p.launch.input s.board in
          begins (pauses p.launch) follow.Nothing p (with_input p.launch.input s.board) true (seen s)
          (kept.run ∙ none) (kept.is_attached ∙ attached) (debugged p.launch) refl
          (record { stops = ap shown_for none; ends = refl }));
      quiet = λ dead. both (is_live s.settings.program) live dead;
    }
goes_in phase.Begun p s is on attached fits =
    only_configured s (phase_fits phase.Begun p s is on attached (fits.0, refl))
goes_in (phase.Held how) p s is on attached fits =
    only_configured s (phase_fits (phase.Held how) p s is on attached (fits.0, refl))
goes_in phase.Over p s is on attached none = only_configured s (phase_fits phase.Over p s is on attached none)

pub goes_where : (o : Option Program) (s : SessionState) → s.settings.program ≡ o
    → ProgramFits o s.board.run s.board.is_attached s.settings.is_configured
    → GoesBy s (beginning_where o (set_configured s))
goes_where None s on none = only_configured s (configured_fits None s on none)
goes_where (Some p) s on fits = goes_in p.phase p s refl on fits.0 fits.1

-- ---- a program is loaded

pub calm_none : IsCalm []
calm_none = record { stops = λ d. refl; ends = refl }

calm_point : (p : PlacedBreakpoint) (es : List EditorEvent) → IsCalm es → IsCalm (unasked.Breakpoint p ∷ es)
calm_point p es calm = record { stops = λ d. calm.stops d; ends = calm.ends }

calm_changed : (points : List PlacedBreakpoint) → IsCalm (changed_events points)
calm_changed [] = calm_none
calm_changed (p ∷ points) = calm_point p (changed_events points) (calm_changed points)

calm_first : (o : LoadReason) → IsCalm (first_events o)
calm_first Launch = record { stops = λ d. refl; ends = refl }
calm_first Restart = calm_none

calm_refused : (path text : Text) (f : EventFault)
    → IsCalm (option_to_list (load_event path text (fault.Refused f)))
calm_refused path text (refused.Assembly (asm.At line column kind)) =
    record { stops = λ d. refl; ends = refl }
calm_refused path text (refused.Assembly asm.OutOfMemory) = calm_none
calm_refused path text _ = calm_none

calm_load : (path text : Text) (f : LoadFault) → IsCalm (option_to_list (load_event path text f))
calm_load path text fault.OutOfMemory = calm_none
calm_load path text fault.NoStart = calm_none
calm_load path text (fault.Refused f) = calm_refused path text f

-- it takes the place of what was there
abbrev put : Program → Board → SessionState → SessionState
put p b s = with_board b (with_program (Some p) s)

-- and begins where the configuration is done
follows_started : (c : Bool) (o : LoadReason) (l : LaunchOf) (start : ℕ) (s : SessionState)
    (b : Board)
    → s.settings.is_configured ≡ c → IsReached (seen s) → b.run ≡ NoRun → b.is_attached ≡ l.is_debugged
    → GoesOn (shown_for s.board.run) (going_follow o)
    → Follows (seen s) (as_messages (events_of (if c then begun_follow o l else follow.Nothing)))
    (seen (put (begun_if c (program_of l start)) (board_if c (program_of l start) b) s))
follows_started true o l start s b done reached none attached goes =
    let kept = kept_typed l.input b in
    begins (pauses l) (going_follow o) (program_of l start) (with_input l.input b)
    s.settings.is_configured (seen s) (kept.run ∙ none) (kept.is_attached ∙ attached) (debugged l) done goes
follows_started false o l start s b done reached none attached goes = record {
  reached = (attached, none);
  stops = ap shown_for (waiting (seen s) reached done) ∙ sym (ap shown_for none);
  ends = none_living (is_live s.settings.program) true refl;
}

abbrev pub FollowsTurn : SessionState → Turn → Type 0
FollowsTurn s t = Follows (seen s) (as_messages t.events) (seen t.state)

follows_installing : (o : LoadReason) (l : LaunchOf) (start : ℕ) (b : Board) (s : SessionState)
    → IsReached (seen s) → b.run ≡ NoRun → b.is_attached ≡ l.is_debugged
    → GoesOn (shown_for s.board.run) (going_follow o)
    → FollowsTurn s (installing o (program_of l start) b s)
follows_installing o l start b s reached none attached goes =
    let p = program_of l start in
    let kept = s.settings.points in
    let points = all_changed s.settings.program s.board p kept b in
    let last = events_of (started_follow o p s) in
    let board = program_board p kept b in
    let run = kept_armed l.program (placed_on b (program_lists p kept)).on_board b in
    calm_follows (first_events o) (changed_events points ++ last) _ _ (calm_first o)
    (calm_follows (changed_events points) last _ _ (calm_changed points)
    (follows_started s.settings.is_configured o l start s board refl reached (run.run ∙ none)
    (run.is_attached ∙ attached) goes))

follows_loaded : (r : Result (Board × ℕ) LoadFault) (o : LoadReason) (l : LaunchOf) (text : Text)
    (s : SessionState) → IsReached (seen s) → IsLoaded l r → GoesOn (shown_for s.board.run) (going_follow o)
    → FollowsTurn s (loading_as r o l text s)
follows_loaded (Ok (b, start)) o l text s reached is goes =
    follows_installing o l start b s reached is.0 is.1 goes
follows_loaded (Err f) o l text s reached is goes =
    calm_still (option_to_list (load_event l.program text f)) (seen s) reached (calm_load l.program text f)

follows_text : (t : Result Text Text) (o : LoadReason) (l : LaunchOf) (s : SessionState) → IsReached (seen s)
    → GoesOn (shown_for s.board.run) (going_follow o)
    → FollowsTurn s (by_text t o l s)
follows_text (Ok text) o l s reached goes =
    follows_loaded (load_result l text) o l text s reached (is_loaded l text) goes
follows_text (Err message) o l s reached goes = (still s s reached refl).follows

pub follows_launch : (o : Option Program) (l : LaunchOf) (found : Option FileText) (s : SessionState)
    → s.settings.program ≡ o → IsReached (seen s) → FollowsTurn s (launching_over o l found s)
follows_launch None l found s on reached =
    follows_text (program_text l found) Launch l s reached
    (record { stops = ap shown_for (idle (seen s) reached (ap is_live on)); ends = refl })
follows_launch (Some p) l found s on reached = (still s s reached refl).follows

pub follows_restart : (o : Option Program) (l : Option LaunchOf) (found : Option FileText) (s : SessionState)
    → IsReached (seen s) → FollowsTurn s (restarting_of o l found s)
follows_restart None l found s reached = (still s s reached refl).follows
follows_restart (Some p) l found s reached =
    let launch = unwrap_or l p.launch in
    follows_text (program_text launch found) Restart launch s reached (record { stops = refl; ends = refl })
