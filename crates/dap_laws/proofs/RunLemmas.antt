-- Which states a session comes to, and what an editor is told on the way.
use Rattle.std.proofs.Common.{◌≡◌, ℕ, zero, suc, ◌∙◌, ◌+◌, List, [], ◌++◌, Bool, true, false, not, ◌&&◌}
use Rattle.std.proofs.Common.{Option, Some, None, option_map, if◌then◌else◌, refl, sym, ap, subst, true≢false}
use Rattle.std.proofs.Common.{fold, zero-add}
use Rattle.std.proofs.lemmas.List.Sums.{fold-append, sum_by-append}
use Rattle.lab_core.specs.declared.run_state.RunState.{RunState}
use Rattle.lab_core.specs.declared.run_state.RunState.TheVariants.{NoRun}
use Rattle.lab_core.specs.Board.{Board}
use Rattle.dap_messages.specs.declared.message.EditorEvent.{EditorEvent}
use Rattle.dap_messages.specs.declared.message.Message.{Message}
use Rattle.dap_run.specs.declared.messages.FollowUp.TheVariants as follow
use Rattle.dap_run.specs.Messages.{as_messages, events_of}
use Rattle.dap_run.proofs.SliceLemmas.{told-append}
use Rattle.dap_run.specs.declared.program.Phase.{Phase}
use Rattle.dap_run.specs.declared.program.Phase.TheVariants as phase
use Rattle.dap_run.specs.declared.program.Program.{Program}
use Rattle.dap_run.specs.Lives.{in_phase, is_over, is_live}
use Rattle.dap_session.specs.States.{SessionState, with_board}
use Rattle.dap_session.specs.Laws.{Shown, shown_after, shown_for, ends_in, ends_told, ends_between, has_run}
use Rattle.dap_session.specs.Laws.{is_begun, has_begun}
use Rattle.dap_laws.proofs.BoardLemmas.{SameRun}

-- what decides whether a program runs
pub record Seen : Type 0 where
  pub program : Option Program
  pub run : RunState
  pub is_attached : Bool
  pub is_configured : Bool

abbrev pub seen : SessionState → Seen
seen s = record {
  program = s.settings.program;
  run = s.board.run;
  is_attached = s.board.is_attached;
  is_configured = s.settings.is_configured;
}

pub seen_board : (b : Board) (s : SessionState) → SameRun s.board b → seen (with_board b s) ≡ seen s
seen_board b s kept = λ i. record {
  program = s.settings.program;
  run = kept.run i;
  is_attached = kept.is_attached i;
  is_configured = s.settings.is_configured;
}

-- ---- the states that are reached

-- a run is there while the program has begun and isn't over, which it doesn't before the configuration is
-- done
abbrev pub PhaseFits : Phase → RunState → Bool → Type 0
PhaseFits phase.Loaded run is_configured = run ≡ NoRun
PhaseFits phase.Begun run is_configured = (has_run run ≡ true) × (is_configured ≡ true)
PhaseFits (phase.Held how) run is_configured = (has_run run ≡ true) × (is_configured ≡ true)
PhaseFits phase.Over run is_configured = run ≡ NoRun

-- and a debugger is attached where the launch has one
abbrev pub ProgramFits : Option Program → RunState → Bool → Bool → Type 0
ProgramFits None run is_attached is_configured = run ≡ NoRun
ProgramFits (Some p) run is_attached is_configured =
    (is_attached ≡ p.launch.is_debugged) × PhaseFits p.phase run is_configured

abbrev pub IsReached : Seen → Type 0
IsReached v = ProgramFits v.program v.run v.is_attached v.is_configured

pub no_run : (run : RunState) → run ≡ NoRun → has_run run ≡ true → ⊥
no_run run none has = true≢false (sym has ∙ ap has_run none)

pub both : {A : Type 0} (b : Bool) → b ≡ true → b ≡ false → A
both b yes_it_is no_it_is = absurd (true≢false (sym yes_it_is ∙ no_it_is))

idle_phase : (h : Phase) (run : RunState) (c : Bool) → PhaseFits h run c → not (is_over h) ≡ false
    → run ≡ NoRun
idle_phase phase.Loaded run c fits dead = fits
idle_phase phase.Begun run c fits dead = absurd (true≢false dead)
idle_phase (phase.Held how) run c fits dead = absurd (true≢false dead)
idle_phase phase.Over run c fits dead = fits

idle_program : (o : Option Program) (run : RunState) (a c : Bool) → ProgramFits o run a c → is_live o ≡ false
    → run ≡ NoRun
idle_program None run a c fits dead = fits
idle_program (Some p) run a c fits dead = idle_phase p.phase run c fits.1 dead

-- without a live program there is no run
pub idle : (v : Seen) → IsReached v → is_live v.program ≡ false → v.run ≡ NoRun
idle v reached dead = idle_program v.program v.run v.is_attached v.is_configured reached dead

waiting_phase : (h : Phase) (run : RunState) (c : Bool) → PhaseFits h run c → c ≡ false → run ≡ NoRun
waiting_phase phase.Loaded run c fits is = fits
waiting_phase phase.Begun run c fits is = both c fits.1 is
waiting_phase (phase.Held how) run c fits is = both c fits.1 is
waiting_phase phase.Over run c fits is = fits

waiting_program : (o : Option Program) (run : RunState) (a c : Bool) → ProgramFits o run a c → c ≡ false
    → run ≡ NoRun
waiting_program None run a c fits is = fits
waiting_program (Some p) run a c fits is = waiting_phase p.phase run c fits.1 is

-- before the configuration is done there is no run
pub waiting : (v : Seen) → IsReached v → v.is_configured ≡ false → v.run ≡ NoRun
waiting v reached is = waiting_program v.program v.run v.is_attached v.is_configured reached is

live_phase : (h : Phase) (run : RunState) (c : Bool) → PhaseFits h run c → has_run run ≡ true
    → not (is_over h) ≡ true
live_phase phase.Loaded run c fits has = refl
live_phase phase.Begun run c fits has = refl
live_phase (phase.Held how) run c fits has = refl
live_phase phase.Over run c fits has = absurd (no_run run fits has)

live_program : (o : Option Program) (run : RunState) (a c : Bool) → ProgramFits o run a c → has_run run ≡ true
    → is_live o ≡ true
live_program None run a c fits has = absurd (no_run run fits has)
live_program (Some p) run a c fits has = live_phase p.phase run c fits.1 has

-- where a run is, a program is live
pub lively : (v : Seen) → IsReached v → has_run v.run ≡ true → is_live v.program ≡ true
lively v reached has = live_program v.program v.run v.is_attached v.is_configured reached has

begun_phase : (h : Phase) (run : RunState) (c : Bool) → PhaseFits h run c → has_run run ≡ is_begun h
begun_phase phase.Loaded run c fits = ap has_run fits
begun_phase phase.Begun run c fits = fits.0
begun_phase (phase.Held how) run c fits = fits.0
begun_phase phase.Over run c fits = ap has_run fits

begun_program : (o : Option Program) (run : RunState) (a c : Bool) → ProgramFits o run a c
    → has_run run ≡ has_begun o
begun_program None run a c fits = ap has_run fits
begun_program (Some p) run a c fits = begun_phase p.phase run c fits.1

pub begun_runs : (v : Seen) → IsReached v → has_run v.run ≡ has_begun v.program
begun_runs v reached = begun_program v.program v.run v.is_attached v.is_configured reached

on_phase : (h : Phase) (run r : RunState) (c : Bool) → PhaseFits h run c → has_run run ≡ true
    → has_run r ≡ true
    → PhaseFits h r c
on_phase phase.Loaded run r c fits had has = absurd (no_run run fits had)
on_phase phase.Begun run r c fits had has = (has, fits.1)
on_phase (phase.Held how) run r c fits had has = (has, fits.1)
on_phase phase.Over run r c fits had has = absurd (no_run run fits had)

on_program : (o : Option Program) (run r : RunState) (a c : Bool) → ProgramFits o run a c → has_run run ≡ true
    → has_run r ≡ true → ProgramFits o r a c
on_program None run r a c fits had has = absurd (no_run run fits had)
on_program (Some p) run r a c fits had has = (fits.0, on_phase p.phase run r c fits.1 had has)

abbrev pub with_run : RunState → Seen → Seen
with_run r v = record v { run = r }

over_program : (o : Option Program) (run : RunState) (a c : Bool) → ProgramFits o run a c
    → ProgramFits (option_map (in_phase phase.Over) o) NoRun a c
over_program None run a c fits = refl
over_program (Some p) run a c fits = (fits.0, refl)

-- without a run, and with the program over
abbrev pub over_seen : Seen → Seen
over_seen v = record v { program = option_map (in_phase phase.Over) v.program; run = NoRun }

dead_over : (o : Option Program) → is_live (option_map (in_phase phase.Over) o) ≡ false
dead_over None = refl
dead_over (Some p) = refl

-- ---- what follows

-- These messages tell what changes between two of them.
pub record Follows (v : Seen) (messages : List Message) (w : Seen) : Type 0 where
  pub reached : IsReached w
  pub stops : fold shown_after (shown_for v.run) messages ≡ shown_for w.run
  pub ends : ends_told messages ≡ ends_between v.program w.program

-- So do these events, of which there are none without a live program.
pub record Goes (s : SessionState) (es : List EditorEvent) (s' : SessionState) : Type 0 where
  pub follows : Follows (seen s) (as_messages es) (seen s')
  pub quiet : is_live s.settings.program ≡ false → es ≡ []

abbrev pub ended_count : Bool → Bool → ℕ
ended_count lived lives = if lived && not lives then 1 else 0

pub none_ended : (x : Bool) → zero ≡ ended_count x x
none_ended true = refl
none_ended false = refl

pub none_living : (x y : Bool) → y ≡ true → zero ≡ ended_count x y
none_living true true is = refl
none_living false true is = refl
none_living true false is = absurd (true≢false (sym is))
none_living false false is = refl

none_lived : (x y : Bool) → x ≡ false → zero ≡ ended_count x y
none_lived true y is = absurd (true≢false is)
none_lived false y is = refl

one_ended : (x y : Bool) → x ≡ true → y ≡ false → suc zero ≡ ended_count x y
one_ended true true lived dead = absurd (true≢false dead)
one_ended true false lived dead = refl
one_ended false y lived dead = absurd (true≢false (sym lived))

-- nothing changes
stays : (v : Seen) → IsReached v → Follows v [] v
stays v reached = record { reached = reached; stops = refl; ends = none_ended (is_live v.program) }

pub still : (s s' : SessionState) → IsReached (seen s) → seen s' ≡ seen s → Goes s [] s'
still s s' reached is = record {
  follows = subst (λ w. Follows (seen s) [] w) (sym is) (stays (seen s) reached);
  quiet = λ dead. refl;
}

-- a run that is there stops or goes on
pub runs_on : (r : RunState) (v : Seen) (messages : List Message) → IsReached v → has_run v.run ≡ true
    → has_run r ≡ true → fold shown_after (shown_for v.run) messages ≡ shown_for r → ends_told messages ≡ 0
    → Follows v messages (with_run r v)
runs_on r v messages reached had has stops none = record {
  reached = on_program v.program v.run r v.is_attached v.is_configured reached had has;
  stops = stops;
  ends = none ∙ none_ended (is_live v.program);
}

-- a live program ends
pub ends_live : (v : Seen) (messages : List Message) → IsReached v → is_live v.program ≡ true
    → fold shown_after (shown_for v.run) messages ≡ shown_for NoRun → ends_told messages ≡ 1
    → Follows v messages (over_seen v)
ends_live v messages reached live stops one = record {
  reached = over_program v.program v.run v.is_attached v.is_configured reached;
  stops = stops;
  ends = one ∙ one_ended (is_live v.program) _ live (dead_over v.program);
}

ends_dead : (v : Seen) → IsReached v → is_live v.program ≡ false → Follows v [] (over_seen v)
ends_dead v reached dead = record {
  reached = over_program v.program v.run v.is_attached v.is_configured reached;
  stops = ap shown_for (idle v reached dead);
  ends = none_lived (is_live v.program) _ dead;
}

-- a live program ends, with this exit code
pub goes_ended : (code : ℕ) (s s' : SessionState) → is_live s.settings.program ≡ true → IsReached (seen s)
    → seen s' ≡ over_seen (seen s) → Goes s (events_of (follow.Ended code)) s'
goes_ended code s s' live reached is = record {
  follows =
      subst (λ w. Follows (seen s) (as_messages (events_of (follow.Ended code))) w) (sym is)
      (ends_live (seen s) (as_messages (events_of (follow.Ended code))) reached live refl refl);
  quiet = λ dead. both (is_live s.settings.program) live dead;
}

-- a program ends where one is live
pub goes_over : (b : Bool) (s s' : SessionState) → is_live s.settings.program ≡ b → IsReached (seen s)
    → seen s' ≡ over_seen (seen s) → Goes s (events_of (if b then follow.Ended 1 else follow.Nothing)) s'
goes_over true s s' live reached is = goes_ended 1 s s' live reached is
goes_over false s s' dead reached is = record {
  follows = subst (λ w. Follows (seen s) [] w) (sym is) (ends_dead (seen s) reached dead);
  quiet = λ _. refl;
}

-- ---- events that tell of neither

pub record IsCalm (es : List EditorEvent) : Type 0 where
  pub stops : (d : Shown) → fold shown_after d (as_messages es) ≡ d
  pub ends : ends_told (as_messages es) ≡ 0

pub calm_follows : (first second : List EditorEvent) (v w : Seen) → IsCalm first
    → Follows v (as_messages second) w
    → Follows v (as_messages (first ++ second)) w
calm_follows first second v w calm follows =
    let d = shown_for v.run in
    record {
      reached = follows.reached;
      stops =
          ap (λ ms. fold shown_after d ms) (told-append first second)
          ∙ (fold-append shown_after d (as_messages first) (as_messages second)
          ∙ (ap (λ x. fold shown_after x (as_messages second)) (calm.stops d) ∙ follows.stops));
      ends =
          ap ends_told (told-append first second)
          ∙ (sum_by-append ends_in (as_messages first) (as_messages second)
          ∙ (ap (λ n. n + ends_told (as_messages second)) calm.ends ∙ (zero-add _ ∙ follows.ends)));
    }

pub calm_append : (first second : List EditorEvent) → IsCalm first → IsCalm second → IsCalm (first ++ second)
calm_append first second one two = record {
  stops = λ d.
      ap (λ ms. fold shown_after d ms) (told-append first second)
      ∙ (fold-append shown_after d (as_messages first) (as_messages second)
      ∙ (ap (λ x. fold shown_after x (as_messages second)) (one.stops d) ∙ two.stops d));
  ends =
      ap ends_told (told-append first second)
      ∙ (sum_by-append ends_in (as_messages first) (as_messages second)
      ∙ (ap (λ n. n + ends_told (as_messages second)) one.ends ∙ (zero-add _ ∙ two.ends)));
}

pub calm_still : (es : List EditorEvent) (v : Seen) → IsReached v → IsCalm es → Follows v (as_messages es) v
calm_still es v reached calm = record {
  reached = reached;
  stops = calm.stops (shown_for v.run);
  ends = calm.ends ∙ none_ended (is_live v.program);
}
