-- Of what a slice tells.
use Rattle.std.proofs.Common.{◌≡◌, ◌∙◌, ℕ, List, [], ◌∷◌, ◌++◌, Bool, true, false, nat_lt, ap, refl, sym}
use Rattle.std.proofs.Common.{subst, Option}
use Rattle.std.proofs.Common.{append_assoc, if◌then◌else◌}
use Rattle.i80_base.specs.declared.ports.PortOperation.{PortOperation}
use Rattle.lab_shown.specs.declared.place.PlaceChange.{PlaceChange}
use Rattle.lab_core.specs.declared.answer.SliceOutcome.{SliceOutcome}
use Rattle.lab_core.specs.Board.{Board}
use Rattle.lab_core.specs.Slices.{after_steps, traffic_of, left_by}
use Rattle.lab_core.specs.Labs.{LabState, RepresentsBoard}
use Rattle.dap_messages.specs.declared.message.EditorEvent.{EditorEvent}
use Rattle.dap_messages.specs.declared.message.Message.{Message}
use Rattle.dap_slice.specs.declared.conditions.ConditionalBreakpoint.{ConditionalBreakpoint}
use Rattle.dap_slice.specs.declared.logs.LogLine.{LogLine}
use Rattle.dap_slice.specs.Logs.{logs_on, logs_before}
use Rattle.dap_slice.specs.SliceEnds.{change_after, ids_after}
use Rattle.dap_run.specs.Messages.{as_messages}
use Rattle.dap_run.specs.Ends.{held_at_end}
use Rattle.dap_run.specs.Slices.{SliceContext, IsSliceOf, asks_line, log_events, run_events}
use Rattle.dap_run.specs.Slices.{outcome_events}

-- what is told of events one after the other
pub told-append : (first second : List EditorEvent)
    → as_messages (first ++ second) ≡ as_messages first ++ as_messages second
told-append [] second = refl
told-append (e ∷ first) second = ap (λ rest. as_messages (e ∷ []) ++ rest) (told-append first second)

-- so of three after nothing
pub told_three : (m0 m1 m2 m3 : List Message) (a b c : List EditorEvent) → m0 ≡ [] → m1 ≡ m0 ++ as_messages a
    → m2 ≡ m1 ++ as_messages b → m3 ≡ m2 ++ as_messages c → m3 ≡ as_messages (a ++ (b ++ c))
told_three m0 m1 m2 m3 a b c e0 e1 e2 e3 =
    e3 ∙ (ap (λ m. m ++ as_messages c) (e2
    ∙ ap (λ m. m ++ as_messages b) (e1 ∙ ap (λ m. m ++ as_messages a) e0))
    ∙ (append_assoc (as_messages a) (as_messages b) (as_messages c)
    ∙ (ap (λ rest. as_messages a ++ rest) (sym (told-append b c)) ∙ sym (told-append a (b ++ c)))))

-- and of events with others behind them
pub told_both : (m0 m1 m2 : List Message) (a b : List EditorEvent) → m1 ≡ m0 ++ as_messages a
    → m2 ≡ m1 ++ as_messages b → m2 ≡ m0 ++ as_messages (a ++ b)
told_both m0 m1 m2 a b e1 e2 =
    e2 ∙ (ap (λ m. m ++ as_messages b) e1
    ∙ (append_assoc m0 (as_messages a) (as_messages b)
    ∙ ap (λ rest. m0 ++ rest) (sym (told-append a b))))

-- and of the messages of breakpoints before those of a run, if it made a step
pub told_slice : (points : List ConditionalBreakpoint) (b : Board) (k : ℕ) (lines : List LogLine)
    (run : List EditorEvent) (logs messages result : List Message) → lines ≡ logs_on points b
    → logs ≡ as_messages (log_events lines) → messages ≡ as_messages run
    → result ≡ (if nat_lt 0 k then logs else []) ++ messages
    → result ≡ as_messages (log_events (logs_before points k b) ++ run)
told_slice points b k lines run logs messages result found logs_are ran is = by (nat_lt 0 k) is
  where
    both : logs ++ messages ≡ as_messages (log_events (logs_on points b) ++ run)
    both =
        ap (λ ls. ls ++ messages) (logs_are ∙ ap (λ ls. as_messages (log_events ls)) found)
        ∙ (ap (λ ms. as_messages (log_events (logs_on points b)) ++ ms) ran
        ∙ sym (told-append (log_events (logs_on points b)) run))

    by : (some : Bool) → result ≡ (if some then logs else []) ++ messages
        → result ≡ as_messages (log_events (if some then logs_on points b else []) ++ run)
    by true is = is ∙ both
    by false is = is ∙ ran

-- a slice whose parts are these
pub is_slice : (end : ℕ × SliceOutcome) (c : SliceContext) (b : Board) (k : ℕ) (t u : List PortOperation)
    (change : Option PlaceChange) (ids : List ℕ) (o : SliceOutcome) (asks : Bool) (told : List Message)
    (new : LabState)
    → k ≡ end.0 → t ≡ traffic_of end.0 b → u ≡ traffic_of end.0 b → change ≡ change_after c.points end b
    → ids ≡ ids_after c.points end b → o ≡ end.1 → asks ≡ asks_line c.has_asked k t
    → told ≡ as_messages (log_events (logs_before c.points k b)
    ++ run_events asks u (outcome_events c.held change ids o))
    → RepresentsBoard new (held_at_end c.held o (left_by end.1 (after_steps end.0 b)))
    → IsSliceOf end c b (record { messages = told; executed = k; asks_line = asks; outcome = o }) new
is_slice end c b k t u change ids o asks told new count t_is u_is seen numbered how asked is represents =
    let A : ℕ → List PortOperation → Bool = λ n w. asks_line c.has_asked n w in
    let asks_is : asks ≡ A end.0 (traffic_of end.0 b) =
    asked ∙ (ap (λ n. A n t) count ∙ ap (λ w. A end.0 w) t_is) in
    let M : ℕ → Bool → List PortOperation → List EditorEvent → List Message =
    λ n a w es. as_messages (log_events (logs_before c.points n b) ++ run_events a w es) in
    let seen_change = change_after c.points end b in
    let seen_ids = ids_after c.points end b in
    let events : outcome_events c.held change ids o ≡ outcome_events c.held seen_change seen_ids end.1 =
    ap (λ s. outcome_events c.held s ids o) seen
    ∙ (ap (λ i. outcome_events c.held seen_change i o) numbered
    ∙ ap (λ e. outcome_events c.held seen_change seen_ids e) how) in
    record {
      executed = count;
      asks = asks_is;
      messages =
          is ∙ (ap (λ n. M n asks u (outcome_events c.held change ids o)) count
          ∙ (ap (λ a. M end.0 a u (outcome_events c.held change ids o)) asks_is
          ∙ (ap (λ w. M end.0 (A end.0 (traffic_of end.0 b)) w (outcome_events c.held change ids o)) u_is
          ∙ ap (λ es. M end.0 (A end.0 (traffic_of end.0 b)) (traffic_of end.0 b) es) events)));
      outcome = how;
      represents =
          subst (λ e. RepresentsBoard new (held_at_end c.held e (left_by end.1 (after_steps end.0 b)))) how
          represents;
    }
