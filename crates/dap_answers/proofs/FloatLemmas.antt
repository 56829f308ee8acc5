-- No number in an answer is a float.
use Rattle.std.proofs.Common.{◌≡◌, ℕ, ◌++◌, Bool, true, false, Option, Some, None, List, [], ◌∷◌, map, refl}
use Rattle.serde_json.specs.Data.{Data}
use Rattle.serde_json.specs.View.{items_of}
use Rattle.serde_json.specs.Written.{has_float, items_have_float}
use Rattle.lab_shown.specs.declared.shown.StackFrame.{StackFrame}
use Rattle.lab_shown.specs.declared.shown.SourceBreakpoints.{SourceBreakpoints}
use Rattle.dap_answers.specs.declared.answer.DebugState.{DebugState}
use Rattle.dap_answers.specs.declared.answer.Body.{Body}
use Rattle.dap_answers.specs.declared.answer.Body.TheVariants as body
use Rattle.dap_answers.specs.declared.answer.Event.{Event}
use Rattle.dap_answers.specs.declared.answer.Event.TheVariants as event
use Rattle.dap_answers.specs.Json.{
  object_of,
  source_members,
  bare_frame,
  frame_json,
  breakpoint_json,
  variable_json,
  instruction_json,
  line_json,
  source_breakpoints_json,
  stopped_threads,
  debug_state_json,
  body_json,
  event_json,
}

-- where no item has one
pub no_float_in : {T : Type 0} (f : T → Data) → ((x : T) → has_float (f x) ≡ false)
    → (xs : List T) → items_have_float (items_of (map f xs)) ≡ false
no_float_in f none [] = refl
no_float_in f none (x ∷ xs) = rw (none x, no_float_in f none xs) refl

framed : (f : StackFrame) (source : Option (List ℕ))
    → has_float (object_of (bare_frame f ++ source_members source)) ≡ false
framed f None = refl
framed f (Some path) = refl

in_source : (s : SourceBreakpoints) → has_float (source_breakpoints_json s) ≡ false
in_source s = rw (no_float_in line_json (λ n. refl) s.lines) refl

stopped : (b : Bool) → has_float (stopped_threads b) ≡ false
stopped true = refl
stopped false = refl

in_state : (d : DebugState) → has_float (debug_state_json d) ≡ false
in_state d =
    rw (no_float_in source_breakpoints_json in_source d.breakpoints, stopped d.is_stopped) refl

pub body_has_no_float : (b : Body) → has_float (body_json b) ≡ false
body_has_no_float (body.Breakpoints bs) = rw (no_float_in breakpoint_json (λ b. refl) bs) refl
body_has_no_float (body.StackTrace fs total) = rw (no_float_in frame_json (λ f. framed f f.source) fs) refl
body_has_no_float (body.Variables vs) = rw (no_float_in variable_json (λ v. refl) vs) refl
body_has_no_float (body.Instructions is) = rw (no_float_in instruction_json (λ i. refl) is) refl
body_has_no_float (body.DebugState d) = in_state d
body_has_no_float _ = refl

pub event_has_no_float : (seq : ℕ) (e : Event) → has_float (event_json seq e) ≡ false
event_has_no_float seq event.Initialized = refl
event_has_no_float seq _ = refl
