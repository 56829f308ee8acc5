-- How deep answers nest.
use Rattle.std.proofs.Common.{◌≡◌, ◌≤◌, ℕ, nat_le, ◌++◌, Bool, true, false, Option, Some, None, List, [], ◌∷◌}
use Rattle.std.proofs.Common.{map, refl, arith}
use Rattle.std.proofs.lemmas.Bool.Decides.{nat_tests}
use Rattle.serde_json.specs.Data.{Data, depth, items_depth}
use Rattle.serde_json.specs.View.{items_of}
use Rattle.lab_shown.specs.declared.shown.StackFrame.{StackFrame}
use Rattle.lab_shown.specs.declared.shown.SourceBreakpoints.{SourceBreakpoints}
use Rattle.dap_answers.specs.declared.answer.DebugState.{DebugState}
use Rattle.dap_answers.specs.declared.answer.Body.{Body}
use Rattle.dap_answers.specs.declared.answer.Body.TheVariants as body
use Rattle.dap_answers.specs.declared.answer.Event.{Event}
use Rattle.dap_answers.specs.declared.answer.Event.TheVariants as event
use Rattle.dap_answers.specs.Json.{object_of, source_members, bare_frame, frame_json, breakpoint_json}
use Rattle.dap_answers.specs.Json.{variable_json, instruction_json, line_json, source_breakpoints_json}
use Rattle.dap_answers.specs.Json.{stopped_threads, debug_state_json, body_json, event_json}

pub fits : (d k : ℕ) → nat_le d k ≡ true → d ≤ k
fits d k is = grind (arith, nat_tests)

-- where no item is deeper
pub items_within : {T : Type 0} (k : ℕ) (f : T → Data) → ((x : T) → depth (f x) ≤ k)
    → (xs : List T) → items_depth (items_of (map f xs)) ≤ k
items_within k f each [] = omega arith
items_within k f each (x ∷ xs) =
    let first = each x in
    let others = items_within k f each xs in
    omega (arith, first, others)

framed : (f : StackFrame) (source : Option (List ℕ))
    → depth (object_of (bare_frame f ++ source_members source)) ≤ 2
framed f None = fits _ 2 refl
framed f (Some path) = fits _ 2 refl

lines_within : (lines : List ℕ) → items_depth (items_of (map line_json lines)) ≤ 1
lines_within lines = items_within 1 line_json (λ n. fits _ 1 refl) lines

in_source : (s : SourceBreakpoints) → depth (source_breakpoints_json s) ≤ 3
in_source s = let h = lines_within s.lines in omega (arith, h)

stopped : (b : Bool) → depth (stopped_threads b) ≤ 1
stopped true = fits _ 1 refl
stopped false = fits _ 1 refl

in_state : (d : DebugState) → depth (debug_state_json d) ≤ 5
in_state d =
    let sources : items_depth (items_of (map source_breakpoints_json d.breakpoints)) ≤ 3 =
    items_within 3 source_breakpoints_json in_source d.breakpoints in
    let threads = stopped d.is_stopped in
    omega (arith, sources, threads)

pub body_is_shallow : (b : Body) → depth (body_json b) ≤ 5
body_is_shallow (body.Breakpoints bs) =
    let h = items_within 1 breakpoint_json (λ b. fits _ 1 refl) bs in omega (arith, h)
body_is_shallow (body.StackTrace fs total) =
    let h = items_within 2 frame_json (λ f. framed f f.source) fs in omega (arith, h)
body_is_shallow (body.Variables vs) =
    let h = items_within 1 variable_json (λ v. fits _ 1 refl) vs in omega (arith, h)
body_is_shallow (body.Instructions is) =
    let h = items_within 1 instruction_json (λ i. fits _ 1 refl) is in omega (arith, h)
body_is_shallow (body.DebugState d) = in_state d
body_is_shallow _ = fits _ 5 refl

pub event_is_shallow : (seq : ℕ) (e : Event) → depth (event_json seq e) ≤ 6
event_is_shallow seq event.Initialized = fits _ 6 refl
event_is_shallow seq _ = fits _ 6 refl
