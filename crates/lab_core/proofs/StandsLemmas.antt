-- The board a lab represents after a step, a Resume and a Step.
use Rattle.std.proofs.Common.{◌≡◌, ℕ, ◌+◌, ◌≤◌, List, [], ◌∷◌, ◌++◌, Bool, true, false, not, ◌||◌, ◌&&◌, ◌==◌}
use Rattle.std.proofs.Common.{Option, Some, None, length, min, refl, sym, ap, ◌∙◌, subst, rules, arith}
use Rattle.std.proofs.Common.{length-append, append-nil}
use Rattle.std.proofs.lemmas.List.{take-append-drop, drop-append-le, take-append-le, take_all, drop_all}
use Rattle.std.proofs.lemmas.List.Sums.{fold-append}
use Rattle.std.proofs.lemmas.Bool.Decides.{nat_tests}
use Rattle.std.specs.Option.{IsSome, unwrap_or}
use Rattle.std.specs.List.{filter}
use Rattle.i80_exec.specs.declared.registers.Stepped.{Stepped}
use Rattle.i80_base.specs.declared.ports.PortOperation.{PortOperation}
use Rattle.i80_exec.specs.State.{MachineState}
use Rattle.i80_exec.specs.Effect.{Outcome}
use Rattle.i80_exec.specs.Step.{is_halt, operation_list}
use Rattle.i80_exec.specs.declared.registers.Stepped.TheVariants as stepped
use Rattle.i80_devs.specs.Past.{Operation, DeviceState, RepresentsPast as DevicesStandFor}
use Rattle.lab_frames.specs.declared.frame.Frame.{Frame}
use Rattle.lab_frames.specs.Live.{BoardStep, Change, Entry, Step, Poke, change_of, ends, live, stays}
use Rattle.lab_frames.specs.Frames.{Advances, AtLeast, LeavesOldest, IsStep, TellsSp, survivors}
use Rattle.lab_frames.proofs.FrameLemmas.{live-above}
use Rattle.lab_frames.proofs.StepLemmas.{returns_below}
use Rattle.lab_frames.proofs.LiveLemmas.{live-append, live-poke, stays-step, filter-stays-step}
use Rattle.lab_frames.proofs.LiveLemmas.{filter-stays-none}
use Rattle.lab_core.specs.declared.event.StepRequest.{StepRequest}
use Rattle.lab_core.specs.declared.run_state.RunState.TheVariants.{Running, Stopped}
use Rattle.lab_frames.specs.Steps.{acceptance_due, operations, outcome as outcome_of}
use Rattle.lab_core.specs.Board.{Board, as_step, next_change, next_step, after_next_step as stepped_board}
use Rattle.lab_core.specs.Stops.{earlier, since, has_step, innermost, is_any, is_gone, is_gone_after}
use Rattle.lab_core.specs.declared.answer.SliceOutcome.TheVariants as outcome
use Rattle.lab_core.specs.declared.answer.End.TheVariants as end
use Rattle.lab_core.specs.Slices.{ends_in_halt, halts, end_by_undefined}
use Rattle.lab_core.specs.Events.{going_on, changed_to}
use Rattle.lab_frames.specs.Steps.{IsBoardStep}
use Rattle.lab_core.specs.Labs.{LabState, RepresentsDuringSlice, RepresentsBoard, Follows}
use Rattle.i80_exec.proofs.UndefinedLemmas.{IsDefined}
use Rattle.lab_core.proofs.UndefinedLemmas.{defined, no_step, some_step}

-- ---- traces with one more step

as_step-change : (a : Option Outcome) (c : Change) → change_of (as_step a c) ≡ c
as_step-change None c = refl
as_step-change (Some o) c = refl

step-append : (entries : List Entry) (step : BoardStep) → has_step (entries ++ Step step ∷ []) ≡ true
step-append [] step = refl
step-append (Step s ∷ entries) step = refl
step-append (Poke before after ∷ entries) step = step-append entries step

halted-append : (entries : List Entry) (step : BoardStep)
    → ends_in_halt (entries ++ Step step ∷ []) ≡ is_halt (change_of step).answer
halted-append entries step = fold-append halts false entries (Step step ∷ [])

not_both : (x y : Bool) → (not y || x) ≡ not (not x && y)
not_both true true = refl
not_both true false = refl
not_both false true = refl
not_both false false = refl

gone-append : (frame : Option Frame) (steps : List Entry) (step : BoardStep)
    → is_gone_after (is_gone frame steps) frame (change_of step).answer (change_of step).after.regs.sp
    ≡ is_gone frame (steps ++ Step step ∷ [])
gone-append None steps step = refl
gone-append (Some f) steps step =
    not_both (ends (Step step) f) (stays steps f) ∙ ap not (sym (stays-step steps (Step step) f))

-- ---- a step

-- what a step keeps and changes besides machine and devices, if it leaves `left` frames
pub record Moves (old new : LabState) (answer : Stepped) (left : ℕ) : Type 0 where
  pub rest : new ≡ record old {
    machine = new.machine;
    devices = new.devices;
    frames = new.frames;
    is_halted = is_halt answer;
    has_moved = true;
    older = new.older;
    is_gone = new.is_gone;
  }
  pub frames : Advances answer old.machine.regs.pc new.machine.regs.sp old.frames new.frames
  pub oldest : LeavesOldest answer new.machine.regs.sp old.frames left
  pub tells : TellsSp answer old.machine.regs.sp new.machine.regs.sp
  pub older : IsSome old.request → new.older ≡ min old.older left
  pub gone : IsSome old.request
      → new.is_gone ≡ is_gone_after old.is_gone old.innermost answer new.machine.regs.sp

-- the parts of a trace with one more step
record Longer (b : Board) : Type 0 where
  pub earlier_is : earlier (stepped_board b) ≡ earlier b
  pub since_is : since (stepped_board b) ≡ since b ++ Step (next_step b) ∷ []

longer : (b : Board) → unwrap_or b.resumed 0 ≤ length b.trace → Longer b
longer b within = record {
  earlier_is = take-append-le (unwrap_or b.resumed 0) b.trace (Step (next_step b) ∷ []) within;
  since_is = drop-append-le (unwrap_or b.resumed 0) b.trace (Step (next_step b) ∷ []) within;
}

-- the live frames are the older ones that the later entries leave, and those that the later entries make
pub parts-live : (b : Board) → live b.trace ≡ filter (stays (since b)) (live (earlier b)) ++ live (since b)
parts-live b =
    ap live (sym (take-append-drop (unwrap_or b.resumed 0) b.trace)) ∙ live-append (earlier b) (since b)

-- what a lab tracks for a Step, one step later
follows_step : (old new : LabState) (b : Board) (answer : Stepped) (left : ℕ) → Moves old new answer left
    → (change_of (next_step b)).answer ≡ answer
    → (change_of (next_step b)).after.regs.sp ≡ new.machine.regs.sp
    → unwrap_or b.resumed 0 ≤ length b.trace → old.frames ≡ live b.trace
    → AtLeast old.machine.regs.sp (live (since b)) → IsSome old.request
    → Follows old.older old.innermost old.is_gone (earlier b) (since b)
    → Follows new.older old.innermost new.is_gone (earlier (stepped_board b)) (since (stepped_board b))
follows_step old new b answer left m answer-is sp-is within frames above asked f =
    let x = next_step b in
    let l = longer b within in
    let survived : List Frame = filter (stays (since b)) (live (earlier b)) in
    let counted : length (survivors answer new.machine.regs.sp survived) ≡ min (length survived) left
    =
    m.oldest survived (live (since b)) (frames ∙ parts-live b)
    (returns_below answer old.machine.regs.sp new.machine.regs.sp (live (since b)) m.tells above) in
    let stay : filter (stays (since b ++ Step x ∷ [])) (live (earlier b))
    ≡ survivors answer new.machine.regs.sp survived
    = filter-stays-step (since b) x (live (earlier b)) ∙ rw (answer-is, sp-is) refl in
    let gone : is_gone_after (is_gone (innermost (live (earlier b))) (since b)) (innermost (live (earlier b)))
    answer new.machine.regs.sp
    ≡ is_gone (innermost (live (earlier b))) (since b ++ Step x ∷ [])
    = rw (← answer-is, ← sp-is) (gone-append (innermost (live (earlier b))) (since b) x) in
    record {
      older_is = m.older asked ∙ rw (l.earlier_is, l.since_is, f.older_is, stay) (sym counted);
      innermost_is = rw l.earlier_is f.innermost_is;
      gone_is = m.gone asked ∙ rw (l.earlier_is, l.since_is, f.gone_is, f.innermost_is) gone;
    }

pub stands_step : (old new : LabState) (b : Board) (traffic : List PortOperation) (answer : Stepped)
    (left : ℕ)
    → RepresentsDuringSlice old b traffic
    → IsBoardStep b.past old.machine old.devices new.machine new.devices answer
    → Moves old new answer left
    → RepresentsDuringSlice new (stepped_board b) (traffic ++ operation_list (next_change b).operation)
stands_step old new b traffic answer left s did m =
    let x = next_step b in
    let P : MachineState → Type 0 =
    λ machine. IsBoardStep b.past machine old.devices new.machine new.devices answer in
    let step = subst P s.machine did in
    let change : change_of x ≡ next_change b =
    as_step-change (acceptance_due b.machine b.past) (next_change b) in
    let answer-is : (change_of x).answer ≡ answer = rw change (sym step.answer_is) in
    let sp-is : (change_of x).after.regs.sp ≡ new.machine.regs.sp =
    rw change (ap (λ (n : MachineState). n.regs.sp) (sym step.after_is)) in
    let site-is : (change_of x).before.regs.pc ≡ old.machine.regs.pc =
    rw change (ap (λ (n : MachineState). n.regs.pc) (sym s.machine)) in
    let is : IsStep x answer old.machine.regs.pc new.machine.regs.sp =
    record { answer_is = answer-is; site_is = site-is; sp_is = sp-is } in
    let l = longer b s.within in
    let represents = step.represents in
    let traffic-is : new.devices.operations ≡ traffic ++ operation_list (next_change b).operation
    = step.traffic_is ∙ rw s.traffic_is refl in
    let frames-are = m.frames b.trace x is s.frames in
    let halts : is_halt answer ≡ ends_in_halt (stepped_board b).trace
    = rw (← answer-is) (sym (halted-append b.trace x)) in
    let within : unwrap_or b.resumed 0 ≤ length (stepped_board b).trace
    = let longer-by = length-append b.trace (Step x ∷ []) in let before = s.within in omega arith in
    let moves : true ≡ has_step (since (stepped_board b)) = rw l.since_is (sym (step-append (since b) x)) in
    let sp-was : b.machine.regs.sp ≡ old.machine.regs.sp =
    ap (λ (n : MachineState). n.regs.sp) (sym s.machine) in
    let sp-next : new.machine.regs.sp ≡ (next_change b).after.regs.sp =
    ap (λ (n : MachineState). n.regs.sp) step.after_is in
    let lies : AtLeast new.machine.regs.sp (live (since b ++ Step x ∷ [])) =
    live-above (since b) x answer old.machine.regs.pc new.machine.regs.sp is m.tells.calls in
    let N : ℕ → Type 0 = λ n. AtLeast n (live (since b ++ Step x ∷ [])) in
    let L : List Entry → Type 0 = λ entries. AtLeast (next_change b).after.regs.sp (live entries) in
    let above : IsSome b.request → AtLeast (next_change b).after.regs.sp (live (since (stepped_board b))) =
    λ asked. subst L (sym l.since_is) (subst N sp-next lies) in
    let stopped : b.run ≡ Stopped → b.request ≡ None = s.stopped in
    let O : ℕ → Type 0 = λ n. AtLeast n (live (since b)) in
    let follows : IsSome b.request
    → Follows new.older old.innermost new.is_gone (earlier (stepped_board b)) (since (stepped_board b))
    = λ asked.
    follows_step old new b answer left m answer-is sp-is s.within s.frames (subst O sp-was (s.above asked))
    (rw s.request asked)
    (s.follows asked) in
    let Q : LabState → Type 0 = λ lab.
    RepresentsDuringSlice lab (stepped_board b) (traffic ++ operation_list (next_change b).operation) in
    subst Q (sym m.rest) (search rules)

-- ---- no step

-- devices without a further operation
no_operations : (devices : DeviceState) (past done : List Operation) → done ≡ []
    → DevicesStandFor devices (past ++ done)
    → DevicesStandFor devices past
no_operations devices past done none represents =
    let P : List Operation → Type 0 = λ all. DevicesStandFor devices all in
    let same : past ++ done ≡ past = rw none (append-nil past) in
    subst P same represents

-- the opcode is undefined exactly if the step answers Undefined
pub finds_undefined : (old : LabState) (b : Board) (traffic : List PortOperation) (machine : MachineState)
    (devices : DeviceState) (opcode pc : ℕ)
    → RepresentsDuringSlice old b traffic
    → IsBoardStep b.past old.machine old.devices machine devices (stepped.Undefined opcode)
    → pc ≡ old.machine.regs.pc → Some (outcome.End (end.Undefined opcode pc)) ≡ end_by_undefined b
finds_undefined old b traffic machine devices opcode pc s did at_pc =
    let P : MachineState → Type 0 =
    λ m. IsBoardStep b.past m old.devices machine devices (stepped.Undefined opcode) in
    let n = no_step b.past b.machine opcode (subst P s.machine did).answer_is in
    rw (n.finds, n.opcode_is, at_pc, s.machine) refl

pub finds_no_undefined : (old : LabState) (b : Board) (traffic : List PortOperation) (machine : MachineState)
    (devices : DeviceState) (answer : Stepped)
    → RepresentsDuringSlice old b traffic → IsBoardStep b.past old.machine old.devices machine devices answer
    → ((opcode : ℕ) → answer ≡ stepped.Undefined opcode → ⊥) → None ≡ end_by_undefined b
finds_no_undefined old b traffic machine devices answer s did other =
    let P : MachineState → Type 0 = λ m. IsBoardStep b.past m old.devices machine devices answer in
    let is = (subst P s.machine did).answer_is in
    let none = some_step b.past b.machine (subst IsDefined is (defined answer other)) in
    rw none refl

-- it leaves the lab unchanged
pub stands_undefined : (old : LabState) (b : Board) (traffic : List PortOperation) (machine : MachineState)
    (devices : DeviceState) (opcode : ℕ)
    → RepresentsDuringSlice old b traffic
    → IsBoardStep b.past old.machine old.devices machine devices (stepped.Undefined opcode)
    → RepresentsDuringSlice (record old { machine = machine; devices = devices }) b traffic
stands_undefined old b traffic machine devices opcode s did =
    let P : MachineState → Type 0 =
    λ m. IsBoardStep b.past m old.devices machine devices (stepped.Undefined opcode) in
    let step = subst P s.machine did in
    let n = no_step b.past b.machine opcode step.answer_is in
    let none : operation_list (outcome_of b.machine b.past).operation ≡ [] = rw n.operation_is refl in
    let machine-is = step.after_is ∙ n.after_is in
    let represents = no_operations devices b.past
    (operations b.machine b.past) n.operations_are step.represents in
    let traffic-is : devices.operations ≡ traffic
    = step.traffic_is ∙ rw (none, append-nil old.devices.operations) s.traffic_is in
    search rules

-- ---- a Resume, or a Step

none_gone : (frame : Option Frame) → false ≡ is_gone frame []
none_gone None = refl
none_gone (Some f) = refl

pub stands_on : (old : LabState) (b : Board) (request : Option StepRequest) (older : ℕ) (frame : Option Frame)
    → older ≡ length old.frames → frame ≡ innermost old.frames → RepresentsBoard old b
    → RepresentsBoard (record old {
      run = Running;
      is_resumed = true;
      has_moved = false;
      request = request;
      older = older;
      innermost = frame;
      is_gone = false;
    }) (going_on request b)
stands_on old b request older frame older-is frame-is s =
    let on = going_on request b in
    let all : earlier on ≡ b.trace = take_all (length b.trace) b.trace (omega arith) in
    let none : since on ≡ [] = drop_all (length b.trace) b.trace (omega arith) in
    let moves : false ≡ has_step (since on) = rw none refl in
    let stopped : on.run ≡ Stopped → on.request ≡ None = λ is. cc in
    let above : IsSome on.request → AtLeast on.machine.regs.sp (live (since on)) = λ asked. rw none tt in
    let follows : Follows older frame false (earlier on) (since on) = record {
      older_is =
          rw (all, none, filter-stays-none (live b.trace))
          (older-is ∙ ap (λ (fs : List Frame). length fs) s.frames);
      innermost_is = rw all (frame-is ∙ ap innermost s.frames);
      gone_is = rw (all, none) (none_gone (innermost (live b.trace)));
    } in
    search (rules, arith)

-- ---- whether a Step is done

same_count : {A : Type 0} → (n : ℕ) (xs : List A) → (n + length xs == n) ≡ not (is_any xs)
same_count n [] = grind (arith, nat_tests)
same_count n (x ∷ xs) = grind (arith, nat_tests)

-- the number of live frames is that of the older ones left, if no later frame is live
pub over_done : (frames : List Frame) (older : ℕ) (frame : Option Frame) (gone : Bool) (b : Board)
    → frames ≡ live b.trace
    → Follows older frame gone (earlier b) (since b)
    → (length frames == older) ≡ not (is_any (live (since b)))
over_done frames older frame gone b frames-are f =
    let survived : List Frame = filter (stays (since b)) (live (earlier b)) in
    let counts : length frames ≡ length survived + length (live (since b))
    =
    ap (λ (fs : List Frame). length fs) (frames-are ∙ parts-live b)
    ∙ length-append survived (live (since b)) in
    rw (counts, f.older_is) (same_count (length survived) (live (since b)))

-- ---- a change by hand

pub step-none : (entries : List Entry) (m m' : MachineState)
    → has_step (entries ++ Poke m m' ∷ []) ≡ has_step entries
step-none [] m m' = refl
step-none (Step s ∷ entries) m m' = refl
step-none (Poke n n' ∷ entries) m m' = step-none entries m m'

-- the lab of a stopped run represents the board whose machine was changed
pub stands_poked : (old : LabState) (b : Board) (machine : MachineState) → RepresentsBoard old b
    → b.run ≡ Stopped
    → RepresentsBoard (record old { machine = machine }) (changed_to machine b)
stands_poked old b machine s is =
    let entry : Entry = Poke b.machine machine in
    let new : Board = changed_to machine b in
    let frames-are : old.frames ≡ live (b.trace ++ entry ∷ []) =
    s.frames ∙ sym (live-poke b.trace b.machine machine) in
    let halted : old.is_halted ≡ ends_in_halt (b.trace ++ entry ∷ []) =
    s.is_halted ∙ sym (fold-append halts false b.trace (entry ∷ [])) in
    let within : unwrap_or b.resumed 0 ≤ length (b.trace ++ entry ∷ []) =
    let longer-by = length-append b.trace (entry ∷ []) in let before = s.within in omega arith in
    let since-is : since new ≡ since b ++ entry ∷ [] =
    drop-append-le (unwrap_or b.resumed 0) b.trace (entry ∷ []) s.within in
    let moves : old.has_moved ≡ has_step (since new) =
    s.has_moved ∙ sym (rw since-is (step-none (since b) b.machine machine)) in
    let none : b.request ≡ None = s.stopped is in
    let stopped : b.run ≡ Stopped → b.request ≡ None = s.stopped in
    let follows : IsSome b.request → Follows old.older old.innermost old.is_gone (earlier new) (since new) =
    λ asked. (let no : IsSome {T = StepRequest} None = rw none at asked in cc) in
    let above : IsSome b.request → AtLeast machine.regs.sp (live (since new)) =
    λ asked. (let no : IsSome {T = StepRequest} None = rw none at asked in cc) in
    search rules
