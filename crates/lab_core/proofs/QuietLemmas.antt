-- Quiet steps, and the other steps of a burst.
use Rattle.std.proofs.Common.{◌≡◌, ℕ, List, [], ◌∷◌, ◌++◌, Bool, true, false, Option, Some, None, length}
use Rattle.std.proofs.Common.{refl, sym, ap, ◌∙◌, subst, ◌⊎◌, inl, inr, ◌||◌, length-append, min, ◌+◌}
use Rattle.std.proofs.Common.{◌<◌, ◌≤◌, reverse, slice_get, arith}
use Rattle.std.proofs.Math.Bool.{and-false, or-false}
use Rattle.std.proofs.lemmas.Bool.{cases_Bool}
use Rattle.std.proofs.lemmas.Bool.Decides.{nat_tests}
use Rattle.std.proofs.lemmas.List.{reverse-append}
use Rattle.std.specs.List.{filter}
use Rattle.std.specs.Option.{option_or, IsSome, is_none}
use Rattle.i80_exec.specs.declared.registers.Stepped.{Stepped}
use Rattle.i80_exec.specs.declared.registers.Stepped.TheVariants.{Done}
use Rattle.i80_base.specs.declared.ports.PortOperation.{PortOperation}
use Rattle.i80_base.specs.declared.ports.PortOperation.TheVariants.{Out}
use Rattle.i80_exec.specs.State.{MachineState}
use Rattle.i80_exec.specs.declared.registers.Kind.{Kind}
use Rattle.i80_exec.specs.declared.registers.Kind.TheVariants as kind
use Rattle.i80_exec.specs.Step.{operation_list, is_halt, answer_of, is_arming, Settles}
use Rattle.i80_devs.specs.Past.{Operation, Port, Typed, Switches, Press, PanelState, DeviceState, panel_after}
use Rattle.lab_image.specs.Breakpoints.{is_set, is_met}
use Rattle.lab_frames.specs.declared.frame.Frame.{Frame}
use Rattle.lab_frames.specs.Live.{Entry, ended_by, live, stays}
use Rattle.lab_frames.specs.Frames.{Advances, AtLeast, LeavesOldest, TellsSp, frame_floor_of}
use Rattle.lab_frames.specs.Steps.{IsBoardStep}
use Rattle.lab_frames.proofs.FrameLemmas.{quiet-advances, quiet-oldest}
use Rattle.lab_core.specs.declared.lab.Context.{Context}
use Rattle.lab_shown.specs.declared.step.StepKind.{StepKind}
use Rattle.lab_shown.specs.declared.step.StepKind.TheVariants.{In, Over, Out as StepOut}
use Rattle.lab_core.specs.declared.event.StepRequest.{StepRequest}
use Rattle.lab_core.specs.Board.{Board, next_change, after_next_step}
use Rattle.lab_core.specs.Stops.{at_breakpoint, completes, earlier, has_step, innermost, is_done, is_gone}
use Rattle.lab_core.specs.Stops.{is_gone_after, meets_breakpoint, since}
use Rattle.lab_core.specs.Slices.{ends_in_halt, reason_before_fetch}
use Rattle.lab_core.specs.Labs.{LabState, RepresentsDuringSlice, Follows, OnlyFetchCanStop, IsLast, LooksUp}
use Rattle.lab_core.specs.Labs.{KeepsAsked, in_slice}
use Rattle.lab_core.specs.Labs.{is_done_in, is_step_done}
use Rattle.lab_core.proofs.StandsLemmas.{stands_step, over_done, parts-live}

-- ---- the panel

-- operations that latch this request, if any
abbrev latching : Option ℕ → List Operation
latching None = []
latching (Some n) = Press n ∷ []

-- operations that make this panel
abbrev past_of : PanelState → List Operation
past_of p = Typed p.waiting ∷ Switches p.switches ∷ Port (Out 2 p.lamps) ∷ latching p.latched

makes : (typed : List ℕ) (switches lamps : ℕ) (latched : Option ℕ)
    → (record { waiting = typed; switches = switches; lamps = lamps; latched = latched })
    ≡ panel_after (Typed typed ∷ Switches switches ∷ Port (Out 2 lamps) ∷ latching latched)
makes typed switches lamps None = refl
makes typed switches lamps (Some n) = refl

-- every panel has a past
pub has_past : (p : PanelState) → (past : List Operation) × (p ≡ panel_after past)
has_past p = (past_of p, makes p.waiting p.switches p.lamps p.latched)

-- a request that is latched after every past is the panel's
pub found_latched : (p : PanelState) (found : Option ℕ)
    → ((past : List Operation) → p ≡ panel_after past → found ≡ (panel_after past).latched)
    → p.latched ≡ found
found_latched p found finds =
    let past = has_past p in
    ap (λ (q : PanelState). q.latched) past.1 ∙ sym (finds past.0 past.1)

-- ---- reasons

pub or_or : {A : Type 0} (x y z : Option A) → option_or x (option_or y z) ≡ option_or (option_or x y) z
or_or None y z = refl
or_or (Some a) y z = refl

or_none : {A : Type 0} (x : Option A) → option_or x None ≡ x
or_none None = refl
or_none (Some a) = refl

-- whether a Step of this kind is done, by what the lab tracks
pub done_followed : (k : StepKind) (context : Context) (b : Board) → context.frames ≡ live b.trace
    → Follows context.older context.innermost context.is_gone (earlier b) (since b)
    → is_done_in k context ≡ is_done k (earlier b) (since b)
done_followed In context b frames-are f = refl
done_followed Over context b frames-are f =
    over_done context.frames context.older context.innermost context.is_gone b frames-are f
done_followed StepOut context b frames-are f = f.gone_is

kind_devices : (k : StepKind) (context : Context) (devices : DeviceState)
    → is_done_in k context ≡ is_done_in k (record context { devices = devices })
kind_devices In context devices = refl
kind_devices Over context devices = refl
kind_devices StepOut context devices = refl

-- devices don't matter to it
pub done-devices : (request : Option StepRequest) (context : Context) (devices : DeviceState)
    → is_step_done request context ≡ is_step_done request (record context { devices = devices })
done-devices None context devices = refl
done-devices (Some request) context devices = kind_devices request.kind context devices

-- a Step that isn't done isn't complete
completes-undone : (request : Option StepRequest) (context : Context) (b : Board)
    → context.frames ≡ live b.trace
    → (IsSome request → Follows context.older context.innermost context.is_gone (earlier b) (since b))
    → is_step_done request context ≡ false → completes request b ≡ false
completes-undone None context b frames-are follows undone = refl
completes-undone (Some request) context b frames-are follows undone =
    let not_done : is_done request.kind (earlier b) (since b) ≡ false =
    sym (done_followed request.kind context b frames-are (follows refl)) ∙ undone in
    rw not_done (and-false (has_step (since b)))

-- if only what is fetched next can end the slice, a breakpoint is the only reason before the fetch
pub only_breakpoint_stops : (lab : LabState) (machine : MachineState) (context : Context) (b : Board)
    (traffic : List PortOperation) → RepresentsDuringSlice (in_slice lab machine context) b traffic
    → OnlyFetchCanStop context → reason_before_fetch b ≡ at_breakpoint b
only_breakpoint_stops lab machine context b traffic s only_fetch =
    let no_halt : ends_in_halt b.trace ≡ false = sym s.is_halted ∙ only_fetch.goes_on in
    let P : Option StepRequest → Type 0 = λ r. completes r b ≡ false in
    let is : context.request ≡ b.request = s.request in
    let follows : IsSome context.request
    → Follows context.older context.innermost context.is_gone (earlier b) (since b)
    = λ asked. s.follows (rw is at asked) in
    let none : completes b.request b ≡ false =
    subst P is (completes-undone context.request context b s.frames follows only_fetch.undone) in
    rw (no_halt, none) (or_none (option_or (at_breakpoint b) None) ∙ or_none (at_breakpoint b))

-- if breakpoints aren't checked for, none is met
pub meets_none : (lab : LabState) (machine : MachineState) (context : Context) (b : Board)
    (traffic : List PortOperation) → RepresentsDuringSlice (in_slice lab machine context) b traffic
    → LooksUp false context → machine.regs.pc < 65536 → meets_breakpoint b ≡ false
meets_none lab machine context b traffic s (inl off) within =
    let detached : b.is_attached ≡ false = sym s.attached ∙ off in
    rw detached refl
meets_none lab machine context b traffic s (inr none) within =
    let met : is_set context.breakpoints machine.regs.pc ≡ is_met b.breakpoints b.loads b.machine.regs.pc =
    rw (← s.machine, ← s.lists) (s.met machine.regs.pc within) in
    let not_met : is_met b.breakpoints b.loads b.machine.regs.pc ≡ false = sym met ∙ none machine.regs.pc in
    rw (not_met, and-false (has_step (since b) || is_none b.resumed)) (and-false b.is_attached)

pub looks_kept : (looks : Bool) (old new : Context) → KeepsAsked old new → LooksUp looks old
    → LooksUp looks new
looks_kept true old new kept on = kept.attached ∙ on
looks_kept false old new kept (inl off) = inl (kept.attached ∙ off)
looks_kept false old new kept (inr none) = inr (λ a. rw kept.breakpoints (none a))

-- ---- a quiet step

at_least-first : (low : ℕ) (fs gs : List Frame) → AtLeast low (fs ++ gs) → AtLeast low fs
at_least-first low [] gs above = tt
at_least-first low (f ∷ fs) gs above = (above.0, at_least-first low fs gs above.1)

-- the first element of a list with one appended
first-of-more : (fs : List Frame) (x f : Frame) → slice_get (fs ++ x ∷ []) 0 ≡ Some f
    → (slice_get fs 0 ≡ Some f) ⊎ (x ≡ f)
first-of-more [] x f is = inr (cc)
first-of-more (g ∷ fs) x f is = inl is

-- the innermost frame, if it stays, isn't below the slots of the others that stay
innermost-above : (sp : ℕ) (later : List Entry) (fs : List Frame) (f : Frame) → innermost fs ≡ Some f
    → stays later f ≡ true → AtLeast sp (filter (stays later) fs) → sp ≤ f.slot
innermost-above sp later [] f is stay above = cc
innermost-above sp later (x ∷ fs) f is stay above =
    elim (first-of-more (reverse fs) x f (rw (← reverse-append (x ∷ []) fs) is)) [
      | inl inner ↦ elim (cases_Bool (stays later x)) [
        | inl here ↦ (let both = rw here at above in innermost-above sp later fs f inner stay both.1)
        | inr gone ↦ innermost-above sp later fs f inner stay (rw gone at above)
      ]
      | inr same ↦ (let here : stays later x ≡ true = rw same stay in
          let both = rw here at above in
          let low : sp ≤ x.slot = both.0 in
          rw (← same) low)
    ]

-- no quiet step ends a live frame
quiet_gone : (frame : Option Frame) (gone : Bool) (sp : ℕ) (before later : List Entry)
    → frame ≡ innermost (live before) → gone ≡ is_gone frame later
    → AtLeast sp (filter (stays later) (live before)) → gone ≡ is_gone_after gone frame Done sp
quiet_gone None gone sp before later is gone-is above = refl
quiet_gone (Some f) gone sp before later is gone-is above = elim (cases_Bool (stays later f)) [
  | inl stay ↦
      (let low : sp ≤ f.slot = innermost-above sp later (live before) f (sym is) stay above in
      let stays_on : ended_by Done sp f.slot ≡ false = grind (arith, nat_tests) in
      rw stays_on (sym (or-false gone)))
  | inr went ↦ (let was : gone ≡ true = rw went at gone-is in rw was refl)
]

-- A quiet step changes nothing that a pending Step is decided by: no older frame ends, the innermost
-- included.
record StaysFollowed (old : LabState) (sp : ℕ) : Type 0 where
  pub older : old.older ≡ min old.older (length old.frames)
  pub gone : old.is_gone ≡ is_gone_after old.is_gone old.innermost Done sp

stays_followed : (old : LabState) (b : Board) (traffic : List PortOperation) (sp : ℕ)
    → RepresentsDuringSlice old b traffic → IsSome b.request → AtLeast sp old.frames → StaysFollowed old sp
stays_followed old b traffic sp s asked above =
    let f = s.follows asked in
    let survived : List Frame = filter (stays (since b)) (live (earlier b)) in
    let all : old.frames ≡ survived ++ live (since b) = s.frames ∙ parts-live b in
    let counts : length old.frames ≡ length survived + length (live (since b)) =
    ap (λ (fs : List Frame). length fs) all ∙ length-append survived (live (since b)) in
    let A : List Frame → Type 0 = λ fs. AtLeast sp fs in
    let older-is : old.older ≡ length survived = f.older_is in
    let gone-is : old.is_gone ≡ is_gone old.innermost (since b) = rw f.innermost_is f.gone_is in
    record {
      older = omega arith;
      gone =
          quiet_gone old.innermost old.is_gone sp (earlier b) (since b) f.innermost_is gone-is
          (at_least-first sp survived (live (since b)) (subst A all above));
    }

pub stands_quiet : (old : LabState) (b : Board) (traffic : List PortOperation) (machine : MachineState)
    (devices : DeviceState) (answer : Stepped)
    → RepresentsDuringSlice old b traffic → IsBoardStep b.past old.machine old.devices machine devices answer
    → TellsSp answer old.machine.regs.sp machine.regs.sp
    → old.is_halted ≡ false → old.has_moved ≡ true → answer ≡ Done
    → AtLeast machine.regs.sp old.frames
    → RepresentsDuringSlice (record old { machine = machine; devices = devices }) (after_next_step b)
    (traffic ++ operation_list (next_change b).operation)
stands_quiet old b traffic machine devices answer s did tells goes_on has_moved done above =
    let new : LabState = record old { machine = machine; devices = devices } in
    let M : Bool → Bool → LabState = λ halts moved.
    record old { machine = machine; devices = devices; is_halted = halts; has_moved = moved } in
    let no_halt : old.is_halted ≡ is_halt answer = rw done goes_on in
    let rest : new ≡ M (is_halt answer) true
    = ap (λ h. M h old.has_moved) no_halt ∙ ap (λ h. M (is_halt answer) h) has_moved in
    let F : Stepped → Type 0 = λ a. Advances a old.machine.regs.pc machine.regs.sp old.frames old.frames in
    let O : Stepped → Type 0 = λ a. LeavesOldest a machine.regs.sp old.frames (length old.frames) in
    let stays_as : IsSome old.request → StaysFollowed old machine.regs.sp =
    λ asked. stays_followed old b traffic machine.regs.sp s (rw s.request at asked) above in
    stands_step old new b traffic answer (length old.frames) s did (record {
      rest = rest;
      frames =
          subst F (sym done) (quiet-advances old.machine.regs.pc machine.regs.sp old.frames above);
      oldest = subst O (sym done) (quiet-oldest machine.regs.sp old.frames above);
      tells = tells;
      older = λ asked. (let same = stays_as asked in same.older);
      gone = λ asked. (let same = stays_as asked in rw done same.gone);
    })

-- ---- another step of a burst

pub stands_followed : (old : LabState) (b : Board) (traffic : List PortOperation) (machine : MachineState)
    (devices : DeviceState) (frames : List Frame) (older : ℕ) (gone : Bool) (answer : Stepped) (left : ℕ)
    → RepresentsDuringSlice old b traffic → IsBoardStep b.past old.machine old.devices machine devices answer
    → TellsSp answer old.machine.regs.sp machine.regs.sp → old.has_moved ≡ true
    → Advances answer old.machine.regs.pc machine.regs.sp old.frames frames
    → LeavesOldest answer machine.regs.sp old.frames left
    → (IsSome old.request → older ≡ min old.older left)
    → (IsSome old.request → gone ≡ is_gone_after old.is_gone old.innermost answer machine.regs.sp)
    → RepresentsDuringSlice
    (record old {
      machine = machine;
      devices = devices;
      frames = frames;
      is_halted = is_halt answer;
      older = older;
      is_gone = gone;
    })
    (after_next_step b) (traffic ++ operation_list (next_change b).operation)
stands_followed old b traffic machine devices frames older gone answer left s did tells has_moved advances
    oldest older-is gone-is =
    let M : Bool → LabState = λ moved. record old {
      machine = machine;
      devices = devices;
      frames = frames;
      is_halted = is_halt answer;
      has_moved = moved;
      older = older;
      is_gone = gone;
    } in
    let rest : M old.has_moved ≡ M true = ap M has_moved in
    stands_step old (M old.has_moved) b traffic answer left s did (record {
      rest = rest;
      frames = advances;
      oldest = oldest;
      tells = tells;
      older = older-is;
      gone = gone-is;
    })

-- ---- the kinds of steps in a burst

pub quiet_done : (k : Kind) (m : MachineState) → (k ≡ kind.Quiet) ⊎ (k ≡ kind.Moved) → answer_of k m ≡ Done
quiet_done k m (inl quiet) = rw quiet refl
quiet_done k m (inr moved) = rw moved refl

pub quiet_settled : (k : Kind) (m m' : MachineState) → (k ≡ kind.Quiet) ⊎ (k ≡ kind.Moved) → Settles k m m'
    → is_arming m'.regs.interrupts ≡ false
quiet_settled k m m' (inl quiet) settles = let s = rw quiet at settles in s.1
quiet_settled k m m' (inr moved) settles = rw moved at settles

pub quiet_keeps_sp : (k : Kind) (m m' : MachineState) → k ≡ kind.Quiet → Settles k m m'
    → m'.regs.sp ≡ m.regs.sp
quiet_keeps_sp k m m' quiet settles = let s = rw quiet at settles in s.0

pub not_last : (k : Kind) → (k ≡ kind.Armed → ⊥) → (k ≡ kind.Halted → ⊥) → IsLast k → ⊥
not_last k no_arming no_halt (inl armed) = no_arming armed
not_last k no_arming no_halt (inr halted) = no_halt halted

pub no_halt : (k : Kind) (m : MachineState) → (IsLast k → ⊥) → is_halt (answer_of k m) ≡ false
no_halt kind.Quiet m on = refl
no_halt kind.Moved m on = refl
no_halt kind.Armed m on = absurd (on (inl refl))
no_halt kind.Called m on = refl
no_halt kind.Returned m on = refl
no_halt kind.Halted m on = absurd (on (inr refl))
no_halt kind.Undefined m on = refl

pub no_arming : (k : Kind) (m m' : MachineState) → (IsLast k → ⊥) → Settles k m m'
    → is_arming m'.regs.interrupts ≡ false
no_arming kind.Quiet m m' on settles = settles.1
no_arming kind.Moved m m' on settles = settles
no_arming kind.Armed m m' on settles = absurd (on (inl refl))
no_arming kind.Called m m' on settles = settles
no_arming kind.Returned m m' on settles = settles
no_arming kind.Halted m m' on settles = settles
no_arming kind.Undefined m m' on settles = settles

-- ---- if no slot is below SP, SP is below the frame floor

at_least-append : (low : ℕ) (fs gs : List Frame) → AtLeast low fs → AtLeast low gs → AtLeast low (fs ++ gs)
at_least-append low [] gs above rest = rest
at_least-append low (f ∷ fs) gs above rest = (above.0, at_least-append low fs gs above.1 rest)

at_least-reverse : (low : ℕ) (fs : List Frame) → AtLeast low fs → AtLeast low (reverse fs)
at_least-reverse low [] above = tt
at_least-reverse low (f ∷ fs) above =
    let A : List Frame → Type 0 = λ xs. AtLeast low xs in
    subst A (sym (reverse-append (f ∷ []) fs))
    (at_least-append low (reverse fs) (f ∷ []) (at_least-reverse low fs above.1) (above.0, tt))

within-first : (sp : ℕ) (fs : List Frame) → sp < 65536 → AtLeast sp fs → sp < frame_floor_of (slice_get fs 0)
within-first sp [] small above = small
within-first sp (f ∷ fs) small above = let low : sp ≤ f.slot = above.0 in omega arith

pub below_frame_floor : (sp frame_floor : ℕ) (fs : List Frame) → sp < 65536 → AtLeast sp fs
    → frame_floor ≡ frame_floor_of (slice_get (reverse fs) 0) → sp < frame_floor
below_frame_floor sp frame_floor fs small above is =
    rw is (within-first sp (reverse fs) small (at_least-reverse sp fs above))
