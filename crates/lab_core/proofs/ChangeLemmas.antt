-- Changes by hand in any state of the run.
use Rattle.std.proofs.Common.{◌≡◌, ℕ, ◌+◌, ◌%◌, ◌≤◌, List, [], ◌∷◌, ◌++◌, Option, Some, None, not, ◌&&◌}
use Rattle.std.proofs.Common.{Bool, true, false, length, refl, sym, ap, nat_lt}
use Rattle.std.proofs.Common.{◌∙◌, subst, rules, arith, length-append}
use Rattle.std.proofs.lemmas.Bool.{ltb-false}
use Rattle.std.proofs.lemmas.List.{take-append-le, drop-append-le}
use Rattle.std.proofs.lemmas.List.Sums.{fold-append}
use Rattle.std.specs.Option.{IsSome, unwrap_or}
use Rattle.std.specs.List.{filter}
use Rattle.i80_exec.specs.declared.registers.Registers.{Registers}
use Rattle.i80_exec.specs.State.{MachineState, with_byte, with_regs}
use Rattle.lab_frames.specs.declared.frame.Frame.{Frame}
use Rattle.lab_frames.specs.Live.{Entry, Poke, ends, live, stays}
use Rattle.lab_frames.specs.Frames.{AtLeast}
use Rattle.lab_frames.proofs.LiveLemmas.{live-poke, filter-stays-append}
use Rattle.lab_core.specs.declared.run_state.RunState.TheVariants.{Stopped}
use Rattle.lab_core.specs.Board.{Board}
use Rattle.lab_core.specs.Stops.{earlier, since, has_step, innermost, is_gone}
use Rattle.lab_core.specs.Slices.{ends_in_halt, halts}
use Rattle.lab_core.specs.Events.{changed_to}
use Rattle.lab_core.specs.declared.event.StepRequest.{StepRequest}
use Rattle.lab_core.specs.Changes.{with_bytes, after_write, request_left, request_after, after_registers}
use Rattle.lab_core.specs.Labs.{LabState, RepresentsBoard, Follows}
use Rattle.lab_core.proofs.StandsLemmas.{step-none}

-- ---- bytes

-- addresses wrap
pub bytes-wrapped : (address : ℕ) (bytes : List ℕ) (m : MachineState)
    → with_bytes (address % 65536) bytes m ≡ with_bytes address bytes m
bytes-wrapped address [] m = refl
bytes-wrapped address (byte ∷ bytes) m =
    let again : address % 65536 % 65536 ≡ address % 65536 = omega arith in
    let next : (address % 65536 + 1) % 65536 ≡ (address + 1) % 65536 = omega arith in
    rw again (sym (bytes-wrapped (address % 65536 + 1) bytes (with_byte m address byte))
    ∙ ap (λ a. with_bytes a bytes (with_byte m address byte)) next
    ∙ bytes-wrapped (address + 1) bytes (with_byte m address byte))

pub bytes-regs : (address : ℕ) (bytes : List ℕ) (m : MachineState)
    → (with_bytes address bytes m).regs ≡ m.regs
bytes-regs address [] m = refl
bytes-regs address (byte ∷ bytes) m = bytes-regs (address + 1) bytes (with_byte m address byte)

-- ---- a change by hand ends no frame

filter-poke : (m m' : MachineState) (fs : List Frame) → filter (stays (Poke m m' ∷ [])) fs ≡ fs
filter-poke m m' [] = refl
filter-poke m m' (f ∷ fs) = ap (λ r. f ∷ r) (filter-poke m m' fs)

gone-poke : (frame : Option Frame) (entries : List Entry) (m m' : MachineState)
    → is_gone frame (entries ++ Poke m m' ∷ []) ≡ is_gone frame entries
gone-poke None entries m m' = refl
gone-poke (Some f) entries m m' = ap not (stays-poke entries f)
  where
    stays-poke : (entries : List Entry) (f : Frame) → stays (entries ++ Poke m m' ∷ []) f ≡ stays entries f
    stays-poke [] f = refl
    stays-poke (e ∷ entries) f = ap (λ rest. not (ends e f) && rest) (stays-poke entries f)

at_least-lower : (low high : ℕ) (fs : List Frame) → low ≤ high → AtLeast high fs → AtLeast low fs
at_least-lower low high [] under all = tt
at_least-lower low high (f ∷ fs) under all =
    (let slot = all.0 in omega arith, at_least-lower low high fs under all.1)

-- The lab after a change by hand, if no Step is pending or SP doesn't rise.
pub stands_changed : (old : LabState) (b : Board) (machine : MachineState) → RepresentsBoard old b
    → (IsSome b.request → machine.regs.sp ≤ b.machine.regs.sp)
    → RepresentsBoard (record old { machine = machine }) (changed_to machine b)
stands_changed old b machine s same =
    let entry : Entry = Poke b.machine machine in
    let new : Board = changed_to machine b in
    let frames-are : old.frames ≡ live (b.trace ++ entry ∷ []) =
    s.frames ∙ sym (live-poke b.trace b.machine machine) in
    let halted : old.is_halted ≡ ends_in_halt (b.trace ++ entry ∷ []) =
    s.is_halted ∙ sym (fold-append halts false b.trace (entry ∷ [])) in
    let within : unwrap_or b.resumed 0 ≤ length (b.trace ++ entry ∷ []) =
    let longer-by = length-append b.trace (entry ∷ []) in let before = s.within in omega arith in
    let earlier-is : earlier new ≡ earlier b =
    take-append-le (unwrap_or b.resumed 0) b.trace (entry ∷ []) s.within in
    let since-is : since new ≡ since b ++ entry ∷ [] =
    drop-append-le (unwrap_or b.resumed 0) b.trace (entry ∷ []) s.within in
    let moves : old.has_moved ≡ has_step (since new) =
    s.has_moved ∙ sym (rw since-is (step-none (since b) b.machine machine)) in
    let stopped : b.run ≡ Stopped → b.request ≡ None = s.stopped in
    let left : filter (stays (since b ++ entry ∷ [])) (live (earlier b))
    ≡ filter (stays (since b)) (live (earlier b)) =
    filter-stays-append (since b) (entry ∷ []) (live (earlier b))
    ∙ filter-poke b.machine machine (filter (stays (since b)) (live (earlier b))) in
    let follows : IsSome b.request → Follows old.older old.innermost old.is_gone (earlier new) (since new) =
    λ asked. (let f = s.follows asked in record {
      older_is = rw (earlier-is, since-is, left) f.older_is;
      innermost_is = rw earlier-is f.innermost_is;
      gone_is =
          rw (earlier-is, since-is, gone-poke (innermost (live (earlier b))) (since b) b.machine machine)
          f.gone_is;
    }) in
    let above : IsSome b.request → AtLeast machine.regs.sp (live (since new)) =
    λ asked. rw (since-is, live-poke (since b) b.machine machine)
    (at_least-lower machine.regs.sp b.machine.regs.sp (live (since b)) (same asked) (s.above asked)) in
    search rules

pub stands_written : (old : LabState) (b : Board) (address : ℕ) (bytes : List ℕ) (machine : MachineState)
    → RepresentsBoard old b → machine ≡ with_bytes address bytes old.machine
    → RepresentsBoard (record old { machine = machine }) (after_write address bytes b)
stands_written old b address bytes machine s is =
    let machine-is : machine ≡ with_bytes address bytes b.machine =
    is ∙ ap (λ m. with_bytes address bytes m) s.machine in
    let M : MachineState → Type 0 =
    λ m. RepresentsBoard (record old { machine = m }) (after_write address bytes b) in
    let N : ℕ → Type 0 = λ n. n ≤ b.machine.regs.sp in
    subst M (sym machine-is) (stands_changed old b (with_bytes address bytes b.machine) s
    (λ asked. subst N (sym (ap (λ (r : Registers). r.sp) (bytes-regs address bytes b.machine)))
    (omega arith)))

dropped : (old : LabState) (b : Board) → RepresentsBoard old b
    → RepresentsBoard (record old { request = None }) (record b { request = None })
dropped old b s = search rules

stands_left : (rises : Bool) (b : Board) (old : LabState) → RepresentsBoard old b
    → RepresentsBoard (record old { request = request_left rises b.request })
    (record b { request = request_left rises b.request })
stands_left true b old s = dropped old b s
stands_left false b old s = subst (λ r. RepresentsBoard (record old { request = r }) b) s.request s

not_raised : (low high : ℕ) (rises : Bool) (request : Option StepRequest) → nat_lt low high ≡ rises
    → IsSome (request_left rises request) → high ≤ low
not_raised low high true request is left = absurd cc
not_raised low high false request is left = ltb-false low high is

pub stands_registers : (old : LabState) (b : Board) (registers : Registers) (machine : MachineState)
    (request : Option StepRequest) → RepresentsBoard old b → machine ≡ with_regs old.machine registers
    → request ≡ request_left (nat_lt old.machine.regs.sp registers.sp) old.request
    → RepresentsBoard (record old { machine = machine; request = request }) (after_registers registers b)
stands_registers old b registers machine request s is request-is =
    let machine-is : machine ≡ with_regs b.machine registers =
    is ∙ ap (λ (m : MachineState). with_regs m registers) s.machine in
    let left : Option StepRequest = request_after registers b in
    let left-is : request ≡ left =
    request-is
    ∙ (ap (λ (m : MachineState). request_left (nat_lt m.regs.sp registers.sp) old.request) s.machine
    ∙ ap (λ r. request_left (nat_lt b.machine.regs.sp registers.sp) r) s.request) in
    let M : MachineState → Type 0 =
    λ m. RepresentsBoard (record old { machine = m; request = left }) (after_registers registers b) in
    let R : Option StepRequest → Type 0 =
    λ r. RepresentsBoard (record old { machine = machine; request = r }) (after_registers registers b) in
    subst R (sym left-is) (subst M (sym machine-is)
    (stands_changed _ (record b { request = left }) (with_regs b.machine registers)
    (stands_left (nat_lt b.machine.regs.sp registers.sp) b old s)
    (not_raised b.machine.regs.sp registers.sp (nat_lt b.machine.regs.sp registers.sp) b.request refl)))
