-- The board a lab represents after its run was put back.
use Rattle.std.proofs.Common.{◌≡◌, ◌≤◌, List, [], true, false, None, length, ap, sym, ◌∙◌}
use Rattle.std.proofs.Common.{rules, arith}
use Rattle.std.proofs.lemmas.List.{drop_all}
use Rattle.i80_exec.specs.State.{MachineState}
use Rattle.i80_devs.specs.Past as devices
use Rattle.lab_frames.specs.declared.frame.Frame.{Frame}
use Rattle.lab_core.specs.declared.run_state.RunState.TheVariants.{Running, Stopped}
use Rattle.lab_core.specs.Board.{Board}
use Rattle.lab_core.specs.Stops.{since, has_step}
use Rattle.lab_core.specs.Labs.{LabState, RepresentsBoard}
use Rattle.lab_core.specs.Moments.{MomentState, IsMomentOf, put_back, after_hold}

pub stands_put_back : (old : LabState) (was now : Board) (m : MomentState) (machine : MachineState)
    (panel : devices.DeviceState) (frames : List Frame)
    → IsMomentOf m was → RepresentsBoard old now
    → machine ≡ m.machine → panel ≡ record { panel = m.devices.panel; operations = []; spare = 0 }
    → frames ≡ m.frames
    → RepresentsBoard (record old {
      machine = machine;
      devices = panel;
      frames = frames;
      is_halted = m.is_halted;
      is_attached = false;
      is_resumed = true;
      has_moved = false;
      request = None;
      run = Running;
    }) (put_back was now)
stands_put_back old was now m machine panel frames i s machine-is panel-is frames-are =
    let machine' = machine-is ∙ i.machine in
    let panel' = ap (λ (d : devices.DeviceState). d.panel) panel-is ∙ i.devices in
    let none = ap (λ (d : devices.DeviceState). d.operations) panel-is in
    let frames' = frames-are ∙ i.frames in
    let halted = i.is_halted in
    let moved : false ≡ has_step (since (put_back was now)) =
    sym (ap has_step (drop_all (length was.trace) was.trace (omega arith))) in
    let within : length was.trace ≤ length was.trace = omega arith in
    search rules

pub stands_held : (old : LabState) (b : Board) → RepresentsBoard old b
    → RepresentsBoard (record old {
      is_attached = true;
      is_resumed = true;
      has_moved = false;
      request = None;
      run = Stopped;
    }) (after_hold b)
stands_held old b s =
    let moved : false ≡ has_step (since (after_hold b)) =
    sym (ap has_step (drop_all (length b.trace) b.trace (omega arith))) in
    let within : length b.trace ≤ length b.trace = omega arith in
    search rules
