-- The lab after a step of a burst that wasn't quiet, by the update it owes.
use Rattle.std.proofs.Common.{◌≡◌, ◌⊎◌, ℕ, List, ◌++◌, true, false, Some, None, sym, ap, ◌∙◌, subst, inl, inr}
use Rattle.std.specs.Option.{IsSome}
use Rattle.i80_exec.specs.declared.registers.Stepped.{Stepped}
use Rattle.i80_base.specs.declared.ports.PortOperation.{PortOperation}
use Rattle.i80_exec.specs.State.{MachineState}
use Rattle.i80_exec.specs.declared.registers.Kind.{Kind}
use Rattle.i80_exec.specs.Step.{operation_list, answer_of, is_halt, Settles}
use Rattle.i80_devs.specs.Past.{DeviceState}
use Rattle.lab_frames.specs.Frames.{TellsSp}
use Rattle.lab_frames.specs.Steps.{IsBoardStep}
use Rattle.lab_core.specs.declared.lab.Context.{Context}
use Rattle.lab_core.specs.declared.lab.burst.BurstStep.{BurstStep}
use Rattle.lab_core.specs.declared.lab.burst.BurstStep.TheVariants.{Within, Last, Ended}
use Rattle.lab_core.specs.Board.{Board, next_change, after_next_step}
use Rattle.lab_core.specs.Slices.{end_by_undefined}
use Rattle.lab_core.specs.Labs.{LabState, RepresentsDuringSlice, IsInBurst, GoesOn, IsMade}
use Rattle.lab_core.specs.Labs.{FollowsBurstStep, IsLast, EndsBurst, in_slice, is_step_done}
use Rattle.lab_core.specs.Labs.{ending_of}
use Rattle.lab_core.proofs.StandsLemmas.{finds_undefined, finds_no_undefined, stands_undefined}
use Rattle.lab_core.proofs.QuietLemmas.{stands_followed, no_halt, no_arming}

module _ (lab : LabState) (b : Board) (traffic : List PortOperation) (machine machine' : MachineState)
    (old : Context) (devices : DeviceState) (answer : Stepped)
    (s : RepresentsDuringSlice (in_slice lab machine old) b traffic)
    (did : IsBoardStep b.past machine old.devices machine' devices answer) where
  pub finds_owed : (site : ℕ) (new : Context) (result : BurstStep) → site ≡ machine.regs.pc
      → FollowsBurstStep answer site machine'.regs.sp (record old { devices = devices }) new result
      → ending_of result ≡ end_by_undefined b
  finds_owed site new (Within frame_floor) is made =
      finds_no_undefined (in_slice lab machine old) b traffic machine' devices answer s did made.defined
  finds_owed site new Last is made =
      finds_no_undefined (in_slice lab machine old) b traffic machine' devices answer s did made.defined
  finds_owed site new (Ended outcome) is none =
      let step = subst (IsBoardStep b.past machine old.devices machine' devices) none.answer_is did in
      ap Some none.outcome_is
      ∙ finds_undefined (in_slice lab machine old) b traffic machine' devices none.opcode site s step is

  pub keeps_owed : (site : ℕ) (new : Context) (result : BurstStep)
      → FollowsBurstStep answer site machine'.regs.sp (record old { devices = devices }) new result
      → IsSome (ending_of result) → RepresentsDuringSlice (in_slice lab machine' new) b traffic
  keeps_owed site new (Within frame_floor) made some = cc
  keeps_owed site new Last made some = cc
  keeps_owed site new (Ended outcome) none some =
      let step = subst (IsBoardStep b.past machine old.devices machine' devices) none.answer_is did in
      let S : Context → Type 0 = λ c. RepresentsDuringSlice (in_slice lab machine' c) b traffic in
      subst S (sym none.kept)
      (stands_undefined (in_slice lab machine old) b traffic machine' devices none.opcode s step)

  made_advances : (site : ℕ) (new : Context) → site ≡ machine.regs.pc
      → TellsSp answer machine.regs.sp machine'.regs.sp → old.has_moved ≡ true
      → IsMade answer site machine'.regs.sp (record old { devices = devices }) new
      → RepresentsDuringSlice (in_slice lab machine' new) (after_next_step b) (traffic
      ++ operation_list (next_change b).operation)
  made_advances site new is tells has_moved made =
      let S : Context → Type 0 = λ c. RepresentsDuringSlice (in_slice lab machine' c) (after_next_step b)
      (traffic ++ operation_list (next_change b).operation) in
      subst S (sym made.rest)
      (stands_followed (in_slice lab machine old) b traffic machine' devices new.frames new.older new.is_gone
      answer
      made.left s did tells has_moved (rw is at made.frames) made.oldest made.older made.gone)

  pub advances_owed : (site : ℕ) (new : Context) (result : BurstStep) → site ≡ machine.regs.pc
      → TellsSp answer machine.regs.sp machine'.regs.sp → old.has_moved ≡ true
      → FollowsBurstStep answer site machine'.regs.sp (record old { devices = devices }) new result
      → ending_of result ≡ None
      → RepresentsDuringSlice (in_slice lab machine' new) (after_next_step b) (traffic
      ++ operation_list (next_change b).operation)
  advances_owed site new (Within frame_floor) is tells has_moved made none =
      made_advances site new is tells has_moved made
  advances_owed site new Last is tells has_moved made none =
      made_advances site new is tells has_moved made
  advances_owed site new (Ended outcome) is tells has_moved made none = cc

made_in_burst : (kind : Kind) (machine machine' : MachineState) (old new : Context) (devices : DeviceState)
    (site was frame_floor : ℕ) → IsInBurst was machine old → devices.panel.latched ≡ None
    → Settles kind machine machine'
    → IsMade (answer_of kind machine') site machine'.regs.sp (record old { devices = devices }) new
    → GoesOn kind machine'.regs.sp frame_floor new → IsInBurst frame_floor machine' new
made_in_burst kind machine machine' old new devices site was frame_floor ready unlatched settles made on =
    let H : Context → Type 0 = λ c. c.is_halted ≡ false in
    let M : Context → Type 0 = λ c. c.has_moved ≡ true in
    let L : Context → Type 0 = λ c. c.devices.panel.latched ≡ None in
    record {
      only_fetch = record {
        goes_on = subst H (sym made.rest) (no_halt kind machine' on.not_last);
        has_moved = subst M (sym made.rest) ready.only_fetch.has_moved;
        undone = on.undone;
        unlatched = subst L (sym made.rest) unlatched;
      };
      settled = no_arming kind machine machine' on.not_last settles;
      within = on.within;
      above = on.above;
    }

-- the burst continues if the step's result says so
pub owed_in_burst : (kind : Kind) (machine machine' : MachineState) (old new : Context)
    (devices : DeviceState) (site was frame_floor : ℕ) (result : BurstStep)
    → IsInBurst was machine old → devices.panel.latched ≡ None → Settles kind machine machine'
    → FollowsBurstStep (answer_of kind machine') site machine'.regs.sp (record old {
      devices =
          devices;
    }) new result
    → ((now : ℕ) → result ≡ Within now → GoesOn kind machine'.regs.sp now new)
    → result ≡ Within frame_floor → IsInBurst frame_floor machine' new
owed_in_burst kind machine machine' old new devices site was frame_floor (Within now) ready unlatched settles
    made on is =
    made_in_burst kind machine machine' old new devices site was frame_floor ready unlatched settles made
    (on frame_floor is)
owed_in_burst kind machine machine' old new devices site was frame_floor Last ready unlatched settles
    made on is = cc
owed_in_burst kind machine machine' old new devices site was frame_floor (Ended outcome) ready unlatched
    settles none on is = cc

halts : (kind : Kind) (machine machine' : MachineState) (new : Context) → Settles kind machine machine'
    → new.is_halted ≡ is_halt (answer_of kind machine')
    → IsLast kind ⊎ (is_step_done new.request new ≡ true) → EndsBurst machine' new
halts kind machine machine' new settles halted (inl (inl armed)) = inl (rw armed at settles)
halts kind machine machine' new settles halted (inl (inr halt)) = inr (inl (rw halt at halted))
halts kind machine machine' new settles halted (inr done) = inr (inr (inl done))

-- the burst ends if the step's result says so
pub owed_ends : (kind : Kind) (machine machine' : MachineState) (old new : Context) (devices : DeviceState)
    (site : ℕ) (result : BurstStep) → Settles kind machine machine'
    → FollowsBurstStep (answer_of kind machine') site machine'.regs.sp (record old {
      devices =
          devices;
    }) new result
    → (result ≡ Last → IsLast kind ⊎ (is_step_done new.request new ≡ true))
    → result ≡ Last → EndsBurst machine' new
owed_ends kind machine machine' old new devices site (Within now) settles made last is = cc
owed_ends kind machine machine' old new devices site Last settles made last is =
    halts kind machine machine' new settles (ap (λ (c : Context). c.is_halted) made.rest) (last is)
owed_ends kind machine machine' old new devices site (Ended outcome) settles none last is = cc
