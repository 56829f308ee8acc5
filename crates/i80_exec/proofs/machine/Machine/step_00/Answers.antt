use Rattle.std.proofs.Common.{rules}
use Rattle.i80_exec.proofs.ArmingLemmas.{never_arming}
use Rattle.i80_exec.proofs.machine.Machine.step_00.Goals as goal
use Rattle.i80_exec.proofs.machine.Machine.step_00.Goals.{
  in-0,
  in-1,
  in-2,
  in-3,
  in-4,
  in-5,
  in-6,
  in-7,
  in-8,
  in-9,
  in-10,
  in-11,
  in-12,
  in-13,
  in-14,
  in-15,
  in-16,
  in-17,
  in-18,
  in-19,
  in-20,
  in-21,
  in-22,
  in-23,
  in-24,
  in-25,
  in-26,
  in-27,
  in-28,
  in-29,
  in-30,
  in-31,
}

pub returns-clause-settles : goal.returns-clause-settles
returns-clause-settles c =
    elim c.match-opcode.branch [
      | in-0 w ↦ search (rules, never_arming)
      | in-1 w ↦ search (rules, never_arming)
      | in-2 w ↦ search (rules, never_arming)
      | in-3 w ↦ search (rules, never_arming)
      | in-4 w ↦ search (rules, never_arming)
      | in-5 w ↦ search (rules, never_arming)
      | in-6 w ↦ search (rules, never_arming)
      | in-7 w ↦ search (rules, never_arming)
      | in-8 w ↦ search (rules, never_arming)
      | in-9 w ↦ search (rules, never_arming)
      | in-10 w ↦ search (rules, never_arming)
      | in-11 w ↦ search (rules, never_arming)
      | in-12 w ↦ search (rules, never_arming)
      | in-13 w ↦ search (rules, never_arming)
      | in-14 w ↦ search (rules, never_arming)
      | in-15 w ↦ search (rules, never_arming)
      | in-16 w ↦ search (rules, never_arming)
      | in-17 w ↦ search (rules, never_arming)
      | in-18 w ↦ search (rules, never_arming)
      | in-19 w ↦ search (rules, never_arming)
      | in-20 w ↦ search (rules, never_arming)
      | in-21 w ↦ search (rules, never_arming)
      | in-22 w ↦ search (rules, never_arming)
      | in-23 w ↦ search (rules, never_arming)
      | in-24 w ↦ search (rules, never_arming)
      | in-25 w ↦ search (rules, never_arming)
      | in-26 w ↦ search (rules, never_arming)
      | in-27 w ↦ search (rules, never_arming)
      | in-28 w ↦ search (rules, never_arming)
      | in-29 w ↦ search (rules, never_arming)
      | in-30 w ↦ search (rules, never_arming)
      | in-31 w ↦ search (rules, never_arming)
    ]
