use Rattle.std.proofs.Common.{rules}
use Rattle.i80_exec.proofs.ArmingLemmas.{never_arming}
use Rattle.i80_exec.proofs.machine.Machine.step_20.Goals as goal
use Rattle.i80_exec.proofs.machine.Machine.step_20.Goals.{
  in-32,
  in-33,
  in-34,
  in-35,
  in-36,
  in-37,
  in-38,
  in-39,
  in-40,
  in-41,
  in-42,
  in-43,
  in-44,
  in-45,
  in-46,
  in-47,
  in-48,
  in-49,
  in-50,
  in-51,
  in-52,
  in-53,
  in-54,
  in-55,
  in-56,
  in-57,
  in-58,
  in-59,
  in-60,
  in-61,
  in-62,
  in-63,
}

pub returns-clause-settles : goal.returns-clause-settles
returns-clause-settles c =
    elim c.match-opcode.branch [
      | in-32 w ↦ search (rules, never_arming)
      | in-33 w ↦ search (rules, never_arming)
      | in-34 w ↦ search (rules, never_arming)
      | in-35 w ↦ search (rules, never_arming)
      | in-36 w ↦ search (rules, never_arming)
      | in-37 w ↦ search (rules, never_arming)
      | in-38 w ↦ search (rules, never_arming)
      | in-39 w ↦ search (rules, never_arming)
      | in-40 w ↦ search (rules, never_arming)
      | in-41 w ↦ search (rules, never_arming)
      | in-42 w ↦ search (rules, never_arming)
      | in-43 w ↦ search (rules, never_arming)
      | in-44 w ↦ search (rules, never_arming)
      | in-45 w ↦ search (rules, never_arming)
      | in-46 w ↦ search (rules, never_arming)
      | in-47 w ↦ search (rules, never_arming)
      | in-48 w ↦ search (rules, never_arming)
      | in-49 w ↦ search (rules, never_arming)
      | in-50 w ↦ search (rules, never_arming)
      | in-51 w ↦ search (rules, never_arming)
      | in-52 w ↦ search (rules, never_arming)
      | in-53 w ↦ search (rules, never_arming)
      | in-54 w ↦ search (rules, never_arming)
      | in-55 w ↦ search (rules, never_arming)
      | in-56 w ↦ search (rules, never_arming)
      | in-57 w ↦ search (rules, never_arming)
      | in-58 w ↦ search (rules, never_arming)
      | in-59 w ↦ search (rules, never_arming)
      | in-60 w ↦ search (rules, never_arming)
      | in-61 w ↦ search (rules, never_arming)
      | in-62 w ↦ search (rules, never_arming)
      | in-63 w ↦ search (rules, never_arming)
    ]
