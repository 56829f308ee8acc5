use Rattle.std.proofs.Common.{rules}
use Rattle.i80_exec.proofs.ArmingLemmas.{never_arming}
use Rattle.i80_exec.proofs.machine.Machine.step_c0.Goals as goal
use Rattle.i80_exec.proofs.machine.Machine.step_c0.Goals.{
  in-192,
  in-193,
  in-194,
  in-195,
  in-196,
  in-197,
  in-198,
  in-199,
  in-200,
  in-201,
  in-202,
  in-203,
  in-204,
  in-205,
  in-206,
  in-207,
  in-208,
  in-209,
  in-210,
  in-212,
  in-213,
  in-214,
  in-215,
  in-216,
  in-217,
  in-218,
  in-220,
  in-221,
  in-222,
  in-223,
}

pub returns-clause-settles : goal.returns-clause-settles
returns-clause-settles c =
    elim c.match-opcode.branch [
      | in-192 w ↦ search (rules, never_arming)
      | in-193 w ↦ search (rules, never_arming)
      | in-194 w ↦ search (rules, never_arming)
      | in-195 w ↦ search (rules, never_arming)
      | in-196 w ↦ search (rules, never_arming)
      | in-197 w ↦ search (rules, never_arming)
      | in-198 w ↦ search (rules, never_arming)
      | in-199 w ↦ search (rules, never_arming)
      | in-200 w ↦ search (rules, never_arming)
      | in-201 w ↦ search (rules, never_arming)
      | in-202 w ↦ search (rules, never_arming)
      | in-203 w ↦ search (rules, never_arming)
      | in-204 w ↦ search (rules, never_arming)
      | in-205 w ↦ search (rules, never_arming)
      | in-206 w ↦ search (rules, never_arming)
      | in-207 w ↦ search (rules, never_arming)
      | in-208 w ↦ search (rules, never_arming)
      | in-209 w ↦ search (rules, never_arming)
      | in-210 w ↦ search (rules, never_arming)
      | in-212 w ↦ search (rules, never_arming)
      | in-213 w ↦ search (rules, never_arming)
      | in-214 w ↦ search (rules, never_arming)
      | in-215 w ↦ search (rules, never_arming)
      | in-216 w ↦ search (rules, never_arming)
      | in-217 w ↦ search (rules, never_arming)
      | in-218 w ↦ search (rules, never_arming)
      | in-220 w ↦ search (rules, never_arming)
      | in-221 w ↦ search (rules, never_arming)
      | in-222 w ↦ search (rules, never_arming)
      | in-223 w ↦ search (rules, never_arming)
    ]
