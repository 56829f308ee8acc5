use Rattle.std.proofs.Common.{rules}
use Rattle.i80_exec.proofs.ArmingLemmas.{never_arming}
use Rattle.i80_exec.proofs.machine.Machine.step_e0.Goals as goal
use Rattle.i80_exec.proofs.machine.Machine.step_e0.Goals.{
  in-224,
  in-225,
  in-226,
  in-227,
  in-228,
  in-229,
  in-230,
  in-231,
  in-232,
  in-233,
  in-234,
  in-235,
  in-236,
  in-237,
  in-238,
  in-239,
  in-240,
  in-241,
  in-242,
  in-243,
  in-244,
  in-245,
  in-246,
  in-247,
  in-248,
  in-249,
  in-250,
  in-251,
  in-252,
  in-253,
  in-254,
  in-255,
}

pub returns-clause-settles : goal.returns-clause-settles
returns-clause-settles c =
    elim c.match-opcode.branch [
      | in-224 w ↦ search (rules, never_arming)
      | in-225 w ↦ search (rules, never_arming)
      | in-226 w ↦ search (rules, never_arming)
      | in-227 w ↦ search (rules, never_arming)
      | in-228 w ↦ search (rules, never_arming)
      | in-229 w ↦ search (rules, never_arming)
      | in-230 w ↦ search (rules, never_arming)
      | in-231 w ↦ search (rules, never_arming)
      | in-232 w ↦ search (rules, never_arming)
      | in-233 w ↦ search (rules, never_arming)
      | in-234 w ↦ search (rules, never_arming)
      | in-235 w ↦ search (rules, never_arming)
      | in-236 w ↦ search (rules, never_arming)
      | in-237 w ↦ search (rules, never_arming)
      | in-238 w ↦ search (rules, never_arming)
      | in-239 w ↦ search (rules, never_arming)
      | in-240 w ↦ search (rules, never_arming)
      | in-241 w ↦ search (rules, never_arming)
      | in-242 w ↦ search (rules, never_arming)
      | in-243 w ↦ search (rules, never_arming)
      | in-244 w ↦ search (rules, never_arming)
      | in-245 w ↦ search (rules, never_arming)
      | in-246 w ↦ search (rules, never_arming)
      | in-247 w ↦ search (rules, never_arming)
      | in-248 w ↦ search (rules, never_arming)
      | in-249 w ↦ search (rules, never_arming)
      | in-250 w ↦ search (rules, never_arming)
      | in-251 w ↦ search (rules, never_arming)
      | in-252 w ↦ search (rules, never_arming)
      | in-253 w ↦ search (rules, never_arming)
      | in-254 w ↦ search (rules, never_arming)
      | in-255 w ↦ search (rules, never_arming)
    ]
