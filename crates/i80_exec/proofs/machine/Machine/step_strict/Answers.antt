use Rattle.std.proofs.Common.{◌∙◌, ap, inl, inr}
use Rattle.i80_base.specs.Rows.{row}
use Rattle.i80_exec.specs.Step.{row_moves_sp}
use Rattle.i80_exec.proofs.PortLemmas.{outcome_without_port}
use Rattle.i80_exec.proofs.machine.Machine.step_strict.Goals as goal

pub returns : goal.returns
returns g c = record {
  outcome =
      elim c.step_in_group.ensures.outcome [
        | inl w ↦ outcome_without_port (row c.args.opcode) _ _ _ _ _ w.0 (ap g.P.Ports.operations w.1)
            (ap g.P.Ports.state w.1) (ap g.P.Ports.spare w.1)
        | inr w ↦ w
      ];
  settles = c.step_in_group.ensures.settles;
  moved = c.step_in_group.ensures.moved ∙ ap (λ n. row_moves_sp (row n)) c.requires.opcode;
}
