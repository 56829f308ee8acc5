use Rattle.std.proofs.Common.{refl, sym, ◌∙◌}
use Rattle.zmtp_wire.specs.Commands.{NoReady}
use Rattle.zmtp_wire.proofs.CommandLemmas.{no_ready, other_command, another}
use Rattle.zmtp_wire.proofs.command.read_ready.Goals as goal

pub returns-in_default-clause-err : goal.returns-in_default-clause-err
returns-in_default-clause-err c = NoReady refl refl (no_ready c.args.body.now c.in_default.ensures.none)

pub returns-then-ne-clause-err : goal.returns-then-ne-clause-err
returns-then-ne-clause-err c =
    NoReady refl refl
    (other_command c.args.body.now c.in-Some.field-0.name.now c.in-Some.field-0.others.now
    c.in-Some.ensures.found
    (λ e. another c.in-Some.field-0.name.now c.as_slice.result.now c.if-ne.ensures (e
    ∙ sym c.as_slice.ensures)))
