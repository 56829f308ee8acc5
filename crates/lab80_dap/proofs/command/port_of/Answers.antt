use Rattle.std.proofs.Common.{arith}
use Rattle.std.specs.Str.Parse.{without_leading_plus}
use Rattle.lab80_dap.proofs.PortLemmas.{some_port, no_port}
use Rattle.lab80_dap.proofs.command.port_of.Goals as goal

pub returns-in-Ok : goal.returns-in-Ok
returns-in-Ok c =
    let told = c.in-Ok.ensures.value.0 in
    rw told.1 (some_port (without_leading_plus c.args.word.now) told.0.0
    (omega (arith, told.1, c.in-Ok.port-is)) told.0.1)

pub returns-in-Err : goal.returns-in-Err
returns-in-Err c = no_port (without_leading_plus c.args.word.now) c.in-Err.ensures.value.0
