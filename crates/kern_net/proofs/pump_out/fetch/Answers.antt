use Rattle.std.proofs.Common.{refl}
use Rattle.kern_net.specs.Rounds.{IsOutOfTickets}
use Rattle.kern_net.specs.declared.end.PumpEnd.TheVariants.{OutOfTickets}
use Rattle.kern_net.proofs.FetchLemmas.{fetch_answer}
use Rattle.kern_net.proofs.OutLemmas.{denied_by}
use Rattle.kern_net.proofs.pump_out.fetch.Goals as goal

pub batch_of-requires : goal.batch_of-requires
batch_of-requires g c =
    fetch_answer c.args.pass.now c.turn.new.pass c.args.route.now.connection c.args.from c.in-Ok.answer
    c.in-Ok.ensures.ok

pub returns-in-Ok-clause-err : goal.returns-in-Ok-clause-err
returns-in-Ok-clause-err g c =
    denied_by c.args.route.now.connection c.args.from c.args.pass.now c.turn.new.pass c.in-Ok.answer
    c.batch_of.result
    c.in-Ok.ensures.ok c.batch_of.ensures

pub returns-in-Err-clause-err : goal.returns-in-Err-clause-err
returns-in-Err-clause-err g c = IsOutOfTickets OutOfTickets refl c.in-Err.ensures.out_of_tickets
