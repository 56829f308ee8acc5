use Rattle.std.proofs.Common.{refl}
use Rattle.kern_calls.specs.declared.call.Call.TheVariants.{Join}
use Rattle.kern_calls.specs.declared.fault.KernelFault.TheVariants.{JournalFull}
use Rattle.kern_desk.specs.Joins.{IsOutOfTickets}
use Rattle.kern_desk.proofs.JoinLemmas.{join_answer, unjoined_by, came_by}
use Rattle.kern_desk.proofs.desks.join.Goals as goal

pub joined_by-joined-requires : goal.joined_by-joined-requires
joined_by-joined-requires g c =
    join_answer c.args.pass.now c.turn.new.pass c.args.channel c.args.identity c.in-Ok.answer
    c.in-Ok.ensures.ok

pub returns-in-Ok-clause-ok : goal.returns-in-Ok-clause-ok
returns-in-Ok-clause-ok g c =
    came_by c.args.pass.now c.turn.new.pass (Join c.args.channel c.args.identity) c.in-Ok.answer
    c.joined_by-joined.result c.in-Ok.ensures.ok c.joined_by-joined.ensures.ok

pub returns-in-Ok-clause-err : goal.returns-in-Ok-clause-err
returns-in-Ok-clause-err g c =
    unjoined_by c.args.pass.now c.turn.new.pass (Join c.args.channel c.args.identity) c.in-Ok.answer
    c.joined_by-joined.result c.in-Ok.ensures.ok c.joined_by-joined.ensures.err

pub returns-in-Err-clause-err : goal.returns-in-Err-clause-err
returns-in-Err-clause-err g c = IsOutOfTickets JournalFull refl c.in-Err.ensures.out_of_tickets
