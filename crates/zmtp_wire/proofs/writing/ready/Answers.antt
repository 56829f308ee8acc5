use Rattle.std.proofs.Common.{arith}
use Rattle.zmtp_wire.specs.declared.role.Role.TheVariants.{Router, Pub, Rep, Dealer, Sub}
use Rattle.zmtp_wire.proofs.WritingLemmas.{ready_is}
use Rattle.zmtp_wire.proofs.writing.ready.Goals as goal

pub returns-in-Router : goal.returns-in-Router
returns-in-Router c = rw c.in-Router.is (ready_is Router (omega arith))

pub returns-in-Pub : goal.returns-in-Pub
returns-in-Pub c = rw c.in-Pub.is (ready_is Pub (omega arith))

pub returns-in-Rep : goal.returns-in-Rep
returns-in-Rep c = rw c.in-Rep.is (ready_is Rep (omega arith))

pub returns-in-Dealer : goal.returns-in-Dealer
returns-in-Dealer c = rw c.in-Dealer.is (ready_is Dealer (omega arith))

pub returns-in-Sub : goal.returns-in-Sub
returns-in-Sub c = rw c.in-Sub.is (ready_is Sub (omega arith))
