use Rattle.std.proofs.Common.{All}
use Rattle.kern_host.specs.Guests.{IsComing}
use Rattle.kern_host_tests.proofs.served.guests.guests_of.Given as goal

-- each guest so far is coming
abbrev pub invariant-loop-script : goal.invariant-loop-script
invariant-loop-script g l = All IsComing l.guests.items
