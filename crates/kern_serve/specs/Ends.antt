-- How a server ends.
use Rattle.std.specs.Prelude.{Bool, true, false, Result, Ok, Err}
use Rattle.kern_net.specs.declared.end.PumpEnd.{PumpEnd}
use Rattle.kern_net.specs.declared.end.PumpEnd.TheVariants as pump
use Rattle.kern_serve.specs.declared.server.ServerEnd.{ServerEnd}
use Rattle.kern_serve.specs.declared.server.ServerEnd.TheVariants.{ShutDown, JournalFull}
use Rattle.kern_serve.specs.declared.fault.ServerFault.{ServerFault}
use Rattle.kern_serve.specs.declared.fault.ServerFault.TheVariants.{OutOfMemory, Refused}

-- how the server ends when the worker has ended, by whether the worker's gate has said no, which it does if
-- the journal is full
abbrev pub server_end : Bool → PumpEnd → Result ServerEnd ServerFault
server_end false pump.Ended = Ok ShutDown
server_end true pump.Ended = Ok JournalFull
server_end closed pump.JournalFull = Ok JournalFull
server_end closed pump.OutOfTickets = Ok JournalFull
server_end closed pump.OutOfMemory = Err OutOfMemory
server_end closed _ = Err Refused
