-- The messages of responses that refuse a request.
use Rattle.std.specs.Prelude.{codes}
use Rattle.base_text.specs.Bytes.{Text}
use Rattle.dap_talk.specs.declared.fault.DapFault.{DapFault}
use Rattle.dap_talk.specs.declared.fault.DapFault.TheVariants.{OutOfMemory, NotRequest, Command, Arguments}

abbrev pub message_of : DapFault → Text
message_of OutOfMemory = codes "OutOfMemory"
message_of NotRequest = codes "NotRequest"
message_of (Command seq command) = codes "Command"
message_of (Arguments seq command) = codes "Arguments"
