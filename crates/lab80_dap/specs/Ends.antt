-- The exit status of the debugger.
use Rattle.cli_io.specs.declared.status.Status.{Status}
use Rattle.cli_io.specs.declared.status.Status.TheVariants.{Success, Refused, OutOfMemory, Failed}
use Rattle.dap_debugger.specs.declared.incoming.StreamEnd.{StreamEnd}
use Rattle.dap_debugger.specs.declared.incoming.StreamEnd.TheVariants as stream
use Rattle.dap_debugger.specs.declared.conversation.ConversationEnd.{ConversationEnd}
use Rattle.dap_debugger.specs.declared.conversation.ConversationEnd.TheVariants as conversation
use Rattle.dap_serve.specs.declared.server.ServerEnd.{ServerEnd}
use Rattle.dap_serve.specs.declared.server.ServerEnd.TheVariants as server

abbrev pub stream_status : StreamEnd → Status
stream_status stream.Ended = Success
stream_status (stream.Broken fault) = Refused
stream_status stream.OutOfMemory = OutOfMemory
stream_status stream.ReadFailed = Failed

abbrev pub conversation_status : ConversationEnd → Status
conversation_status conversation.Disconnected = Success
conversation_status (conversation.Stream end) = stream_status end
conversation_status conversation.OutOfMemory = OutOfMemory
conversation_status conversation.WriteFailed = Failed

-- If the thread that reads can't be started the program counts as out of memory.
abbrev pub status_of : ServerEnd → Status
status_of (server.Conversation end) = conversation_status end
status_of server.NoThread = OutOfMemory
