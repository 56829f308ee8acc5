-- The types of requests, and the channels on which each is answered.
use Rattle.std.specs.Prelude.{List, [], ◌∷◌, Option, find, codes}
use Rattle.std.specs.Str.{bytes_eq}
use Rattle.base_text.specs.Bytes.{Text}
use Rattle.jup_wire.specs.declared.channel.Channel.{Channel}
use Rattle.jup_wire.specs.declared.channel.Channel.TheVariants.{Shell, Control, Stdin, Iopub}
use Rattle.kern_request.specs.declared.message_type.MessageType.{MessageType}
use Rattle.kern_request.specs.declared.message_type.MessageType.TheVariants as message

abbrev pub type_text : MessageType → Text
type_text message.KernelInfo = codes "kernel_info_request"
type_text message.Execute = codes "execute_request"
type_text message.IsComplete = codes "is_complete_request"
type_text message.Complete = codes "complete_request"
type_text message.Inspect = codes "inspect_request"
type_text message.History = codes "history_request"
type_text message.CommInfo = codes "comm_info_request"
type_text message.CommOpen = codes "comm_open"
type_text message.Shutdown = codes "shutdown_request"
type_text message.Interrupt = codes "interrupt_request"
type_text message.Debug = codes "debug_request"
type_text message.InputReply = codes "input_reply"

-- the types that the kernel answers on a channel
abbrev pub types_on : Channel → List MessageType
types_on Shell =
    message.KernelInfo ∷ message.Execute ∷ message.IsComplete ∷ message.Complete ∷ message.Inspect ∷
    message.History ∷ message.CommInfo ∷ message.CommOpen ∷ message.Shutdown ∷ message.Interrupt ∷ []
types_on Control = message.KernelInfo ∷ message.Shutdown ∷ message.Interrupt ∷ message.Debug ∷ []
types_on Stdin = message.InputReply ∷ []
types_on Iopub = []

-- the type with this text, if the channel has it
abbrev pub type_named : Channel → Text → Option MessageType
type_named channel t = find (λ message_type. bytes_eq (type_text message_type) t) (types_on channel)
