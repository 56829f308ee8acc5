-- What is allocated before a slice's first step, so that the messages about it allocate nothing.
use Rattle.std.specs.Prelude.{◌≡◌, ◌≤◌, ◌+◌, ◌⊎◌, ℕ, List, [], codes, length, vec_capacity}
use Rattle.dap_run.specs.declared.slice.SliceKit.{SliceKit}
use Rattle.dap_messages.specs.declared.message.Message.{Message}
use Rattle.dap_slice.specs.declared.logs.LogLine.{LogLine}
use Rattle.dap_run.specs.Messages.{as_messages}
use Rattle.dap_run.specs.Slices.{line_question, log_events}

pub record IsSliceKit (k : SliceKit) : Type 0 where
  pub messages : k.messages ≡ []
  pub console : k.console.items ≡ []
  pub room : 4096 ≤ vec_capacity k.console
  pub question : k.question ≡ line_question
  pub opcode : k.opcode.items ≡ codes "UndefinedOpcode: "
  pub opcode_room : 28 ≤ vec_capacity k.opcode

-- a capacity has room for eight messages behind these, if there are any
abbrev pub HasRoomBehind : List Message → ℕ → Type 0
HasRoomBehind messages capacity = (messages ≡ []) ⊎ (length messages + 8 ≤ capacity)

-- the messages of these lines, with that room
pub record AreLogs (lines : List LogLine) (messages : List Message) (capacity : ℕ) : Type 0 where
  pub items : messages ≡ as_messages (log_events lines)
  pub room : HasRoomBehind messages capacity
