-- How an editor counts lines and columns (Debug Adapter Protocol, `initialize`: `linesStartAt1` and
-- `columnsStartAt1`). Here both count from 1, and 0 stands for no line.
use Rattle.std.specs.Prelude.{ℕ, ◌+◌, ◌-◌, min, Bool, true, false, List, fold}
use Rattle.dap_messages.specs.declared.message.Numbering.{Numbering}
use Rattle.dap_messages.specs.declared.message.EditorBody.TheVariants.{Capabilities}
use Rattle.dap_messages.specs.declared.message.EditorOutcome.{EditorOutcome}
use Rattle.dap_messages.specs.declared.message.EditorOutcome.TheVariants.{Success}
use Rattle.dap_messages.specs.declared.message.Message.{Message}
use Rattle.dap_messages.specs.declared.message.Message.TheVariants.{Response, Event}

-- a number as an editor counts, from 1 or from 0
abbrev pub number_told : Bool → ℕ → ℕ
number_told true n = n
number_told false n = n - 1

-- an editor's number as it is counted here, up to the greatest that a request can have
abbrev pub number_meant : Bool → ℕ → ℕ
number_meant true n = n
number_meant false n = min (n + 1) 4294967295

abbrev pub line_told : Numbering → ℕ → ℕ
line_told numbering line = number_told numbering.lines_start_at_1 line

abbrev pub column_told : Numbering → ℕ → ℕ
column_told numbering column = number_told numbering.columns_start_at_1 column

abbrev pub line_meant : Numbering → ℕ → ℕ
line_meant numbering line = number_meant numbering.lines_start_at_1 line

abbrev pub column_meant : Numbering → ℕ → ℕ
column_meant numbering column = number_meant numbering.columns_start_at_1 column

-- ---- from the answer to `initialize` on

abbrev pub from_1 : Numbering
from_1 = record { lines_start_at_1 = true; columns_start_at_1 = true }

abbrev pub numbering_in : Numbering → EditorOutcome → Numbering
numbering_in now (Success (Capabilities numbering)) = numbering
numbering_in now other = now

-- what tells an editor the capabilities counts so from then on
abbrev pub numbering_after : Numbering → Message → Numbering
numbering_after now (Response r) = numbering_in now r.outcome
numbering_after now (Event e) = now

-- after all messages of a conversation so far
abbrev pub numbering_of : List Message → Numbering
numbering_of messages = fold numbering_after from_1 messages
