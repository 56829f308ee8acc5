-- Memory and code (Debug Adapter Protocol, `readMemory`, `writeMemory` and `disassemble`).
use Rattle.std.specs.Prelude.{ℕ, ℤ, ◌-◌, length, take, Bool, true, false, Option, Some}
use Rattle.std.specs.Prelude.{None, codes, if◌then◌else◌}
use Rattle.base_text.specs.Bytes.{Bytes, Text}
use Rattle.i80_exec.specs.State.{MachineState}
use Rattle.lab_views.specs.Code.{after_instructions}
use Rattle.dap_requests.specs.declared.offset.SignedOffset.{SignedOffset}
use Rattle.dap_requests.specs.declared.offset.SignedOffset.TheVariants.{Forward, Back}
use Rattle.dap_messages.specs.declared.message.EditorBody.{EditorBody}
use Rattle.dap_messages.specs.declared.message.EditorBody.TheVariants as body
use Rattle.dap_messages.specs.declared.message.OperandStyle.{OperandStyle}
use Rattle.dap_disassembly.specs.Disassembly.{instructions_from}
use Rattle.dap_values.specs.Memory.{bytes_from}
use Rattle.dap_disassembly.specs.Instructions.{before_instructions}
use Rattle.dap_values.specs.Distances.{address_at}
use Rattle.dap_run.specs.Refusals.{board_refusal}
use Rattle.lab_core.specs.declared.fault.EventFault.TheVariants.{NotStopped}
use Rattle.lab_core.specs.declared.run_state.RunState.{RunState}
use Rattle.lab_core.specs.declared.run_state.RunState.TheVariants.{NoRun, Running, Stopped}
use Rattle.lab_core.specs.Board.{Board}
use Rattle.lab_core.specs.Changes.{after_write}
use Rattle.dap_session.specs.States.{SessionState, with_board}
use Rattle.dap_session.specs.Turns.{Replied, change_follow, refusing, succeeding}

-- ---- bytes

-- At most so many bytes, of which those past the last address are unreadable. If there is no such address
-- at all, it is told where that would be.
abbrev pub memory_at : Option ℕ → ℤ → ℕ → MachineState → EditorBody
memory_at None far count m = body.NoMemory far count
memory_at (Some start) far count m =
    let bytes = bytes_from m start count in body.Memory start bytes (count - length bytes)

-- ---- bytes that are written

abbrev pub is_stopped : RunState → Bool
is_stopped NoRun = false
is_stopped Running = false
is_stopped Stopped = true

-- as many bytes as there are addresses for
abbrev pub writing_from : Option ℕ → Bytes → SessionState → Replied
writing_from None bytes s = refusing (codes "there is no such address") s
writing_from (Some start) bytes s =
    let all = take (65536 - start) bytes in
    succeeding (body.Written (length all)) (change_follow s) (with_board (after_write start all s.board) s)

-- only while a run is stopped
abbrev pub writing : ℕ → SignedOffset → Bytes → SessionState → Replied
writing address offset bytes s =
    if is_stopped s.board.run then writing_from (address_at address offset) bytes s
    else refusing (board_refusal NotStopped) s

-- ---- code

-- the address of the line of code that is so many instructions from an address
abbrev pub first_line : ℕ → SignedOffset → Board → ℕ
first_line address (Forward n) b = after_instructions b.machine address n
first_line address (Back n) b = before_instructions b address n

-- so many lines of code from an address on
abbrev pub code_at : Text → OperandStyle → ℕ → ℕ → Board → EditorBody
code_at path operands address count b = body.Instructions (instructions_from b path operands address count)
