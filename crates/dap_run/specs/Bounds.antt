-- Bounds that each request keeps that was read from JSON.
use Rattle.std.specs.Prelude.{ℕ, nat_le, length, Bool, true, ◌&&◌}
use Rattle.dap_requests.specs.declared.request.RequestContent.{RequestContent}
use Rattle.dap_requests.specs.declared.request.RequestContent.TheVariants as asked
use Rattle.dap_requests.specs.declared.request.EditorCommand.{EditorCommand}
use Rattle.dap_requests.specs.declared.request.EditorCommand.TheVariants as editor
use Rattle.dap_requests.specs.declared.request.SourceCommand.{SourceCommand}
use Rattle.dap_requests.specs.declared.request.SourceCommand.TheVariants as source
use Rattle.dap_requests.specs.declared.request.BreakpointsCommand.{BreakpointsCommand}
use Rattle.dap_requests.specs.declared.request.BreakpointsCommand.TheVariants as breakpoints
use Rattle.dap_requests.specs.declared.request.MemoryCommand.{MemoryCommand}
use Rattle.dap_requests.specs.declared.request.MemoryCommand.TheVariants as memory
use Rattle.dap_requests.specs.declared.offset.SignedOffset.{SignedOffset}
use Rattle.dap_requests.specs.declared.offset.SignedOffset.TheVariants.{Forward, Back}

abbrev pub is_few : ℕ → Bool
is_few count = nat_le 1 count && nat_le count 1024

abbrev pub is_near : SignedOffset → Bool
is_near (Forward n) = nat_le n 65535
is_near (Back n) = nat_le n 65536

abbrev pub is_source_bounded : SourceCommand → Bool
is_source_bounded (source.SetBreakpoints lines) = nat_le (length lines) 256
is_source_bounded other = true

abbrev pub are_breakpoints_bounded : BreakpointsCommand → Bool
are_breakpoints_bounded (breakpoints.SetFunctionBreakpoints functions) = nat_le (length functions) 256
are_breakpoints_bounded (breakpoints.SetDataBreakpoints on_data) = nat_le (length on_data) 256
are_breakpoints_bounded (breakpoints.SetInstructionBreakpoints instructions) =
    nat_le (length instructions) 256
are_breakpoints_bounded other = true

abbrev pub is_memory_bounded : MemoryCommand → Bool
is_memory_bounded (memory.Disassemble address offset instruction_offset count operands) =
    is_near instruction_offset && is_few count
is_memory_bounded other = true

abbrev pub is_command_bounded : EditorCommand → Bool
is_command_bounded (editor.OnSource path c) = is_source_bounded c
is_command_bounded (editor.Breakpoints c) = are_breakpoints_bounded c
is_command_bounded (editor.Memory c) = is_memory_bounded c
is_command_bounded other = true

abbrev pub is_bounded : RequestContent → Bool
is_bounded (asked.Editor c) = is_command_bounded c
is_bounded other = true
