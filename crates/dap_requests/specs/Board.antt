-- The commands of the kernel that editors send too.
use Rattle.std.specs.Prelude.{Option, Some, None}
use Rattle.dap_talk.specs.declared.command.DapCommand.{DapCommand}
use Rattle.dap_talk.specs.declared.command.DapCommand.TheVariants as kernel
use Rattle.dap_requests.specs.declared.request.BoardCommand.{BoardCommand}
use Rattle.dap_requests.specs.declared.request.BoardCommand.TheVariants as board

-- the command of the kernel that is this one
abbrev pub kernel_command : BoardCommand → DapCommand
kernel_command board.Attach = kernel.Attach
kernel_command board.Disconnect = kernel.Disconnect
kernel_command board.ConfigurationDone = kernel.ConfigurationDone
kernel_command board.Threads = kernel.Threads
kernel_command (board.StackTrace start levels) = kernel.StackTrace start levels
kernel_command board.Continue = kernel.Continue
kernel_command (board.Step kind granularity) = kernel.Step kind granularity
kernel_command board.Pause = kernel.Pause
kernel_command (board.Source path) = kernel.Source path
kernel_command (board.DumpCell code) = kernel.DumpCell code
kernel_command board.DebugInfo = kernel.DebugInfo
kernel_command board.InspectVariables = kernel.InspectVariables
kernel_command (board.BoardSwitches value) = kernel.BoardSwitches value
kernel_command (board.BoardPress vector) = kernel.BoardPress vector
kernel_command (board.BoardType text) = kernel.BoardType text
kernel_command board.BoardReset = kernel.BoardReset
kernel_command (board.BoardAliases aliases) = kernel.BoardAliases aliases

-- the command of an editor that is this one of the kernel, unless it has other arguments for editors
abbrev pub board_command : DapCommand → Option BoardCommand
board_command kernel.Attach = Some board.Attach
board_command kernel.Disconnect = Some board.Disconnect
board_command kernel.ConfigurationDone = Some board.ConfigurationDone
board_command kernel.Threads = Some board.Threads
board_command (kernel.StackTrace start levels) = Some (board.StackTrace start levels)
board_command kernel.Continue = Some board.Continue
board_command (kernel.Step kind granularity) = Some (board.Step kind granularity)
board_command kernel.Pause = Some board.Pause
board_command (kernel.Source path) = Some (board.Source path)
board_command (kernel.DumpCell code) = Some (board.DumpCell code)
board_command kernel.DebugInfo = Some board.DebugInfo
board_command kernel.InspectVariables = Some board.InspectVariables
board_command (kernel.BoardSwitches value) = Some (board.BoardSwitches value)
board_command (kernel.BoardPress vector) = Some (board.BoardPress vector)
board_command (kernel.BoardType text) = Some (board.BoardType text)
board_command kernel.BoardReset = Some board.BoardReset
board_command (kernel.BoardAliases aliases) = Some (board.BoardAliases aliases)
board_command kernel.Initialize = None
board_command (kernel.SetBreakpoints path lines) = None
board_command (kernel.Scopes frame) = None
board_command (kernel.Variables reference start count) = None
board_command (kernel.SetVariable reference name value) = None
board_command (kernel.Disassemble address offset instruction_offset count) = None
