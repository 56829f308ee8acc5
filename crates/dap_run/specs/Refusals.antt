-- The text of each refusal, for the user (Debug Adapter Protocol, "Response", `message`).
use Rattle.std.specs.Prelude.{ℕ, [], ◌∷◌, ◌++◌, codes, decimal}
use Rattle.base_text.specs.Bytes.{Text}
use Rattle.asm_syntax.specs.Faults.{fault_name}
use Rattle.asm_syntax.specs.declared.fault.FaultKind.{FaultKind}
use Rattle.lab_core.specs.declared.fault.EventFault.{EventFault}
use Rattle.lab_core.specs.declared.fault.EventFault.TheVariants as fault
use Rattle.dap_requests.specs.declared.request.RequestFault.{RequestFault}
use Rattle.dap_requests.specs.declared.request.RequestFault.TheVariants as request
use Rattle.dap_run.specs.Words.{told_at}

-- what a board refuses
abbrev pub board_refusal : EventFault → Text
board_refusal fault.OutOfMemory = codes "out of memory"
board_refusal fault.NotRunning = codes "no program runs"
board_refusal fault.NotStopped = codes "no program is stopped"
board_refusal fault.Busy = codes "a program runs"
board_refusal fault.SourceNameTaken = codes "the path has another text"
board_refusal fault.NoSource = codes "no text has this path"
board_refusal fault.Latched = codes "a request is latched already"
board_refusal fault.BadFrame = codes "there is no such frame"
board_refusal fault.BadReference = codes "no scope for this has the reference"
board_refusal (fault.Assembly f) = codes "the text has a fault"
board_refusal fault.NotAttached = codes "no debugger is attached"
board_refusal fault.Vector = codes "there are the buttons 0 to 7"
board_refusal fault.SourcesFull = codes "there are 1,024 sources"
board_refusal fault.UnknownName = codes "there is no such register or address"
board_refusal fault.BadValue = codes "the value is no number that fits there"

-- requests that can't be carried out for any program
abbrev pub request_refusal : RequestFault → Text
request_refusal request.NotRequest = codes "not a request"
request_refusal request.UnknownCommand = codes "unknown command"
request_refusal request.Arguments = codes "bad arguments"
request_refusal (request.Argument name) = codes "bad arguments: " ++ name

-- the word that a fault is told with, if there is one
abbrev pub behind_fault : Text → Text
behind_fault [] = []
behind_fault (b ∷ word) = codes ": " ++ (b ∷ word)

-- the fault in a program's text, at a line and a column from 1
abbrev pub assembly_refusal : ℕ → ℕ → FaultKind → Text → Text
assembly_refusal line column kind text =
    decimal line ++ codes ":" ++ decimal column ++ codes " " ++ fault_name kind
    ++ behind_fault (told_at line column kind text)
