-- The messages about a program that can't be loaded (Debug Adapter Protocol, `launch` and `restart`).
use Rattle.std.specs.Prelude.{ℕ, min, ◌++◌, Option, Some, None, codes}
use Rattle.base_text.specs.Bytes.{Text}
use Rattle.asm_syntax.specs.declared.fault.AsmFault.TheVariants.{At}
use Rattle.lab_core.specs.declared.fault.EventFault.TheVariants as refused
use Rattle.dap_messages.specs.declared.message.EditorEvent.{EditorEvent}
use Rattle.dap_messages.specs.declared.message.EditorEvent.TheVariants as event
use Rattle.dap_messages.specs.declared.message.OutputCategory.TheVariants.{Stderr}
use Rattle.dap_launch.specs.declared.load.LoadFault.{LoadFault}
use Rattle.dap_launch.specs.declared.load.LoadFault.TheVariants as fault
use Rattle.dap_run.specs.Refusals.{board_refusal, assembly_refusal}

-- of a program with this text
abbrev pub load_refusal : Text → LoadFault → Text
load_refusal text fault.OutOfMemory = codes "out of memory"
load_refusal text fault.NoStart = codes "the program has no start: END names none"
load_refusal text (fault.Refused (refused.Assembly (At line column kind))) =
    assembly_refusal line column kind text
load_refusal text (fault.Refused f) = board_refusal f

-- lines and columns are at most 4,294,967,295
abbrev pub told_number : ℕ → ℕ
told_number n = min n 4294967295

-- of a program with this path and text
abbrev pub load_event : Text → Text → LoadFault → Option EditorEvent
load_event path text (fault.Refused (refused.Assembly (At line column kind))) =
    Some (event.Output Stderr (assembly_refusal line column kind text ++ codes "\n")
    (Some (record { path = path; line = told_number line; column = told_number column })))
load_event path text other = None
