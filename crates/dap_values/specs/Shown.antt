-- Values as an editor shows them, and where memory windows on them begin (Debug Adapter Protocol,
-- `memoryReference`).
use Rattle.std.specs.Prelude.{ℕ, ◌+◌, ◌*◌, Option, Some, None, decimal}
use Rattle.base_text.specs.Bytes.{Text}
use Rattle.i80_exec.specs.declared.registers.Registers.{Registers}
use Rattle.i80_exec.specs.State.{MachineState}
use Rattle.asm_syntax.specs.declared.keyword.RegisterWord.TheVariants as word
use Rattle.dap_expr.specs.declared.part.Part.{Part}
use Rattle.dap_expr.specs.declared.part.Part.TheVariants as part
use Rattle.dap_values.specs.Format.{byte_shown, word_shown}
use Rattle.dap_messages.specs.declared.message.ShownValue.{ShownValue}
use Rattle.dap_messages.specs.declared.message.ValueFormat.{ValueFormat}
use Rattle.dap_values.specs.declared.target.Size.{Size}
use Rattle.dap_values.specs.declared.target.Size.TheVariants as size
use Rattle.dap_values.specs.declared.target.Target.{Target}
use Rattle.dap_values.specs.declared.target.Target.TheVariants as target
use Rattle.dap_values.specs.Targets.{size_of, value_at}

-- a flag is the same in every format
abbrev pub value_text : Size → ℕ → ValueFormat → Text
value_text size.Flag value format = decimal value
value_text size.Byte value format = byte_shown format value
value_text size.Word value format = word_shown format value

-- M is at HL, and SP, PC and the pairs but PSW have addresses
abbrev pub part_memory : Registers → Part → ℕ → Option ℕ
part_memory regs (part.Register word.M) value = Some (256 * regs.h + regs.l)
part_memory regs (part.Register word.Sp) value = Some value
part_memory regs part.Bc value = Some value
part_memory regs part.De value = Some value
part_memory regs part.Hl value = Some value
part_memory regs part.Pc value = Some value
part_memory regs p value = None

abbrev pub memory_of : Registers → Target → ℕ → Option ℕ
memory_of regs (target.Part p) value = part_memory regs p value
memory_of regs (target.Byte address) value = Some address
memory_of regs (target.Word address) value = Some address

-- a value of a place, with these registers
abbrev pub shown_as : Registers → Target → ℕ → ValueFormat → ShownValue
shown_as regs t value format =
    record { text = value_text (size_of t) value format; memory = memory_of regs t value }

-- what a place holds
abbrev pub shown_at : MachineState → Target → ValueFormat → ShownValue
shown_at m t format = shown_as m.regs t (value_at m t) format

-- a value that is no place's may be an address
abbrev pub value_shown : ℕ → ValueFormat → ShownValue
value_shown value format = record { text = word_shown format value; memory = Some value }
