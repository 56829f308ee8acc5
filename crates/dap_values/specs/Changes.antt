-- Changes of places by hand.
use Rattle.std.specs.Prelude.{ℕ, ◌*◌, ◌+◌, ◌/◌, ◌%◌, ◌==◌, [], ◌∷◌, Bool, true, not, ◌||◌, Result, Ok}
use Rattle.std.specs.Prelude.{Err, nat_lt, nat_le, if◌then◌else◌}
use Rattle.i80_base.specs.FlagValues.{FlagValues, flag_byte, flags_of}
use Rattle.i80_base.specs.declared.instruction.Pair.TheVariants as pair
use Rattle.i80_exec.specs.declared.registers.Registers.{Registers}
use Rattle.i80_exec.specs.State.{MachineState, get_pair, with_byte, stored_word, with_regs}
use Rattle.asm_syntax.specs.declared.keyword.RegisterWord.{RegisterWord}
use Rattle.asm_syntax.specs.declared.keyword.RegisterWord.TheVariants as word
use Rattle.dap_expr.specs.declared.part.Part.{Part}
use Rattle.dap_expr.specs.declared.part.Part.TheVariants as part
use Rattle.dap_history.specs.declared.input.Input.{Input}
use Rattle.dap_history.specs.declared.input.Input.TheVariants as input
use Rattle.dap_values.specs.declared.change.ChangeFault.{ChangeFault}
use Rattle.dap_values.specs.declared.change.ChangeFault.TheVariants as fault
use Rattle.dap_values.specs.declared.target.Target.{Target}
use Rattle.dap_values.specs.declared.target.Target.TheVariants as target
use Rattle.dap_values.specs.declared.target.Size.{Size}
use Rattle.dap_values.specs.declared.target.Size.TheVariants as size
use Rattle.dap_values.specs.Targets.{size_of, largest}

-- ---- the values that a place takes

-- a flag takes 0 and 1, and a byte what the assembler takes for one: 0 to FFh and FF00h to FFFFh
abbrev pub takes : Size → ℕ → Bool
takes size.Flag value = nat_lt value 2
takes size.Byte value = nat_lt value 256 || nat_le 65280 value
takes size.Word value = true

-- the second byte of a word at FFFFh has no address
abbrev pub has_room : Target → Bool
has_room (target.Word address) = not (address == 65535)
has_room t = true

abbrev pub in_size : Size → ℕ → ℕ
in_size size.Byte value = value % 256
in_size s value = value

-- PSW keeps the fixed bits of the flag byte
abbrev pub psw_taken : ℕ → ℕ
psw_taken value = 256 * (value / 256) + flag_byte (flags_of (value % 256))

-- what a place holds of a value that it takes
abbrev pub value_taken : Target → ℕ → ℕ
value_taken (target.Part (part.Register word.Psw)) value = psw_taken value
value_taken t value = in_size (size_of t) value

-- ---- the change

abbrev pub with_register : Registers → RegisterWord → ℕ → Registers
with_register regs word.A value = record regs { a = value % 256 }
with_register regs word.B value = record regs { b = value % 256 }
with_register regs word.C value = record regs { c = value % 256 }
with_register regs word.D value = record regs { d = value % 256 }
with_register regs word.E value = record regs { e = value % 256 }
with_register regs word.H value = record regs { h = value % 256 }
with_register regs word.L value = record regs { l = value % 256 }
with_register regs word.M value = regs
with_register regs word.Sp value = record regs { sp = value }
with_register regs word.Psw value =
    record regs { a = value / 256; flags = flags_of (value % 256) }

abbrev pub with_flag : FlagValues → Part → Bool → FlagValues
with_flag flags part.Sign set = record flags { s = set }
with_flag flags part.Zero set = record flags { z = set }
with_flag flags part.AuxiliaryCarry set = record flags { ac = set }
with_flag flags part.Parity set = record flags { p = set }
with_flag flags part.Carry set = record flags { cy = set }
with_flag flags p set = flags

-- the registers in which a part has a value: a pair's first register has the high byte
abbrev pub with_part : Registers → Part → ℕ → Registers
with_part regs (part.Register name) value = with_register regs name value
with_part regs part.Bc value = record regs { b = value / 256; c = value % 256 }
with_part regs part.De value = record regs { d = value / 256; e = value % 256 }
with_part regs part.Hl value = record regs { h = value / 256; l = value % 256 }
with_part regs part.Pc value = record regs { pc = value }
with_part regs flag value = record regs { flags = with_flag regs.flags flag (value == 1) }

-- the machine in which a place has a value, and everything else is as it was
abbrev pub with_value : MachineState → Target → ℕ → MachineState
with_value m (target.Part (part.Register word.M)) value = with_byte m (get_pair m pair.H) (value % 256)
with_value m (target.Part p) value = with_regs m (with_part m.regs p value)
with_value m (target.Byte address) value = with_byte m address (value % 256)
with_value m (target.Word address) value = stored_word m address value

abbrev pub byte_written : ℕ → ℕ → Input
byte_written address value = input.Write address (value % 256 ∷ [])

abbrev pub word_written : ℕ → ℕ → Input
word_written address value = input.Write address (value % 256 ∷ value / 256 ∷ [])

-- the input that makes it so
abbrev pub change_of : Registers → Target → ℕ → Input
change_of regs (target.Part (part.Register word.M)) value = byte_written (256 * regs.h + regs.l) value
change_of regs (target.Part p) value = input.Registers (with_part regs p value)
change_of regs (target.Byte address) value = byte_written address value
change_of regs (target.Word address) value = word_written address value

abbrev pub if_room : Registers → Target → ℕ → Result Input ChangeFault
if_room regs t value = if has_room t then Ok (change_of regs t value) else Err fault.NoRoom

-- the input by which a place gets a value, with these registers
abbrev pub input_of : Registers → Target → ℕ → Result Input ChangeFault
input_of regs t value =
    if takes (size_of t) value then if_room regs t value else Err (fault.TooLarge (largest (size_of t)))
