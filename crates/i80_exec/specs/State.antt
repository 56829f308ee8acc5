-- A processor with its memory, and how its parts are read and written.
use Rattle.std.specs.Prelude.{ℕ, ◌+◌, ◌*◌, ◌/◌, ◌%◌, List, false, replicate, slice_index, slice_set}
use Rattle.std.specs.List.{fold}
use Rattle.i80_base.specs.declared.board.Board.{Board}
use Rattle.i80_base.specs.declared.board.Board.TheVariants.{Strict}
use Rattle.i80_base.specs.declared.instruction.Reg.{Reg}
use Rattle.i80_base.specs.declared.instruction.Reg.TheVariants as reg
use Rattle.i80_base.specs.declared.instruction.Pair.{Pair}
use Rattle.i80_base.specs.declared.instruction.Pair.TheVariants as pair
use Rattle.i80_base.specs.declared.instruction.StackPair.{StackPair}
use Rattle.i80_base.specs.declared.instruction.StackPair.TheVariants as stack
use Rattle.i80_base.specs.declared.instruction.IndexPair.{IndexPair}
use Rattle.i80_base.specs.declared.instruction.IndexPair.TheVariants as index
use Rattle.i80_base.specs.FlagValues.{FlagValues, flag_byte, flags_of}
use Rattle.i80_exec.specs.declared.registers.Registers.{Registers}
use Rattle.i80_exec.specs.declared.registers.Interrupts.{Interrupts}
use Rattle.i80_exec.specs.declared.registers.Interrupts.TheVariants.{Off}

-- the registers, the 65,536 bytes in order of their addresses, and whether the twelve undefined opcodes act
pub record MachineState : Type 0 where
  pub regs : Registers
  pub memory : List ℕ
  pub board : Board

-- every address, SP and PC wrap
abbrev pub modulo_65536 : ℕ → ℕ
modulo_65536 n = n % 65536

abbrev pub byte_at : MachineState → ℕ → ℕ
byte_at m address = slice_index m.memory (modulo_65536 address)

abbrev pub with_byte : MachineState → ℕ → ℕ → MachineState
with_byte m address byte = record m { memory = slice_set m.memory (modulo_65536 address) byte }

-- each byte of an image is stored at its address, in order
abbrev pub with_image_bytes : MachineState → List (ℕ × ℕ) → MachineState
with_image_bytes m image = fold (λ m p. with_byte m p.0 p.1) m image

-- words lie low byte first
abbrev pub word_at : MachineState → ℕ → ℕ
word_at m address = byte_at m address + 256 * byte_at m (address + 1)

abbrev pub stored_word : MachineState → ℕ → ℕ → MachineState
stored_word m address word = with_byte (with_byte m address (word % 256)) (address + 1) (word / 256)

abbrev pub with_regs : MachineState → Registers → MachineState
with_regs m regs = record m { regs = regs }

abbrev pub with_board : MachineState → Board → MachineState
with_board m board = record m { board = board }

abbrev pub with_pc : MachineState → ℕ → MachineState
with_pc m address = with_regs m (record m.regs { pc = address })

abbrev pub with_sp : MachineState → ℕ → MachineState
with_sp m address = with_regs m (record m.regs { sp = address })

abbrev pub with_a : MachineState → ℕ → MachineState
with_a m byte = with_regs m (record m.regs { a = byte })

abbrev pub with_flags : MachineState → FlagValues → MachineState
with_flags m flags = with_regs m (record m.regs { flags = flags })

abbrev pub with_interrupts : MachineState → Interrupts → MachineState
with_interrupts m interrupts = with_regs m (record m.regs { interrupts = interrupts })

-- a pair's first register is the high byte
abbrev pub get_pair : MachineState → Pair → ℕ
get_pair m pair.B = 256 * m.regs.b + m.regs.c
get_pair m pair.D = 256 * m.regs.d + m.regs.e
get_pair m pair.H = 256 * m.regs.h + m.regs.l
get_pair m pair.Sp = m.regs.sp

abbrev pub put_pair : MachineState → Pair → ℕ → MachineState
put_pair m pair.B word = with_regs m (record m.regs { b = word / 256; c = word % 256 })
put_pair m pair.D word = with_regs m (record m.regs { d = word / 256; e = word % 256 })
put_pair m pair.H word = with_regs m (record m.regs { h = word / 256; l = word % 256 })
put_pair m pair.Sp word = with_sp m word

-- a register, or the byte in memory at HL
abbrev pub get : MachineState → Reg → ℕ
get m reg.B = m.regs.b
get m reg.C = m.regs.c
get m reg.D = m.regs.d
get m reg.E = m.regs.e
get m reg.H = m.regs.h
get m reg.L = m.regs.l
get m reg.M = byte_at m (get_pair m pair.H)
get m reg.A = m.regs.a

abbrev pub with_reg : MachineState → Reg → ℕ → MachineState
with_reg m reg.B byte = with_regs m (record m.regs { b = byte })
with_reg m reg.C byte = with_regs m (record m.regs { c = byte })
with_reg m reg.D byte = with_regs m (record m.regs { d = byte })
with_reg m reg.E byte = with_regs m (record m.regs { e = byte })
with_reg m reg.H byte = with_regs m (record m.regs { h = byte })
with_reg m reg.L byte = with_regs m (record m.regs { l = byte })
with_reg m reg.M byte = with_byte m (get_pair m pair.H) byte
with_reg m reg.A byte = with_a m byte

-- the address in BC or DE
abbrev pub get_index : MachineState → IndexPair → ℕ
get_index m index.B = get_pair m pair.B
get_index m index.D = get_pair m pair.D

-- in PSW, A is the high byte and the flag byte the low one
abbrev pub get_stack_pair : MachineState → StackPair → ℕ
get_stack_pair m stack.B = get_pair m pair.B
get_stack_pair m stack.D = get_pair m pair.D
get_stack_pair m stack.H = get_pair m pair.H
get_stack_pair m stack.Psw = 256 * m.regs.a + flag_byte m.regs.flags

abbrev pub put_stack_pair : MachineState → StackPair → ℕ → MachineState
put_stack_pair m stack.B word = put_pair m pair.B word
put_stack_pair m stack.D word = put_pair m pair.D word
put_stack_pair m stack.H word = put_pair m pair.H word
put_stack_pair m stack.Psw word =
    with_regs m (record m.regs { a = word / 256; flags = flags_of (word % 256) })

abbrev pub clear_flags : FlagValues
clear_flags = record { s = false; z = false; ac = false; p = false; cy = false }

abbrev pub clear_regs : Registers
clear_regs = record {
  a = 0;
  b = 0;
  c = 0;
  d = 0;
  e = 0;
  h = 0;
  l = 0;
  flags = clear_flags;
  sp = 0;
  pc = 0;
  interrupts = Off;
}

unfoldable pub zeros : List ℕ
zeros = replicate 65536 0

-- after power-on: registers and memory 0, flags clear, interrupts off, and the undefined opcodes don't act
abbrev pub power_on : MachineState
power_on = record { regs = clear_regs; memory = zeros; board = Strict }
