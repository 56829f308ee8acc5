-- Numbers and registers as they are printed: upper-case hexadecimal digits of fixed width.
use Rattle.std.specs.Prelude.{ℕ, List, ◌++◌, codes}
use Rattle.base_text.specs.Hexadecimal.{upper_byte, upper_word}
use Rattle.cli_io.specs.Report.{line}
use Rattle.i80_base.specs.FlagValues.{flag_byte}
use Rattle.i80_exec.specs.declared.registers.Registers.{Registers}

-- a name and a byte
abbrev pub field : List ℕ → ℕ → List ℕ
field name byte = name ++ upper_byte byte

-- program counter, accumulator and flag byte, the other registers, stack pointer
unfoldable pub register_line : Registers → List ℕ
register_line r = line (
    codes "PC=" ++ upper_word r.pc ++ field (codes " A=") r.a ++ field (codes " F=") (flag_byte r.flags)
    ++ field (codes " B=") r.b ++ field (codes " C=") r.c ++ field (codes " D=") r.d
    ++ field (codes " E=") r.e ++ field (codes " H=") r.h ++ field (codes " L=") r.l
    ++ codes " SP=" ++ upper_word r.sp)
