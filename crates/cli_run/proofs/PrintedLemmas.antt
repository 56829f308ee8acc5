-- A text to which a line's parts are added one by one has the line at its end.
use Rattle.std.proofs.Common.{◌≡◌, ℕ, List, ◌∷◌, [], ◌++◌, append_assoc, codes}
use Rattle.i80_base.specs.FlagValues.{flag_byte}
use Rattle.i80_exec.specs.declared.registers.Registers.{Registers}
use Rattle.base_text.specs.Hexadecimal.{upper_word}
use Rattle.cli_run.specs.Printed.{field, register_line}

pub register_line_added : (text : List ℕ) (r : Registers) →
    text ++ codes "PC=" ++ upper_word r.pc ++ field (codes " A=") r.a
    ++ field (codes " F=") (flag_byte r.flags)
    ++ field (codes " B=") r.b ++ field (codes " C=") r.c ++ field (codes " D=") r.d
    ++ field (codes " E=") r.e ++ field (codes " H=") r.h ++ field (codes " L=") r.l
    ++ codes " SP=" ++ upper_word r.sp ++ 10 ∷ []
    ≡ text ++ register_line r
unfolding register_line
register_line_added text r = simp append_assoc
