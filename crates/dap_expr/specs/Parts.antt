-- The machine's parts by name (8080/8085 Assembly Language Programming Manual, chapter 1).
use Rattle.std.specs.Prelude.{ℕ, ◌+◌, ◌*◌, List, [], ◌∷◌, Option, Some, None, option_map, find, codes}
use Rattle.std.specs.Str.{bytes_eq}
use Rattle.std.specs.Int.{from_bool}
use Rattle.asm_syntax.specs.declared.keyword.RegisterWord.{RegisterWord}
use Rattle.asm_syntax.specs.declared.keyword.RegisterWord.TheVariants as word
use Rattle.i80_base.specs.FlagValues.{flag_byte}
use Rattle.i80_exec.specs.declared.registers.Registers.{Registers}
use Rattle.dap_expr.specs.declared.part.Part.{Part}
use Rattle.dap_expr.specs.declared.part.Part.TheVariants as part

-- ---- names

-- the name of a register that no symbol has
abbrev pub register_name : RegisterWord → List ℕ
register_name word.A = codes "$A"
register_name word.B = codes "$B"
register_name word.C = codes "$C"
register_name word.D = codes "$D"
register_name word.E = codes "$E"
register_name word.H = codes "$H"
register_name word.L = codes "$L"
register_name word.M = codes "$M"
register_name word.Sp = codes "$SP"
register_name word.Psw = codes "$PSW"

-- the name of a part that no symbol has
abbrev pub own_name : Part → List ℕ
own_name (part.Register name) = register_name name
own_name part.Bc = codes "$BC"
own_name part.De = codes "$DE"
own_name part.Hl = codes "$HL"
own_name part.Pc = codes "$PC"
own_name part.Sign = codes "$S"
own_name part.Zero = codes "$Z"
own_name part.Parity = codes "$P"
own_name part.Carry = codes "$CY"
own_name part.AuxiliaryCarry = codes "$AC"

-- a part's name without `$`, which a symbol may have too
abbrev pub plain_name : Part → List ℕ
plain_name (part.Register name) = []
plain_name part.Bc = codes "BC"
plain_name part.De = codes "DE"
plain_name part.Hl = codes "HL"
plain_name part.Pc = codes "PC"
plain_name part.Sign = codes "S"
plain_name part.Zero = codes "Z"
plain_name part.Parity = codes "P"
plain_name part.Carry = codes "CY"
plain_name part.AuxiliaryCarry = codes "AC"

-- the parts that no register word names
abbrev pub plain_parts : List Part
plain_parts =
    part.Bc ∷ part.De ∷ part.Hl ∷ part.Pc ∷ part.Sign ∷ part.Zero ∷ part.Parity ∷ part.Carry
    ∷ part.AuxiliaryCarry ∷ []

abbrev pub register_words : List RegisterWord
register_words =
    word.A ∷ word.B ∷ word.C ∷ word.D ∷ word.E ∷ word.H ∷ word.L ∷ word.M ∷ word.Sp ∷ word.Psw ∷ []

-- the part with this name that a symbol may have too
abbrev pub part_named : List ℕ → Option Part
part_named name = find (λ p. bytes_eq name (plain_name p)) plain_parts

-- the register that alone has this name
abbrev pub register_owning : List ℕ → Option RegisterWord
register_owning name = find (λ r. bytes_eq name (register_name r)) register_words

abbrev pub or_register : Option Part → Option RegisterWord → Option Part
or_register (Some p) register = Some p
or_register None register = option_map (λ r. part.Register r) register

-- the part that alone has this name
abbrev pub part_owning : List ℕ → Option Part
part_owning name =
    or_register (find (λ p. bytes_eq name (own_name p)) plain_parts) (register_owning name)

-- ---- values

-- the value of what a register word names, where this byte is at HL
abbrev pub register_value : Registers → ℕ → RegisterWord → ℕ
register_value regs m word.A = regs.a
register_value regs m word.B = regs.b
register_value regs m word.C = regs.c
register_value regs m word.D = regs.d
register_value regs m word.E = regs.e
register_value regs m word.H = regs.h
register_value regs m word.L = regs.l
register_value regs m word.M = m
register_value regs m word.Sp = regs.sp
register_value regs m word.Psw = 256 * regs.a + flag_byte regs.flags

-- the value of a part: a pair's first register is the high byte, and a flag is 0 or 1
abbrev pub part_value : Registers → ℕ → Part → ℕ
part_value regs m (part.Register name) = register_value regs m name
part_value regs m part.Bc = 256 * regs.b + regs.c
part_value regs m part.De = 256 * regs.d + regs.e
part_value regs m part.Hl = 256 * regs.h + regs.l
part_value regs m part.Pc = regs.pc
part_value regs m part.Sign = from_bool regs.flags.s
part_value regs m part.Zero = from_bool regs.flags.z
part_value regs m part.Parity = from_bool regs.flags.p
part_value regs m part.Carry = from_bool regs.flags.cy
part_value regs m part.AuxiliaryCarry = from_bool regs.flags.ac
