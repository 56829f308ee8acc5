-- The variables of scopes that can be changed.
use Rattle.std.specs.Prelude.{ℕ, ◌==◌, List, [], ◌∷◌, drop, find, option_map, Option, None, if◌then◌else◌}
use Rattle.std.specs.Str.{bytes_eq}
use Rattle.base_text.specs.Bytes.{Text}
use Rattle.base_text.specs.Hexadecimal.{word_spelled}
use Rattle.asm_syntax.specs.declared.keyword.RegisterWord.TheVariants as word
use Rattle.dap_expr.specs.declared.part.Part.{Part}
use Rattle.dap_expr.specs.declared.part.Part.TheVariants as part
use Rattle.dap_expr.specs.Parts.{own_name}
use Rattle.dap_values.specs.declared.target.Target.{Target}
use Rattle.dap_values.specs.declared.target.Target.TheVariants as target

abbrev pub registers : List Part
registers =
    part.Register word.A ∷ part.Register word.B ∷ part.Register word.C ∷ part.Register word.D
    ∷ part.Register word.E ∷ part.Register word.H ∷ part.Register word.L ∷ part.Register word.Sp ∷ part.Pc
    ∷ part.Bc ∷ part.De ∷ part.Hl ∷ part.Register word.Psw ∷ []

abbrev pub flags : List Part
flags = part.Sign ∷ part.Zero ∷ part.AuxiliaryCarry ∷ part.Parity ∷ part.Carry ∷ []

-- a part's own name without its `$`
abbrev pub variable_name : Part → Text
variable_name p = drop 1 (own_name p)

abbrev pub part_among : List Part → Text → Option Part
part_among parts name = find (λ p. bytes_eq name (variable_name p)) parts

abbrev pub part_target : Option Part → Option Target
part_target p = option_map (λ q. target.Part q) p

-- the byte at the address that four hexadecimal digits spell
abbrev pub byte_named : Text → Option Target
byte_named name = option_map (λ address. target.Byte address) (word_spelled name)

-- and the word
abbrev pub word_named : Text → Option Target
word_named name = option_map (λ address. target.Word address) (word_spelled name)

-- the place of a name in a scope: 1 has the registers, 2 the flags, 5 the memory and 6 the stack
abbrev pub variable_target : ℕ → Text → Option Target
variable_target reference name =
    if reference == 1 then part_target (part_among registers name) else
    if reference == 2 then part_target (part_among flags name) else
    if reference == 5 then byte_named name else
    if reference == 6 then word_named name else None
