-- The values of names: a read or a part that alone has it, else a symbol, else a part.
use Rattle.std.specs.Prelude.{ℕ, List, [], ◌∷◌, Option, None, option_map, slice_get}
use Rattle.i80_exec.specs.declared.registers.Registers.{Registers}
use Rattle.asm_build.specs.Reading.{Entries, symbol_at, value_in, or_else}
use Rattle.dap_expr.specs.Parts.{part_owning, part_named, part_value}

-- the value of the read that a name stands for
abbrev pub read_named : List ℕ → List ℕ → Option ℕ
read_named reads (number ∷ []) = slice_get reads number
read_named reads _ = None

-- the value of a name, with these symbols and registers, this byte at HL, and these values of reads
abbrev pub value_named : Entries → Registers → ℕ → List ℕ → List ℕ → Option ℕ
value_named symbols regs m reads x =
    or_else (read_named reads x)
    (or_else (option_map (part_value regs m) (part_owning x))
    (or_else (value_in (symbol_at symbols x)) (option_map (part_value regs m) (part_named x))))
