use Rattle.std.proofs.Common.{◌≡◌, ◌++◌, drop}
use Rattle.dap_expr.specs.Hexadecimal.{assembler_from, assembler_text}
use Rattle.dap_expr.proofs.hexadecimal.assembler_text.Given as goal

abbrev pub invariant-loop-byte : goal.invariant-loop-byte
invariant-loop-byte l =
    l.found.items ++ assembler_from l.within (drop l.byte-index l.text) ≡ assembler_text l.text
