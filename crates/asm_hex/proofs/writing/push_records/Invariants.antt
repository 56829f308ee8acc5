use Rattle.std.proofs.Common.{◌≡◌, ◌++◌, drop, string_bytes}
use Rattle.asm_hex.specs.Written.{records_from, records_text}
use Rattle.asm_hex.proofs.writing.push_records.Given as goal

-- the text lacks the records of the rest of the cells
abbrev pub invariant-loop-address : goal.invariant-loop-address
invariant-loop-address l =
    string_bytes l.text ++ records_text (records_from l.address l.covered (drop l.address l.cells))
    ≡ string_bytes l.fn.text ++ records_text (records_from 0 0 l.cells)
