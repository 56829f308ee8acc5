use Rattle.std.proofs.Common.{◌≡◌, ◌+◌, ◌%◌, ◌++◌, drop, string_bytes}
use Rattle.std.specs.Prelude.{sum}
use Rattle.asm_hex.specs.Record.{digits_of}
use Rattle.asm_hex.specs.Written.{leading}
use Rattle.asm_hex.proofs.writing.push_cells.Given as goal

-- the text and the sum lack what the rest of the cells gives
abbrev pub invariant-loop-cell : goal.invariant-loop-cell
invariant-loop-cell l = record {
  text : string_bytes l.text ++ digits_of (leading (drop l.cell-index l.cells)) ≡ string_bytes l.fn.text
      ++ digits_of (leading l.cells);
  sum : (l.total + sum (leading (drop l.cell-index l.cells))) % 256
      ≡ (l.fn.head + sum (leading l.cells)) % 256;
}
