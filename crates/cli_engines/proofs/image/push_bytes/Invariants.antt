use Rattle.std.proofs.Common.{◌≡◌, ◌+◌, ◌++◌, length, drop, string_bytes}
use Rattle.cli_engines.specs.Image.{leading, spaced_bytes}
use Rattle.cli_engines.proofs.image.push_bytes.Given as goal

-- the text and the count lack what the rest of the cells gives
abbrev pub invariant-loop-cell : goal.invariant-loop-cell
invariant-loop-cell l = record {
  index : l.count ≡ l.cell-index;
  text : string_bytes l.text ++ spaced_bytes (leading (drop l.cell-index l.cells)) ≡ string_bytes l.fn.text
      ++ spaced_bytes (leading l.cells);
  count : l.count + length (leading (drop l.cell-index l.cells)) ≡ length (leading l.cells);
}
