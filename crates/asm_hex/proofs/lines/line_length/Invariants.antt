use Rattle.std.proofs.Common.{◌≡◌, ◌+◌, drop}
use Rattle.asm_hex.specs.Lines.{line_length}
use Rattle.asm_hex.proofs.lines.line_length.Given as goal

-- what is counted already, and what is left to count
abbrev pub invariant-loop-byte : goal.invariant-loop-byte
invariant-loop-byte l = record {
  index : l.length ≡ l.byte-index;
  all : l.length + line_length (drop l.byte-index l.text) ≡ line_length l.text;
}
