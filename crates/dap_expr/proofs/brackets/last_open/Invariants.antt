use Rattle.std.proofs.Common.{◌≡◌, ◌<◌, drop, length}
use Rattle.std.specs.Option.{IfSome}
use Rattle.asm_syntax.specs.Lexemes.{pieces_of}
use Rattle.dap_expr.specs.Brackets.{last_open_from, last_open}
use Rattle.dap_expr.proofs.brackets.last_open.Given as goal

abbrev pub invariant-loop-index : goal.invariant-loop-index
invariant-loop-index l = record {
  value : last_open_from l.index l.found (pieces_of (drop l.index l.tokens)) ≡ last_open (pieces_of l.tokens);
  within : IfSome l.found (λ bracket. bracket.index < length l.tokens);
}
