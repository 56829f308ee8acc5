use Rattle.std.proofs.Common.{◌≡◌, ◌++◌, length}
use Rattle.asm_syntax.specs.Lexemes.{characters_of}
use Rattle.asm_lex.proofs.strings.string_bytes.Given as goal

abbrev pub invariant-loop-character : goal.invariant-loop-character
invariant-loop-character l = l.bytes.items ++ characters_of l.rest ≡ characters_of l.text

abbrev pub decreases-loop-character : goal.decreases-loop-character
decreases-loop-character l = length l.rest
