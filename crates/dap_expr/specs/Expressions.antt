-- The expression that a text is, or its first fault.
use Rattle.std.specs.Prelude.{List, [], ◌∷◌, Result, Ok, Err, length, nat_lt, if◌then◌else◌}
use Rattle.base_text.specs.Bytes.{Text}
use Rattle.asm_expr.specs.Tree.{Tree}
use Rattle.asm_syntax.specs.declared.fault.FaultKind.TheVariants as kind
use Rattle.asm_syntax.specs.Lexemes.{Piece}
use Rattle.asm_syntax.specs.Outcome.{Fault, ◌>>=◌}
use Rattle.asm_lex.specs.Tokens.{tokens_of}
use Rattle.dap_expr.specs.declared.clause.Joint.TheVariants as joint
use Rattle.dap_expr.specs.declared.clause.Sense.TheVariants as sense
use Rattle.dap_expr.specs.declared.expression.Expression.{Expression}
use Rattle.dap_expr.specs.Words.{expression_pieces}
use Rattle.dap_expr.specs.Clauses.{clauses_of}
use Rattle.dap_expr.specs.Hexadecimal.{assembler_text}

-- the expression of the assembler's pieces
unfoldable pub expression_in : List Piece → Result Expression Fault
expression_in ps = do
  cs ← clauses_of (expression_pieces ps)
  Ok (record { clauses = cs })

-- the expression of a text with each number that begins with `0x` in the assembler's form
abbrev pub with_hexadecimal : Text → Result Expression Fault
with_hexadecimal text = tokens_of (assembler_text text) >>= expression_in

-- the expression of a text's pieces, if the assembler's lexer has them
abbrev pub or_hexadecimal : Text → Result (List Piece) Fault → Result Expression Fault
or_hexadecimal text (Ok ps) = expression_in ps
or_hexadecimal text (Err f) = with_hexadecimal text

-- the expression of a text of at most 1,024 bytes
unfoldable pub expression_of : Text → Result Expression Fault
expression_of text =
    if nat_lt 1024 (length text) then Err (1, kind.TooLong) else or_hexadecimal text (tokens_of text)

-- the expression that is a tree of the assembler alone
abbrev pub plain_expression : Tree → Expression
plain_expression t = record {
  clauses =
      record { joint = joint.Or; sense = sense.Plain; term = record { reads = []; tree = t } } ∷ [];
}
