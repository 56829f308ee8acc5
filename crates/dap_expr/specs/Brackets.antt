-- Reads of memory: `[e]` and `word[e]`. The last bracket that is open before a closing one is its other one,
-- and what is between them is the address. A name that no text has stands for the read from then on.
use Rattle.std.specs.Prelude.{ℕ, ◌+◌, List, [], ◌∷◌, ◌++◌, length, take, drop, Option, Some, None, Result, Ok}
use Rattle.std.specs.Prelude.{Err, if◌then◌else◌, nat_lt, ◌==◌, option_map}
use Rattle.asm_expr.specs.Tree.{Tree}
use Rattle.asm_syntax.specs.declared.fault.FaultKind.TheVariants as kind
use Rattle.asm_syntax.specs.Lexemes.{Lexeme, Name, Sign, Piece, pieces_of}
use Rattle.asm_syntax.specs.Outcome.{Fault, ◌>>=◌}
use Rattle.asm_lex.specs.Operators.{is_sign}
use Rattle.asm_lex.specs.Climb.{expression}
use Rattle.asm_build.specs.Reading.{or_else}
use Rattle.dap_expr.specs.declared.brackets.Flat as declared
use Rattle.dap_expr.specs.declared.brackets.Open.{Open}
use Rattle.dap_expr.specs.declared.brackets.Read.{Read}
use Rattle.dap_expr.specs.declared.brackets.Width.{Width}
use Rattle.dap_expr.specs.declared.brackets.Width.TheVariants as width
use Rattle.dap_expr.specs.Words.{open_bracket, word_bracket, close_bracket}

-- pieces in which names stand for reads, and the reads
abbrev pub Flat : Type 0
Flat = List Piece × List Read

abbrev pub flat_of : declared.Flat → Flat
flat_of f = (pieces_of f.tokens.items, f.reads.items)

-- how much an opening bracket reads
abbrev pub width_of : Lexeme → Option Width
width_of (Sign s) =
    if s == open_bracket then Some width.Byte else (if s == word_bracket then Some width.Word else None)
width_of _ = None

abbrev pub open_at : ℕ → Piece → Option Open
open_at index p =
    option_map (λ w. record { index = index; column = p.0; width = w }) (width_of p.1)

-- the last opening bracket from an index on, else one found before
unfoldable pub last_open_from : ℕ → Option Open → List Piece → Option Open
last_open_from index found [] = found
last_open_from index found (p ∷ ps) = last_open_from (index + 1) (or_else (open_at index p) found) ps

abbrev pub last_open : List Piece → Option Open
last_open ps = last_open_from 0 None ps

-- the name that stands for a read: there are 16
abbrev pub place_name : ℕ → Option (List ℕ)
place_name number = if nat_lt number 16 then Some (number ∷ []) else None

abbrev pub or_nesting : ℕ → Option (List ℕ) → Result Lexeme Fault
or_nesting column None = Err (column, kind.Nesting)
or_nesting column (Some name) = Ok (Name name)

abbrev pub place : ℕ → ℕ → Result Lexeme Fault
place column number = or_nesting column (place_name number)

abbrev pub or_operands : ℕ → Option Open → Result Open Fault
or_operands column None = Err (column, kind.Operands)
or_operands column (Some bracket) = Ok bracket

-- the opening bracket for a closing one at this column
abbrev pub bracket_for : ℕ → List Piece → Result Open Fault
bracket_for column ps = or_operands column (last_open ps)

-- a read at this address is taken out from its opening bracket on
abbrev pub with_read : Open → Lexeme → Tree → Flat → Flat
with_read bracket l address f = (
  take bracket.index f.0 ++ (bracket.column, l) ∷ [],
  f.1 ++ record { width = bracket.width; address = address } ∷ [],
)

-- the pieces and reads after a closing bracket
unfoldable pub after_closing : ℕ → Flat → Result Flat Fault
after_closing column f = do
  bracket ← bracket_for column f.0
  l ← place bracket.column (length f.1)
  address ← expression bracket.column (drop (bracket.index + 1) f.0)
  Ok (with_read bracket l address.expr f)

-- and after any piece
abbrev pub step : Flat → Piece → Result Flat Fault
step f p = if is_sign close_bracket p.1 then after_closing p.0 f else Ok (f.0 ++ p ∷ [], f.1)

unfoldable pub flat_from : Flat → List Piece → Result Flat Fault
flat_from f [] = Ok f
flat_from f (p ∷ ps) = step f p >>= λ g. flat_from g ps

abbrev pub taken_out : List Piece → Result Flat Fault
taken_out ps = flat_from ([], []) ps

-- ---- for laws

-- the sign that opens a read of this width
abbrev pub bracket_of : Width → Lexeme
bracket_of width.Byte = Sign open_bracket
bracket_of width.Word = Sign word_bracket

-- pieces in brackets at these columns
abbrev pub in_brackets : ℕ → Width → List Piece → ℕ → List Piece
in_brackets c w ps d = (c, bracket_of w) ∷ (ps ++ (d, Sign close_bracket) ∷ [])
