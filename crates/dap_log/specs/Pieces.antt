-- How a log message is written (Debug Adapter Protocol, "SourceBreakpoint": `logMessage`).
use Rattle.std.specs.Prelude.{◌≡◌, ℕ, zero, suc, ◌+◌, ◌-◌, List, [], ◌∷◌, ◌++◌, length, drop}
use Rattle.std.specs.Prelude.{Bool, true, false, not, ◌||◌, ◌==◌, if◌then◌else◌}
use Rattle.std.specs.List.{take_while, before_first, list_any, list_all}
use Rattle.std.specs.Str.{bytes_eq}
use Rattle.base_text.specs.Bytes.{Text}
use Rattle.dap_log.specs.declared.piece.Front.{Front}
use Rattle.dap_log.specs.declared.piece.Piece as declared
use Rattle.dap_log.specs.declared.piece.Piece.TheVariants as piece

-- {
abbrev pub open_brace : ℕ
open_brace = 123

-- }
abbrev pub close_brace : ℕ
close_brace = 125

-- a character other than braces
abbrev pub is_plain : ℕ → Bool
is_plain c = not (c == open_brace || c == close_brace)

-- characters that stand for themselves, a brace that is written twice, an expression in braces, and a brace
-- that isn't closed
pub data Piece : Type 0 where
  Plain : (text : Text) → Piece
  Doubled : (brace : Text) → Piece
  Expression : (text : Text) → Piece
  Unclosed : Piece

-- how a piece is written
abbrev pub spelling : Piece → Text
spelling (Plain text) = text
spelling (Doubled brace) = brace ++ brace
spelling (Expression text) = open_brace ∷ text ++ close_brace ∷ []
spelling Unclosed = open_brace ∷ []

-- ---- the pieces of a text

abbrev pub begins_with : ℕ → Text → Bool
begins_with c [] = false
begins_with c (d ∷ rest) = d == c

abbrev pub is_close : ℕ → Bool
is_close c = c == close_brace

-- an expression ends at the first closing brace
abbrev pub expression_piece : Text → Piece
expression_piece rest =
    if list_any is_close rest then Expression (before_first is_close rest) else Unclosed

-- the piece that an opening brace begins, given what follows that
abbrev pub open_piece : Text → Piece
open_piece rest =
    if begins_with open_brace rest then Doubled (open_brace ∷ []) else expression_piece rest

-- and a closing brace
abbrev pub close_piece : Text → Piece
close_piece rest =
    if begins_with close_brace rest then Doubled (close_brace ∷ []) else Plain (close_brace ∷ [])

-- the piece at the front
abbrev pub piece_at : Text → Piece
piece_at [] = Plain []
piece_at (c ∷ rest) =
    if c == open_brace then open_piece rest
    else (if c == close_brace then close_piece rest else Plain (take_while is_plain (c ∷ rest)))

-- the pieces with their columns, from a column on; the first skip bytes belong to the piece before
unfoldable pub pieces_from : ℕ → ℕ → Text → List (ℕ × Piece)
pieces_from skip column [] = []
pieces_from (suc skip) column (c ∷ rest) = pieces_from skip (column + 1) rest
pieces_from zero column (c ∷ rest) =
    (column, piece_at (c ∷ rest))
    ∷ pieces_from (length (spelling (piece_at (c ∷ rest))) - 1) (column + 1) rest

-- the pieces of a text with their columns
abbrev pub pieces_of : Text → List (ℕ × Piece)
pieces_of text = pieces_from 0 1 text

-- ---- for laws

-- characters that stand for themselves are no braces, but for one closing brace; only a brace is written
-- twice; an expression has no closing brace, and doesn't begin with an opening one
abbrev pub is_whole : Piece → Bool
is_whole (Plain text) = list_all is_plain text || bytes_eq text (close_brace ∷ [])
is_whole (Doubled brace) = bytes_eq brace (open_brace ∷ []) || bytes_eq brace (close_brace ∷ [])
is_whole (Expression text) = not (list_any is_close text || begins_with open_brace text)
is_whole Unclosed = true

-- ---- what functions return

abbrev pub piece_of : declared.Piece → Piece
piece_of (piece.Plain text) = Plain text.now
piece_of (piece.Doubled brace) = Doubled brace.now
piece_of (piece.Expression text) = Expression text.now
piece_of piece.Unclosed = Unclosed

-- the piece at the front of a text, and what follows it there
pub record IsFront (p : Piece) (text : Text) (front : Front) : Type 0 where
  pub piece : piece_of front.piece ≡ p
  pub rest : front.rest.now ≡ drop (length (spelling p)) text
