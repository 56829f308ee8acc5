-- The log message that a text is, or its first fault, and its text on a board.
use Rattle.std.specs.Prelude.{◌≡◌, ℕ, ◌+◌, List, [], ◌∷◌, Bool, true, Result, Ok, Err, length, nat_lt}
use Rattle.std.specs.Prelude.{if◌then◌else◌}
use Rattle.std.specs.List.{flat_map, list_any, list_all}
use Rattle.base_text.specs.Bytes.{Text}
use Rattle.asm_syntax.specs.declared.fault.FaultKind.TheVariants as kind
use Rattle.asm_syntax.specs.declared.fault.LineFault.{LineFault}
use Rattle.asm_syntax.specs.declared.fault.LineFault.TheVariants as line
use Rattle.asm_syntax.specs.Outcome.{Fault, ◌>>=◌}
use Rattle.lab_core.specs.Board.{Board}
use Rattle.dap_expr.specs.declared.expression.Expression.{Expression}
use Rattle.dap_expr.specs.Expressions.{expression_of}
use Rattle.dap_log.specs.declared.message.LogFault.{LogFault}
use Rattle.dap_log.specs.declared.message.LogFault.TheVariants as fault
use Rattle.dap_log.specs.declared.message.LogMessage.{LogMessage}
use Rattle.dap_log.specs.declared.part.Part.{Part}
use Rattle.dap_log.specs.declared.part.Part.TheVariants as part
use Rattle.dap_log.specs.declared.part.Radix.{Radix}
use Rattle.dap_log.specs.Pieces.{Piece, Plain, Doubled, Unclosed, spelling, is_whole, pieces_of}
use Rattle.dap_log.specs.Pieces as pieces
use Rattle.dap_log.specs.Parts.{expression_text, radix_of, part_text, is_undefined}

-- what a function returns is what was read, or out of memory
abbrev pub LogGives : {A : Type 0} → Result A LogFault → Result A LogFault → Type 0
LogGives (Err fault.OutOfMemory) read = Unit {0}
LogGives result read = result ≡ read

-- ---- what a text is

-- the expression in braces that open at a column, its fault at the column in the message
abbrev pub read_value : ℕ → Radix → Result Expression Fault → Result Part LogFault
read_value brace r (Ok e) = Ok (part.Value e r)
read_value brace r (Err f) = Err (fault.At (brace + f.0) f.1)

abbrev pub value_part : ℕ → Text → Result Part LogFault
value_part brace text = read_value brace (radix_of text) (expression_of (expression_text text))

-- the part that a piece is, which begins at a column
abbrev pub part_of : ℕ × Piece → Result Part LogFault
part_of (column, Plain text) = Ok (part.Plain text)
part_of (column, Doubled brace) = Ok (part.Plain brace)
part_of (column, pieces.Expression text) = value_part column text
part_of (column, Unclosed) = Err (fault.OpenBrace column)

-- the parts that pieces are, or the first fault
unfoldable pub parts_of : List (ℕ × Piece) → Result (List Part) LogFault
parts_of [] = Ok []
parts_of (p ∷ ps) = part_of p >>= λ first. parts_of ps >>= λ rest. Ok (first ∷ rest)

-- the message of a text of at most 1,024 bytes
unfoldable pub message_of : Text → Result LogMessage LogFault
message_of text =
    if nat_lt 1024 (length text) then Err (fault.At 1 kind.TooLong)
    else (parts_of (pieces_of text) >>= λ ps. Ok (record { parts = ps }))

-- ---- what it is on a board

abbrev pub text_on : Board → LogMessage → Text
text_on b m = flat_map (part_text b) m.parts

-- whether a value in it is Undefined
abbrev pub is_undefined_on : Board → LogMessage → Bool
is_undefined_on b m = list_any (is_undefined b) m.parts

-- ---- for functions and laws

-- a fault of the expression in braces that open at a column is this fault, or out of memory
abbrev pub IsWithin : ℕ → LineFault → LogFault → Type 0
IsWithin brace inner fault.OutOfMemory = Unit {0}
IsWithin brace (line.At column kind) found = found ≡ fault.At (brace + column) kind
IsWithin brace line.OutOfMemory found = found ≡ fault.OutOfMemory

-- the text is how pieces are written, one after the other, and the message's parts are what these are
pub record IsSpelled (text : Text) (m : LogMessage) : Type 0 where
  pub pieces : List (ℕ × Piece)
  pub whole : list_all (λ p. is_whole p.1) pieces ≡ true
  pub written : flat_map (λ p. spelling p.1) pieces ≡ text
  pub read : parts_of pieces ≡ Ok m.parts

-- a text is a message with this text on a board
abbrev pub HasText : Board → Text → Text → Type 0
HasText b text shown = (m : LogMessage) × (message_of text ≡ Ok m) × (text_on b m ≡ shown)
