-- Words that can't stand where they do.
use Rattle.std.specs.Prelude.{ℕ, List, [], ◌∷◌, Bool, true, false, Option, Some, None, if◌then◌else◌, ◌==◌}
use Rattle.std.specs.Prelude.{◌&&◌, ◌||◌, not}
use Rattle.asm_syntax.specs.declared.keyword.Keyword as keywords
use Rattle.asm_syntax.specs.declared.keyword.Keyword.TheVariants as keyword
use Rattle.asm_syntax.specs.Ascii.{open_parenthesis, asterisk, plus, comma, minus, slash}
use Rattle.asm_syntax.specs.Lexemes.{Lexeme, Keyword, Overlong, Sign, Piece}
use Rattle.asm_lex.specs.Commas.{is_comma}

-- after a comma, an opening parenthesis or an operator an atom of an expression begins
abbrev pub leads : Lexeme → Bool
leads (Sign s) =
    s == comma || (s == open_parenthesis || (s == plus || (s == minus || (s == asterisk || s == slash))))
leads (Keyword (keyword.Prefix op)) = true
leads (Keyword (keyword.Infix op)) = true
leads _ = false

-- an operand ends before these pieces
abbrev pub ends_operand : List Piece → Bool
ends_operand [] = true
ends_operand (p ∷ ps) = is_comma p.1

-- where an atom begins, HIGH, LOW and NOT may stand, and a register that is a whole operand
abbrev pub keyword_misplaced : Bool → keywords.Keyword → List Piece → Bool
keyword_misplaced begins_operand (keyword.Prefix op) rest = false
keyword_misplaced begins_operand (keyword.Register r) rest =
    not (begins_operand && ends_operand rest)
keyword_misplaced begins_operand _ rest = true

-- whether a lexeme is a word that can't stand before these pieces, where an operand begins or
-- doesn't, and where an atom begins or doesn't
abbrev pub is_misplaced : Bool → Bool → Lexeme → List Piece → Bool
is_misplaced begins_operand begins_atom Overlong rest = true
is_misplaced begins_operand begins_atom (Keyword k) rest =
    begins_atom && keyword_misplaced begins_operand k rest
is_misplaced begins_operand begins_atom _ rest = false

-- the column of the first word that can't stand where it does
unfoldable pub misplaced_from : Bool → Bool → List Piece → Option ℕ
misplaced_from begins_operand begins_atom [] = None
misplaced_from begins_operand begins_atom (p ∷ ps) =
    if is_misplaced begins_operand begins_atom p.1 ps then Some p.0
    else misplaced_from (is_comma p.1) (leads p.1) ps

-- and from the first operand on
abbrev pub misplaced_word : List Piece → Option ℕ
misplaced_word ps = misplaced_from true true ps
