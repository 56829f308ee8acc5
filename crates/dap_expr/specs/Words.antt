-- What an expression over a board has beside the assembler's words: the machine's names, and comparisons by
-- signs.
use Rattle.std.specs.Prelude.{ℕ, ◌-◌, List, [], ◌∷◌, Option, Some, None, option_map, if◌then◌else◌, ◌==◌}
use Rattle.std.specs.Prelude.{Bool, false, ◌&&◌, codes, unwrap_or}
use Rattle.std.specs.Str.{bytes_eq}
use Rattle.asm_expr.specs.declared.expression.Binary.{Binary}
use Rattle.asm_expr.specs.declared.expression.Binary.TheVariants as binary
use Rattle.asm_syntax.specs.declared.keyword.Keyword.TheVariants as keyword
use Rattle.asm_syntax.specs.Ascii.{dollar}
use Rattle.asm_syntax.specs.Lexemes.{Lexeme, Name, Keyword, Sign, Piece}
use Rattle.asm_lex.specs.Operators.{is_sign}
use Rattle.dap_expr.specs.declared.part.Part.{Part}
use Rattle.dap_expr.specs.declared.part.Part.TheVariants as part
use Rattle.dap_expr.specs.Parts.{own_name, part_named}

-- ---- characters

-- !
abbrev pub exclamation : ℕ
exclamation = 33

-- &
abbrev pub ampersand : ℕ
ampersand = 38

-- |
abbrev pub bar : ℕ
bar = 124

-- `&&` and `||` as one sign each, which no text has
abbrev pub and_sign : ℕ
and_sign = 1

abbrev pub or_sign : ℕ
or_sign = 2

-- <
abbrev pub less_than : ℕ
less_than = 60

-- =
abbrev pub equals : ℕ
equals = 61

-- >
abbrev pub greater_than : ℕ
greater_than = 62

-- [
abbrev pub open_bracket : ℕ
open_bracket = 91

-- `word` and `[` as one sign, which no text has
abbrev pub word_bracket : ℕ
word_bracket = 0

-- ]
abbrev pub close_bracket : ℕ
close_bracket = 93

-- ---- words

-- `==`, `!=`, `<=` and `>=`
abbrev pub comparison : ℕ → ℕ → Option Binary
comparison first second =
    if second == equals
    then (if first == equals then Some binary.Equal
    else (if first == exclamation then Some binary.NotEqual
    else (if first == less_than then Some binary.LessOrEqual
    else (if first == greater_than then Some binary.GreaterOrEqual else None))))
    else None

-- a part, by the name that no symbol has
abbrev pub part_lexeme : Part → Lexeme
part_lexeme p = Name (own_name p)

-- the part that `$` and this are
abbrev pub part_after_dollar : Lexeme → Option Part
part_after_dollar (Keyword (keyword.Register word)) = Some (part.Register word)
part_after_dollar (Name x) = part_named x
part_after_dollar _ = None

-- `&&`, `||` or a comparison
abbrev pub two_signs : ℕ → ℕ → Option Lexeme
two_signs first second =
    if first == ampersand && second == ampersand then Some (Sign and_sign)
    else (if first == bar && second == bar then Some (Sign or_sign)
    else option_map (λ op. Keyword (keyword.Infix op)) (comparison first second))

abbrev pub signs_together : ℕ → Lexeme → Option Lexeme
signs_together first (Sign second) = two_signs first second
signs_together first _ = None

-- what two lexemes are together: `$` with a name of the machine, or an operator of two signs
abbrev pub together : Lexeme → Lexeme → Option Lexeme
together (Sign first) second =
    if first == dollar then option_map part_lexeme (part_after_dollar second)
    else signs_together first second
together _ second = None

-- `word` in either case of letters
abbrev pub is_word_name : Lexeme → Bool
is_word_name (Name x) = bytes_eq x (codes "WORD")
is_word_name _ = false

-- what two pieces are together: `word[`, or lexemes that stand side by side
abbrev pub pair_lexeme : Piece → Piece → Option Lexeme
pair_lexeme p q =
    if is_word_name p.1 && is_sign open_bracket q.1 then Some (Sign word_bracket)
    else (if q.0 - p.0 == 1 then together p.1 q.1 else None)

-- what a lexeme is by itself, if it is another one: a register word is the register, `<` and `>` compare
abbrev pub own_lexeme : Lexeme → Option Lexeme
own_lexeme (Keyword (keyword.Register word)) = Some (part_lexeme (part.Register word))
own_lexeme (Sign s) =
    if s == less_than then Some (Keyword (keyword.Infix binary.Less))
    else (if s == greater_than then Some (Keyword (keyword.Infix binary.Greater)) else None)
own_lexeme l = None

-- what a lexeme is by itself
abbrev pub alone : Lexeme → Lexeme
alone l = unwrap_or (own_lexeme l) l

-- two pieces as one, before what follows both, else the first by itself, before what follows it
abbrev pub one_or_two : Option Lexeme → Piece → List Piece → List Piece → List Piece
one_or_two None p after_one after_two = (p.0, alone p.1) ∷ after_one
one_or_two (Some l) p after_one after_two = (p.0, l) ∷ after_two

-- the assembler's pieces for those of an expression over a board
unfoldable pub expression_pieces : List Piece → List Piece
expression_pieces [] = []
expression_pieces (p ∷ []) = (p.0, alone p.1) ∷ []
expression_pieces (p ∷ q ∷ ps) =
    one_or_two (pair_lexeme p q) p (expression_pieces (q ∷ ps)) (expression_pieces ps)
