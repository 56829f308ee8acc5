-- The statements of a listing.
use Rattle.std.proofs.Common.{◌≡◌, ℕ, suc, ◌+◌, ◌*◌, ◌<◌, ◌≤◌, inl, inr, List, [], ◌∷◌, ◌++◌, length, Ok}
use Rattle.std.proofs.Common.{refl, ap, ◌∙◌, arith}
use Rattle.std.specs.Prelude.{codes}
use Rattle.std.specs.Str.Lines.{lines}
use Rattle.std.proofs.lemmas.Bool.{le-ltb}
use Rattle.std.proofs.lemmas.List.{length-append}
use Rattle.asm_syntax.specs.declared.keyword.Keyword.TheVariants as keyword
use Rattle.asm_syntax.specs.declared.keyword.Directive.TheVariants as directive
use Rattle.asm_syntax.specs.declared.statement.Action.TheVariants as action
use Rattle.asm_syntax.specs.declared.statement.Statement.{Statement}
use Rattle.asm_syntax.specs.Lexemes.{Number}
use Rattle.asm_syntax.specs.Words.{keyword_of}
use Rattle.asm_text.specs.Statements.{step_of, statements_from, statements_of}
use Rattle.asm_syntax.specs.Numerals.{word_text}
use Rattle.i80_dis.specs.Text.{operand_field, text_line, origin_line}
use Rattle.i80_listings_laws.proofs.Printed.{IsShort, address_printed}
use Rattle.i80_listings_laws.proofs.PlainLines.{number_at, does, Says, origin_says}
use Rattle.i80_listings_laws.proofs.Instructions.{Giving, action_by, IsSaid, one_said}
use Rattle.i80_listings_laws.proofs.TextLines.{first_line}
use Rattle.i80_listings_laws.proofs.Cells.{Given, text_given, texts_given, statements_given}

-- ---- ORG

abbrev pub origin_text : ℕ → List ℕ
origin_text address = codes "ORG" ++ operand_field (word_text address ∷ [])

abbrev pub origin : ℕ → Statement
origin address = does (action.Origin (number_at 5 address))

pub origin_is : (address : ℕ) → address < 65536
    → IsSaid (origin_text address) (action.Origin (number_at 5 address))
unfolding keyword_of
origin_is address lt =
    one_said (keyword.Directive directive.Origin) (Number address) (codes "ORG") (word_text address)
    (action.Origin (number_at 5 address)) refl (address_printed address lt) (origin_says _ 5 address)

-- ---- lines

pub given_lines : (gs : List Given) → lines (text_given gs) ≡ texts_given gs
given_lines [] = refl
given_lines (g ∷ gs) =
    first_line g.text (text_given gs) g.line.said.short.plain ∙ ap (λ ts. g.text ∷ ts) (given_lines gs)

-- ---- statements

giving_step : (a : Giving) (n : ℕ) (line : List ℕ) → Says line (action_by a)
    → step_of n [] line ≡ Ok (does (action_by a), [])
unfolding step_of
giving_step (inl i) n line says = rw says refl
giving_step (inr ds) n line says = rw says refl

giving_goes : (a : Giving) (n : ℕ) (line : List ℕ) (rest : List (List ℕ)) (ss : List Statement)
    → Says line (action_by a)
    → statements_from (n + 1) [] rest ≡ Ok ss
    → statements_from n [] (line ∷ rest) ≡ Ok (does (action_by a) ∷ ss)
unfolding statements_from
giving_goes (inl i) n line rest ss says more = rw (giving_step (inl i) n line says, more) refl
giving_goes (inr ds) n line rest ss says more = rw (giving_step (inr ds) n line says, more) refl

none_left : (n : ℕ) → statements_from n [] [] ≡ Ok []
unfolding statements_from
none_left n = refl

given_statements : (gs : List Given) (n : ℕ)
    → statements_from n [] (texts_given gs) ≡ Ok (statements_given gs)
given_statements [] n = none_left n
given_statements (g ∷ gs) n =
    giving_goes g.line.acts n g.text (texts_given gs) (statements_given gs) g.line.said.says
    (given_statements gs (n + 1))

origin_goes : (address n : ℕ) (line : List ℕ) (rest : List (List ℕ)) (ss : List Statement)
    → Says line (action.Origin (number_at 5 address))
    → statements_from (n + 1) [] rest ≡ Ok ss → statements_from n [] (line ∷ rest) ≡ Ok (origin address ∷ ss)
unfolding statements_from step_of
origin_goes address n line rest ss says more = rw (says, more) refl

-- ---- how long the text is

ended_short : (line : List ℕ) → IsShort line → length (text_line line) ≤ 15
ended_short line short = let e = length-append line (codes "\n") in let m = short.most in omega (arith, e, m)

given_short : (gs : List Given) → length (text_given gs) ≤ 15 * length gs
given_short [] = omega arith
given_short (g ∷ gs) =
    let e = length-append (text_line g.text) (text_given gs) in
    let first = ended_short g.text g.line.said.short in
    let more = given_short gs in
    omega (arith, e, first, more)

texts_length : (gs : List Given) → length (texts_given gs) ≡ length gs
texts_length [] = refl
texts_length (g ∷ gs) = ap suc (texts_length gs)

-- ---- the cell

pub statements_are : (address : ℕ) (gs : List Given) → address < 65536 → length gs ≤ 65536
    → statements_of (origin_line address ++ text_given gs) ≡ Ok (origin address ∷ statements_given gs)
unfolding statements_of
statements_are address gs lt few =
    let o = origin_is address lt in
    let all : lines (origin_line address ++ text_given gs) ≡ origin_text address ∷ texts_given gs =
    first_line (origin_text address) (text_given gs) o.short.plain
    ∙ ap (λ ts. origin_text address ∷ ts) (given_lines gs) in
    let e = length-append (origin_line address) (text_given gs) in
    let first = ended_short (origin_text address) o.short in
    let rest = given_short gs in
    let short : length (origin_line address ++ text_given gs) ≤ 1048576 =
    omega (arith, e, first, rest, few) in
    let count : length (origin_text address ∷ texts_given gs) ≤ 65537 =
    let n = texts_length gs in omega (arith, n, few) in
    let in_bytes = le-ltb 1048576 (length (origin_line address ++ text_given gs)) short in
    let in_lines = le-ltb 65537 (length (origin_text address ∷ texts_given gs)) count in
    rw (in_bytes, all, in_lines)
    (origin_goes address 1 (origin_text address) (texts_given gs) (statements_given gs) o.says
    (given_statements gs (1 + 1)))

pub nothing_said : statements_of [] ≡ Ok []
unfolding statements_of statements_from
nothing_said = refl
