-- The lines of a listing with several runs: a piece is a line that gives bytes, or one with ORG.
use Rattle.std.proofs.Common.{◌≡◌, ℕ, suc, ◌+◌, ◌*◌, ◌<◌, ◌≤◌, inl, inr, List, [], ◌∷◌, ◌++◌, length, map}
use Rattle.std.proofs.Common.{Option, Some, None, Ok, refl, sym, ap, subst, ◌∙◌, arith, append_assoc}
use Rattle.std.specs.Prelude.{codes}
use Rattle.std.specs.Str.Lines.{lines}
use Rattle.std.proofs.lemmas.Bool.{le-ltb}
use Rattle.std.proofs.lemmas.List.{append-nil, length-append}
use Rattle.asm_syntax.specs.declared.keyword.Keyword.TheVariants as keyword
use Rattle.asm_syntax.specs.declared.keyword.Directive.TheVariants as directive
use Rattle.asm_syntax.specs.declared.statement.Action.{Action}
use Rattle.asm_syntax.specs.declared.statement.Action.TheVariants as action
use Rattle.asm_syntax.specs.declared.statement.Statement.{Statement}
use Rattle.asm_syntax.specs.Lexemes.{Number}
use Rattle.asm_syntax.specs.Numerals.{word_text}
use Rattle.asm_syntax.specs.Words.{keyword_of}
use Rattle.asm_lex.specs.Climb.{tree_or_nesting, operand_at, chain, expr_at, expression}
use Rattle.asm_lex.specs.Commas.{operands_of}
use Rattle.asm_lex.specs.Shape.{shape}
use Rattle.asm_lex.specs.Words.{misplaced_from}
use Rattle.asm_text.specs.Forms.{directive_of}
use Rattle.asm_text.specs.Lines.{label_at, action_of, operation_at, line_of}
use Rattle.asm_text.specs.Statements.{step_of, statements_from, statements_of}
use Rattle.i80_listings_laws.proofs.PlainLines.{number_at, does, Says, NumberSays}
use Rattle.i80_listings_laws.proofs.TextLines.{first_line}
use Rattle.i80_dis.specs.Text.{operand_field, text_line}
use Rattle.i80_listings_laws.proofs.Printed.{IsShort, address_printed}
use Rattle.i80_listings_laws.proofs.Instructions.{Giving, action_by, IsSaid, one_said}
use Rattle.i80_listings_laws.proofs.Cells.{Given}
use Rattle.i80_listings_laws.proofs.Statements.{origin_text, origin_is}
use Rattle.i80_listings_laws.specs.Text.{start_text}
use Rattle.i80_listings_laws.specs.Law.{IsStart}

-- ---- pieces

pub data Piece : Type 0 where
  gives : Given → Piece
  begins : (address : ℕ) → address < 65536 → Piece

abbrev pub text_in : Piece → List ℕ
text_in (gives g) = g.text
text_in (begins address lt) = origin_text address

abbrev pub action_in : Piece → Action
action_in (gives g) = action_by g.line.acts
action_in (begins address lt) = action.Origin (number_at 5 address)

said : (p : Piece) → IsSaid (text_in p) (action_in p)
said (gives g) = g.line.said
said (begins address lt) = origin_is address lt

abbrev pub text_by : List Piece → List ℕ
text_by [] = []
text_by (p ∷ ps) = text_line (text_in p) ++ text_by ps

abbrev pub texts_by : List Piece → List (List ℕ)
texts_by ps = map text_in ps

abbrev pub statements_by : List Piece → List Statement
statements_by ps = map (λ p. does (action_in p)) ps

-- ---- END

abbrev pub end_text : ℕ → List ℕ
end_text start = codes "END" ++ operand_field (word_text start ∷ [])

abbrev pub end_action : ℕ → Action
end_action start = action.End (Some (number_at 5 start))

number_read : (column c n : ℕ) → expression column ((c, Number n) ∷ []) ≡ Ok (number_at c n)
unfolding expression expr_at operand_at chain tree_or_nesting shape
number_read column c n = refl

end_says : NumberSays (keyword.Directive directive.End) (λ o. action.End (Some o))
unfolding line_of label_at operation_at action_of misplaced_from directive_of operands_of
end_says line c n e = rw (e, number_read 1 c n) refl

pub end_is : (start : ℕ) → start < 65536 → IsSaid (end_text start) (end_action start)
unfolding keyword_of
end_is start lt =
    one_said (keyword.Directive directive.End) (Number start) (codes "END") (word_text start)
    (end_action start) refl (address_printed start lt) (end_says _ 5 start)

-- what stands behind the pieces
abbrev pub end_texts : Option ℕ → List (List ℕ)
end_texts None = []
end_texts (Some start) = end_text start ∷ []

abbrev pub end_statements : Option ℕ → List Statement
end_statements None = []
end_statements (Some start) = does (end_action start) ∷ []

-- ---- lines

pub piece_lines : (ps : List Piece) (rest : List ℕ) → lines (text_by ps ++ rest) ≡ texts_by ps ++ lines rest
piece_lines [] rest = refl
piece_lines (p ∷ ps) rest =
    let s = said p in
    ap lines (append_assoc (text_line (text_in p)) (text_by ps) rest)
    ∙ first_line (text_in p) (text_by ps ++ rest) s.short.plain
    ∙ ap (λ ts. text_in p ∷ ts) (piece_lines ps rest)

-- ---- statements

none_left : (n : ℕ) → statements_from n [] [] ≡ Ok []
unfolding statements_from
none_left n = refl

giving_goes : (a : Giving) (n : ℕ) (line : List ℕ) (rest : List (List ℕ)) (ss : List Statement)
    → Says line (action_by a) → statements_from (n + 1) [] rest ≡ Ok ss
    → statements_from n [] (line ∷ rest) ≡ Ok (does (action_by a) ∷ ss)
unfolding statements_from step_of
giving_goes (inl i) n line rest ss says more = rw (says, more) refl
giving_goes (inr ds) n line rest ss says more = rw (says, more) refl

piece_goes : (p : Piece) (n : ℕ) (rest : List (List ℕ)) (ss : List Statement)
    → statements_from (n + 1) [] rest ≡ Ok ss
    → statements_from n [] (text_in p ∷ rest) ≡ Ok (does (action_in p) ∷ ss)
unfolding statements_from step_of
piece_goes (gives g) n rest ss more = giving_goes g.line.acts n g.text rest ss g.line.said.says more
piece_goes (begins address lt) n rest ss more =
    let o = origin_is address lt in
    let says = o.says in
    rw (says, more) refl

pub pieces_go : (ps : List Piece) (n : ℕ) (rest : List (List ℕ)) (ss : List Statement)
    → ((m : ℕ) → statements_from m [] rest ≡ Ok ss)
    → statements_from n [] (texts_by ps ++ rest) ≡ Ok (statements_by ps ++ ss)
pieces_go [] n rest ss more = more n
pieces_go (p ∷ ps) n rest ss more =
    piece_goes p n (texts_by ps ++ rest) (statements_by ps ++ ss) (pieces_go ps (n + 1) rest ss more)

end_goes : (start n : ℕ) → Says (end_text start) (end_action start)
    → statements_from n [] (end_text start ∷ []) ≡ Ok (does (end_action start) ∷ [])
unfolding statements_from step_of
end_goes start n says = rw says refl

-- ---- how long the text is

pub line_short : (line : List ℕ) → IsShort line → length (text_line line) ≤ 15
line_short line short = let e = length-append line (codes "\n") in let m = short.most in omega (arith, e, m)

pub pieces_short : (ps : List Piece) → length (text_by ps) ≤ 15 * length ps
pieces_short [] = omega arith
pieces_short (p ∷ ps) =
    let s = said p in
    let e = length-append (text_line (text_in p)) (text_by ps) in
    let first = line_short (text_in p) s.short in
    let more = pieces_short ps in
    omega (arith, e, first, more)

pub texts_length : (ps : List Piece) → length (texts_by ps) ≡ length ps
texts_length [] = refl
texts_length (p ∷ ps) = ap suc (texts_length ps)

-- ---- the cell

end_lines : (start : Option ℕ) → IsStart start → lines (start_text start) ≡ end_texts start
end_lines None lt = refl
end_lines (Some start) lt =
    let e = end_is start lt in
    ap lines (sym (append-nil (text_line (end_text start)))) ∙ first_line (end_text start) [] e.short.plain

end_short : (start : Option ℕ) → IsStart start → length (start_text start) ≤ 15
end_short None lt = omega arith
end_short (Some start) lt = let e = end_is start lt in line_short (end_text start) e.short

end_goes_on : (start : Option ℕ) → IsStart start → (n : ℕ)
    → statements_from n [] (end_texts start) ≡ Ok (end_statements start)
end_goes_on None lt n = none_left n
end_goes_on (Some start) lt n = let e = end_is start lt in end_goes start n e.says

pub all_lines : (ps : List Piece) (start : Option ℕ) → IsStart start
    → lines (text_by ps ++ start_text start) ≡ texts_by ps ++ end_texts start
all_lines ps start lt =
    piece_lines ps (start_text start) ∙ ap (λ ts. texts_by ps ++ ts) (end_lines start lt)

pub statements_are : (ps : List Piece) (start : Option ℕ) → IsStart start
    → length (lines (text_by ps ++ start_text start)) ≤ 65537
    → statements_of (text_by ps ++ start_text start) ≡ Ok (statements_by ps ++ end_statements start)
unfolding statements_of
statements_are ps start lt few =
    let text = text_by ps ++ start_text start in
    let all = all_lines ps start lt in
    let count : length (texts_by ps ++ end_texts start) ≤ 65537 =
    subst (λ (ls : List (List ℕ)). length ls ≤ 65537) all few in
    let both = length-append (texts_by ps) (end_texts start) in
    let long = texts_length ps in
    let first = pieces_short ps in
    let last = end_short start lt in
    let e = length-append (text_by ps) (start_text start) in
    let short : length text ≤ 1048576 = omega (arith, count, both, long, first, last, e) in
    let in_bytes = le-ltb 1048576 (length text) short in
    let in_lines = le-ltb 65537 (length (texts_by ps ++ end_texts start)) count in
    rw (in_bytes, all, in_lines)
    (pieces_go ps 1 (end_texts start) (end_statements start) (end_goes_on start lt))
