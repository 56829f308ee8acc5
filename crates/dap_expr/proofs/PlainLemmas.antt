-- The assembler's expressions have no brackets, no comparisons by signs and no names of the machine.
use Rattle.std.proofs.Common.{◌≡◌, ◌≤◌, length, ℕ, ◌-◌, List, [], ◌∷◌, ◌++◌, Bool, true, false, Option}
use Rattle.std.proofs.Common.{Some, None}
use Rattle.std.proofs.Common.{Result, Ok, Err, refl, sym, ap, subst, ◌∙◌, arith, append_assoc, append-nil}
use Rattle.std.specs.Prelude.{◌==◌, nat_lt, if◌then◌else◌, is_some, nat_le}
use Rattle.std.proofs.lemmas.Bool.Decides.{nat_tests}
use Rattle.asm_syntax.specs.declared.keyword.Keyword.TheVariants as keyword
use Rattle.asm_syntax.specs.declared.keyword.RegisterWord.{RegisterWord}
use Rattle.asm_syntax.specs.declared.statement.Operand.{Operand}
use Rattle.asm_syntax.specs.Lexemes.{Lexeme, Name, Keyword, Overlong, Number, Text, Sign, Piece}
use Rattle.asm_expr.specs.Tree as tree
use Rattle.asm_expr.specs.declared.expression.Unary.{Unary}
use Rattle.asm_expr.specs.declared.expression.Binary.{Binary}
use Rattle.asm_lex.specs.Operators.{is_sign, plain, symbols, prefix_of, infix_of, atom_in}
use Rattle.asm_lex.specs.Reading.{Spells, within_depth}
use Rattle.asm_lex.specs.Shape.{is_expression}
use Rattle.asm_laws.proofs.Meaning.{shape_is, expression_is}
use Rattle.asm_syntax.specs.Outcome.{Fault, ◌>>=◌}
use Rattle.asm_lex.specs.Climb.{expression, expr_at, first_column, whole}
use Rattle.asm_lex.specs.Tokens.{tokens_of}
use Rattle.asm_text.specs.Lines.{placed_well}
use Rattle.dap_expr.specs.declared.brackets.Read.{Read}
use Rattle.dap_expr.specs.Terms.{column_of, term_in}
use Rattle.dap_expr.specs.declared.clause.Joint.{Joint}
use Rattle.dap_expr.specs.declared.clause.Joint.TheVariants as joint
use Rattle.dap_expr.specs.declared.clause.Sense.TheVariants as sense
use Rattle.dap_expr.specs.declared.term.Term.{Term}
use Rattle.dap_expr.specs.Clauses.{Draft, joint_of, drafted_from, with_last_clause, clause_from}
use Rattle.dap_expr.specs.Expressions.{expression_in, expression_of, plain_expression}
use Rattle.dap_expr.specs.Words.{own_lexeme, together, pair_lexeme, is_word_name, part_after_dollar}
use Rattle.dap_expr.specs.Words.{expression_pieces, signs_together}
use Rattle.dap_expr.specs.Brackets.{flat_from, taken_out, width_of}

-- whether an operand is before the next lexeme, after one that may stand there
abbrev pub next_place : Bool → Lexeme → Option Bool
next_place false l =
    if is_some (prefix_of l) then Some false
    else (if is_sign 40 l then Some false else (if is_some (atom_in l) then Some true else None))
next_place true l = if is_some (infix_of l) then Some false else (if is_sign 41 l then Some true else None)

-- lexemes may stand one after the other, and end after an operand
abbrev pub shape : Option Bool → List Lexeme → Bool
shape None ls = false
shape (Some place) [] = place
shape (Some place) (l ∷ ls) = shape (next_place place l) ls

-- a lexeme may stand at a place
abbrev pub Stands : Bool → Lexeme → Type 0
Stands place l = (next : Bool) × (next_place place l ≡ Some next)

-- ---- what stands nowhere

no_register : (place : Bool) (w : RegisterWord) → Stands place (Keyword (keyword.Register w)) → ⊥
no_register false w h = cc
no_register true w h = cc

no_and : (place : Bool) → Stands place (Sign 1) → ⊥
no_and false h = let e = h.1 in cc
no_and true h = let e = h.1 in cc

no_or : (place : Bool) → Stands place (Sign 2) → ⊥
no_or false h = let e = h.1 in cc
no_or true h = let e = h.1 in cc

no_word_bracket : (place : Bool) → Stands place (Sign 0) → ⊥
no_word_bracket false h = let e = h.1 in cc
no_word_bracket true h = let e = h.1 in cc

no_exclamation : (place : Bool) → Stands place (Sign 33) → ⊥
no_exclamation false h = let e = h.1 in cc
no_exclamation true h = let e = h.1 in cc

no_ampersand : (place : Bool) → Stands place (Sign 38) → ⊥
no_ampersand false h = let e = h.1 in cc
no_ampersand true h = let e = h.1 in cc

no_bar : (place : Bool) → Stands place (Sign 124) → ⊥
no_bar false h = let e = h.1 in cc
no_bar true h = let e = h.1 in cc

no_less : (place : Bool) → Stands place (Sign 60) → ⊥
no_less false h = let e = h.1 in cc
no_less true h = let e = h.1 in cc

no_equals : (place : Bool) → Stands place (Sign 61) → ⊥
no_equals false h = let e = h.1 in cc
no_equals true h = let e = h.1 in cc

no_greater : (place : Bool) → Stands place (Sign 62) → ⊥
no_greater false h = let e = h.1 in cc
no_greater true h = let e = h.1 in cc

no_open : (place : Bool) → Stands place (Sign 91) → ⊥
no_open false h = let e = h.1 in cc
no_open true h = let e = h.1 in cc

no_close : (place : Bool) → Stands place (Sign 93) → ⊥
no_close false h = let e = h.1 in cc
no_close true h = let e = h.1 in cc

-- ---- what stands somewhere is as it was

is_not : (place : Bool) (s c : ℕ) → Stands place (Sign s) → (Stands place (Sign c) → ⊥) → (s == c) ≡ false
is_not place s c h none = by (s == c) refl
  where
    by : (b : Bool) → (s == c) ≡ b → b ≡ false
    by false e = refl
    by true e = let same : s ≡ c = grind (arith, nat_tests) in absurd (none (rw same at h))

unchanged : (place : Bool) (l : Lexeme) → Stands place (plain l) → own_lexeme l ≡ None
unchanged place (Name x) h = refl
unchanged place (Keyword (keyword.Register w)) h = absurd (no_register place w h)
unchanged place (Keyword (keyword.Mnemonic m)) h = refl
unchanged place (Keyword (keyword.Directive d)) h = refl
unchanged place (Keyword (keyword.Prefix op)) h = refl
unchanged place (Keyword (keyword.Infix op)) h = refl
unchanged place Overlong h = refl
unchanged place (Number n) h = refl
unchanged place (Text cs) h = refl
unchanged place (Sign s) h =
    rw (is_not place s 60 h (no_less place), is_not place s 62 h (no_greater place)) refl

pub not_closing : (place : Bool) (l : Lexeme) → Stands place (plain l) → is_sign 93 l ≡ false
not_closing place (Sign s) h = is_not place s 93 h (no_close place)
not_closing place (Name x) h = refl
not_closing place (Keyword k) h = refl
not_closing place Overlong h = refl
not_closing place (Number n) h = refl
not_closing place (Text cs) h = refl

no_joint : (place : Bool) (l : Lexeme) → Stands place (plain l) → joint_of l ≡ None
no_joint place (Sign s) h =
    rw (is_not place s 1 h (no_and place), is_not place s 2 h (no_or place)) refl
no_joint place (Name x) h = refl
no_joint place (Keyword k) h = refl
no_joint place Overlong h = refl
no_joint place (Number n) h = refl
no_joint place (Text cs) h = refl

pub not_reading : (place : Bool) (l : Lexeme) → Stands place (plain l) → width_of l ≡ None
not_reading place (Sign s) h =
    rw (is_not place s 91 h (no_open place), is_not place s 0 h (no_word_bracket place)) refl
not_reading place (Name x) h = refl
not_reading place (Keyword k) h = refl
not_reading place Overlong h = refl
not_reading place (Number n) h = refl
not_reading place (Text cs) h = refl

not_negation : (place : Bool) (l : Lexeme) → Stands place (plain l) → is_sign 33 l ≡ false
not_negation place (Sign s) h = is_not place s 33 h (no_exclamation place)
not_negation place (Name x) h = refl
not_negation place (Keyword k) h = refl
not_negation place Overlong h = refl
not_negation place (Number n) h = refl
not_negation place (Text cs) h = refl

not_opening : (place : Bool) (l : Lexeme) → Stands place (plain l) → is_sign 91 l ≡ false
not_opening place (Sign s) h = is_not place s 91 h (no_open place)
not_opening place (Name x) h = refl
not_opening place (Keyword k) h = refl
not_opening place Overlong h = refl
not_opening place (Number n) h = refl
not_opening place (Text cs) h = refl

after_dollar : (place next : Bool) → next_place place (Sign 36) ≡ Some next
    → next ≡ true
after_dollar false next h = cc
after_dollar true next h = absurd cc

no_name : (place : Bool) (x : List ℕ) → place ≡ true → Stands place (Name x) → ⊥
no_name false x e h = absurd cc
no_name true x e h = let e' = h.1 in cc

no_part : (place : Bool) (m : Lexeme) → place ≡ true → Stands place (plain m)
    → part_after_dollar m ≡ None
no_part place (Name x) e h = absurd (no_name place x e h)
no_part place (Keyword (keyword.Register w)) e h = absurd (no_register place w h)
no_part place (Keyword (keyword.Mnemonic m)) e h = refl
no_part place (Keyword (keyword.Directive d)) e h = refl
no_part place (Keyword (keyword.Prefix op)) e h = refl
no_part place (Keyword (keyword.Infix op)) e h = refl
no_part place Overlong e h = refl
no_part place (Number k) e h = refl
no_part place (Text cs) e h = refl
no_part place (Sign s) e h = refl

no_pair : (place : Bool) (s : ℕ) (m : Lexeme) → Stands place (plain m) → signs_together s m ≡ None
no_pair place s (Sign t) h = by (s == 38) (s == 124) refl refl
  where
    and-not : (t == 38) ≡ false
    and-not = is_not place t 38 h (no_ampersand place)

    or-not : (t == 124) ≡ false
    or-not = is_not place t 124 h (no_bar place)

    equals-not : (t == 61) ≡ false
    equals-not = is_not place t 61 h (no_equals place)

    by : (a b : Bool) → (s == 38) ≡ a → (s == 124) ≡ b → signs_together s (Sign t) ≡ None
    by true true e f = rw (e, f, and-not, or-not, equals-not) refl
    by true false e f = rw (e, f, and-not, equals-not) refl
    by false true e f = rw (e, f, or-not, equals-not) refl
    by false false e f = rw (e, f, equals-not) refl
no_pair place s (Name x) h = refl
no_pair place s (Keyword k) h = refl
no_pair place s Overlong h = refl
no_pair place s (Number k) h = refl
no_pair place s (Text cs) h = refl

together_none : (place next : Bool) (l m : Lexeme) → next_place place (plain l) ≡ Some next
    → Stands next (plain m) → together l m ≡ None
together_none place next (Sign s) m l-stands h = by (s == 36) refl
  where
    by : (b : Bool) → (s == 36) ≡ b → together (Sign s) m ≡ None
    by true e =
        let same : s ≡ 36 = grind (arith, nat_tests) in
        let after = after_dollar place next (rw same at l-stands) in
        rw (e, no_part next m after h) refl
    by false e = rw e (no_pair next s m h)
together_none place next (Name x) m l-stands h = refl
together_none place next (Keyword k) m l-stands h = refl
together_none place next Overlong m l-stands h = refl
together_none place next (Number k) m l-stands h = refl
together_none place next (Text cs) m l-stands h = refl

joined_none : (place next : Bool) (p q : Piece) → next_place place (plain p.1) ≡ Some next
    → Stands next (plain q.1) → pair_lexeme p q ≡ None
joined_none place next p q p-stands h = by (is_word_name p.1) (q.0 - p.0 == 1) refl refl
  where
    by : (a b : Bool) → is_word_name p.1 ≡ a → (q.0 - p.0 == 1) ≡ b → pair_lexeme p q ≡ None
    by true true e f = rw (e, f, not_opening next q.1 h, together_none place next p.1 q.1 p-stands h) refl
    by true false e f = rw (e, f, not_opening next q.1 h) refl
    by false true e f = rw (e, f, together_none place next p.1 q.1 p-stands h) refl
    by false false e f = rw (e, f) refl

-- ---- whole expressions

-- the place after the first lexeme, from which the others are allowed
abbrev pub GoesOn : Bool → Lexeme → List Lexeme → Type 0
GoesOn place l ls = (next : Bool) × (next_place place l ≡ Some next) × (shape (Some next) ls ≡ true)

pub goes_on : (place : Bool) (l : Lexeme) (ls : List Lexeme) → shape (Some place) (l ∷ ls) ≡ true
    → GoesOn place l ls
goes_on place l ls h = by (next_place place l) refl
  where
    by : (o : Option Bool) → next_place place l ≡ o → GoesOn place l ls
    by None e =
        let none : shape None ls ≡ true = subst (λ (o : Option Bool). shape o ls ≡ true) e h in absurd cc
    by (Some next) e = (next, e, subst (λ (o : Option Bool). shape o ls ≡ true) e h)

extended_same : (place : Bool) (ps : List Piece) → shape (Some place) (symbols ps) ≡ true
    → expression_pieces ps ≡ ps
unfolding expression_pieces
extended_same place [] h = refl
extended_same place (p ∷ []) h =
    let on = goes_on place (plain p.1) [] h in
    rw (unchanged place p.1 (on.0, on.1)) refl
extended_same place (p ∷ q ∷ ps) h =
    let on = goes_on place (plain p.1) (symbols (q ∷ ps)) h in
    let further = goes_on on.0 (plain q.1) (symbols ps) on.2 in
    rw (joined_none place on.0 p q on.1 (further.0, further.1), unchanged place p.1 (on.0, on.1))
    (ap (λ (rest : List Piece). p ∷ rest) (extended_same on.0 (q ∷ ps) on.2))

flat_same : (place : Bool) (ps before : List Piece) (rs : List Read)
    → shape (Some place) (symbols ps) ≡ true → flat_from (before, rs) ps ≡ Ok (before ++ ps, rs)
unfolding flat_from
flat_same place [] before rs h = ap (λ (all : List Piece). Ok (all, rs)) (sym (append-nil before))
flat_same place (p ∷ ps) before rs h =
    let on = goes_on place (plain p.1) (symbols ps) h in
    rw (not_closing place p.1 (on.0, on.1))
    (flat_same on.0 ps (before ++ p ∷ []) rs on.2
    ∙ ap (λ (all : List Piece). Ok (all, rs)) (append_assoc before (p ∷ []) ps))

taken_same : (ps : List Piece) → shape (Some false) (symbols ps) ≡ true → taken_out ps ≡ Ok (ps, [])
taken_same ps h = flat_same false ps [] [] h

-- ---- what spells a tree

next_prefix : (l : Lexeme) (op : Unary) → prefix_of l ≡ Some op → next_place false l ≡ Some false
next_prefix l op e = rw e refl

next_infix : (l : Lexeme) (op : Binary) → infix_of l ≡ Some op → next_place true l ≡ Some false
next_infix l op e = rw e refl

shape-spelled : (t : tree.Tree) (ls rest : List Lexeme) → Spells t ls
    → shape (Some false) (ls ++ rest) ≡ shape (Some true) rest
shape-spelled (tree.Number n) ls rest s = rw s refl
shape-spelled tree.Here ls rest s = rw s refl
shape-spelled (tree.Named x) ls rest s = rw s refl
shape-spelled (tree.Prefix op a) ls rest s =
    rw s.2 (ap (λ (p : Option Bool). shape p (s.1 ++ rest)) (next_prefix s.0 op s.3)
    ∙ shape-spelled a s.1 rest s.4)
shape-spelled (tree.Infix op a b) ls rest s =
    rw (s.3, append_assoc)
    (shape-spelled a s.0 (s.1 ∷ (s.2 ++ rest)) s.5
    ∙ ap (λ (p : Option Bool). shape p (s.2 ++ rest)) (next_infix s.1 op s.4)
    ∙ shape-spelled b s.2 rest s.6)
shape-spelled (tree.Parens a) ls rest s =
    rw (s.1, append_assoc) (shape-spelled a s.0 (Sign 41 ∷ rest) s.2)

shaped : (t : tree.Tree) (ls : List Lexeme) → Spells t ls → shape (Some false) ls ≡ true
shaped t ls s =
    ap (λ (all : List Lexeme). shape (Some false) all) (sym (append-nil ls)) ∙ shape-spelled t ls [] s

is_read : (column : ℕ) (ps : List Piece) (o : Operand) → expression column ps ≡ Ok o
    → is_expression ps ≡ true
unfolding expression
is_read column ps o h = by (is_expression ps) refl
  where
    by : (b : Bool) → is_expression ps ≡ b → b ≡ true
    by true e = refl
    by false e = let h' = rw e at h in absurd cc

tree_is : (first : ℕ) (t : tree.Tree) (o : Operand) → within_depth first t ≡ Ok o → t ≡ o.expr
tree_is first t o h = by (nat_le (tree.depth_of t) 64) refl
  where
    tree_or : tree.Tree → Result Operand Fault → tree.Tree
    tree_or other (Ok found) = found.expr
    tree_or other (Err f) = other

    by : (b : Bool) → nat_le (tree.depth_of t) 64 ≡ b → t ≡ o.expr
    by true e =
        let same : Ok (record { column = first; expr = t }) ≡ Ok o = rw e at h in
        ap (λ (r : Result Operand Fault). tree_or t r) same
    by false e = let h' = rw e at h in absurd cc

-- an operand's tree is spelled by its pieces
pub operand_spelled : (column : ℕ) (ps : List Piece) (o : Operand) → expression column ps ≡ Ok o
    → Spells o.expr (symbols ps)
operand_spelled column ps o h =
    let spelled = (shape_is ps).0 (is_read column ps o h) in
    subst (λ (t : tree.Tree). Spells t (symbols ps))
    (tree_is (first_column ps) spelled.0 o (sym (expression_is column ps spelled.0 spelled.1) ∙ h))
    spelled.1.0

pub has_shape : (column : ℕ) (ps : List Piece) (o : Operand) → expression column ps ≡ Ok o
    → shape (Some false) (symbols ps) ≡ true
has_shape column ps o h =
    let spelled = (shape_is ps).0 (is_read column ps o h) in shaped spelled.0 (symbols ps) spelled.1.0

-- ---- a single part

drafted_same : (place : Bool) (ps : List Piece) (d : Draft) → shape (Some place) (symbols ps) ≡ true
    → drafted_from d ps ≡ with_last_clause (record d { pieces = d.pieces ++ ps })
unfolding drafted_from
drafted_same place [] d h =
    ap (λ (all : List Piece). with_last_clause (record d { pieces = all })) (sym (append-nil d.pieces))
drafted_same place (p ∷ ps) d h =
    let on = goes_on place (plain p.1) (symbols ps) h in
    rw (no_joint place p.1 (on.0, on.1))
    (drafted_same on.0 ps (record d { pieces = d.pieces ++ p ∷ [] }) on.2
    ∙ ap (λ (all : List Piece). with_last_clause (record d { pieces = all }))
    (append_assoc d.pieces (p ∷ []) ps))

clause_same : (place : Bool) (j : Joint) (ps : List Piece) (t : Term) → shape (Some place) (symbols ps) ≡ true
    → term_in ps ≡ Ok t
    → clause_from j sense.Plain ps ≡ Ok (record { joint = j; sense = sense.Plain; term = t })
unfolding clause_from
clause_same place j [] t h found = rw found refl
clause_same place j (p ∷ ps) t h found =
    let on = goes_on place (plain p.1) (symbols ps) h in
    rw (not_negation place p.1 (on.0, on.1), found) refl

whole_moved : (column other first : ℕ) (found : Result (tree.Tree × List Lexeme) Fault) (o : Operand)
    → (found >>= whole column first) ≡ Ok o → (found >>= whole other first) ≡ Ok o
whole_moved column other first (Ok (t, [])) o h = h
whole_moved column other first (Ok (t, l ∷ ls)) o h = absurd cc
whole_moved column other first (Err f) o h = absurd cc

-- an expression's column matters to its faults alone
pub expression_moved : (column other : ℕ) (ps : List Piece) (o : Operand) → expression column ps ≡ Ok o
    → expression other ps ≡ Ok o
unfolding expression
expression_moved column other ps o h = by (is_expression ps) refl
  where
    by : (b : Bool) → is_expression ps ≡ b → expression other ps ≡ Ok o
    by true e =
        rw e (whole_moved column other (first_column ps) (expr_at (first_column ps) 64 0 (symbols ps)) o
        (rw e at h))
    by false e = let h' = rw e at h in absurd cc

term_same : (ps : List Piece) (o : Operand) → placed_well ps ≡ Ok ps → expression 1 ps ≡ Ok o
    → term_in ps ≡ Ok (record { reads = []; tree = o.expr })
unfolding term_in
term_same ps o well read =
    rw (well, taken_same ps (has_shape 1 ps o read), expression_moved 1 (column_of ps) ps o read) refl

pub plain_is_kept : (text : List ℕ) (ps : List Piece) (o : Operand) → length text ≤ 1024
    → tokens_of text ≡ Ok ps → placed_well ps ≡ Ok ps → expression 1 ps ≡ Ok o
    → expression_of text ≡ Ok (plain_expression o.expr)
unfolding expression_of expression_in
plain_is_kept text ps o short tokens well read =
    let shape-is = has_shape 1 ps o read in
    let fits : nat_lt 1024 (length text) ≡ false = grind (arith, nat_tests) in
    let opening : Draft = record { clauses = []; joint = joint.Or; pieces = [] } in
    let drafted = drafted_same false ps opening shape-is in
    let clause = clause_same false joint.Or ps _ shape-is (term_same ps o well read) in
    rw (fits, tokens, extended_same false ps shape-is, drafted, clause) refl
