-- The names in a text are none of those that only the machine's parts and reads have.
use Rattle.std.proofs.Common.{◌≡◌, ◌≤◌, ℕ, ◌+◌, List, [], ◌∷◌, ◌++◌, Bool, true, false, Option, Some, None}
use Rattle.std.proofs.Common.{Ok, length, refl, sym, ap, subst, ◌∙◌, arith}
use Rattle.std.specs.Prelude.{◌==◌, nat_lt, map, is_some, unwrap_or, replicate, if◌then◌else◌}
use Rattle.std.specs.List.{list_all}
use Rattle.std.specs.Char.{to_ascii_uppercase}
use Rattle.std.proofs.lemmas.Bool.{and_parts}
use Rattle.std.proofs.lemmas.Bool.Decides.{nat_tests}
use Rattle.std.proofs.lemmas.Option.{slice_get_past}
use Rattle.std.proofs.lemmas.List.Folds.{list_all-append}
use Rattle.asm_expr.specs.Tree as tree
use Rattle.asm_expr.specs.Tree.{Tree, names_of}
use Rattle.asm_expr.specs.Value.{number_of, value_of}
use Rattle.asm_syntax.specs.declared.keyword.Keyword as keyword
use Rattle.asm_syntax.specs.Lexemes.{Lexeme, Name, Keyword, Overlong, Number, Text, Sign, Piece, word_lexeme}
use Rattle.asm_syntax.specs.Lexemes.{name_or_keyword}
use Rattle.asm_syntax.specs.Words.{keyword_of}
use Rattle.asm_lex.specs.Characters.{is_word_part}
use Rattle.asm_lex.specs.Operators.{plain, symbols}
use Rattle.asm_lex.specs.Reading.{Spells as Reads}
use Rattle.asm_lex.specs.Spelling.{IsWord, IsToken, SpellsUpTo}
use Rattle.asm_lex.specs.Tokens.{tokens_of}
use Rattle.asm_laws.proofs.Readings.{tokens_spelled}
use Rattle.dap_expr.specs.Parts.{part_owning}
use Rattle.dap_expr.specs.Names.{read_named}

-- it begins with a digit or a character after the digits
abbrev pub IsOrdinary : List ℕ → Type 0
IsOrdinary [] = ⊥
IsOrdinary (c ∷ cs) = 48 ≤ c

pub no_part_owns : (x : List ℕ) → IsOrdinary x → part_owning x ≡ None
no_part_owns [] h = absurd h
no_part_owns (c ∷ cs) h =
    let differs : (c == 36) ≡ false = grind (arith, nat_tests) in
    rw differs refl

pub no_read : (x : List ℕ) → IsOrdinary x → read_named (replicate 16 0) x ≡ None
no_read [] h = absurd h
no_read (c ∷ []) h = slice_get_past (replicate 16 0) c (omega (arith, h))
no_read (c ∷ d ∷ cs) h = refl

upper_ordinary : (b : ℕ) → is_word_part b ≡ true → 48 ≤ to_ascii_uppercase b
upper_ordinary b h = grind (arith, nat_tests)

named_by : (w n : List ℕ) (v : Bool) (o : Option keyword.Keyword)
    → (if v then Overlong else name_or_keyword w o) ≡ Name n → w ≡ n
named_by w n true o h = absurd cc
named_by w n false None h = cc
named_by w n false (Some k) h = absurd cc

named_is : (w n : List ℕ) → word_lexeme w ≡ Name n → w ≡ n
named_is w n h = named_by w n (nat_lt 31 (length w)) (keyword_of w) h

word_ordinary : (n text rest : List ℕ) → IsWord (Name n) text rest → IsOrdinary n
word_ordinary n [] rest w = absurd w.begins
word_ordinary n (b ∷ bs) rest w =
    let part = and_parts (is_word_part b) (list_all is_word_part bs) w.span.all in
    subst IsOrdinary (named_is (map to_ascii_uppercase (b ∷ bs)) n w.says) (upper_ordinary b part.0)

-- a name in a lexeme is ordinary
abbrev pub HasOrdinary : Lexeme → Type 0
HasOrdinary (Name n) = IsOrdinary n
HasOrdinary _ = Unit {0}

token_ordinary : (l : Lexeme) (text rest : List ℕ) → IsToken l text rest → HasOrdinary l
token_ordinary (Name n) text rest w = word_ordinary n text rest w
token_ordinary (Keyword k) text rest w = tt
token_ordinary Overlong text rest w = tt
token_ordinary (Number n) text rest w = tt
token_ordinary (Text cs) text rest w = tt
token_ordinary (Sign s) text rest w = tt

plain_ordinary : (l : Lexeme) → HasOrdinary l → HasOrdinary (plain l)
plain_ordinary (Name n) h = h
plain_ordinary (Keyword k) h = tt
plain_ordinary Overlong h = tt
plain_ordinary (Number n) h = tt
plain_ordinary (Text []) h = tt
plain_ordinary (Text (c ∷ [])) h = tt
plain_ordinary (Text (c ∷ d ∷ [])) h = tt
plain_ordinary (Text (c ∷ d ∷ e ∷ cs)) h = tt
plain_ordinary (Sign s) h = tt

abbrev pub AllOrdinary : List Lexeme → Type 0
AllOrdinary [] = Unit {0}
AllOrdinary (l ∷ ls) = HasOrdinary l × AllOrdinary ls

spelled_ordinary : (ps : List Piece) (column : ℕ) (line : List ℕ) (last : ℕ) (rest : List ℕ)
    → SpellsUpTo column ps line last rest → AllOrdinary (symbols ps)
spelled_ordinary [] column line last rest s = tt
spelled_ordinary (p ∷ ps) column line last rest s =
    let first = plain_ordinary p.1 (token_ordinary p.1 s.1 s.2 s.6) in
    (first, spelled_ordinary ps (p.0 + length s.1) s.2 last rest s.7)

pub tokens_ordinary : (text : List ℕ) (ps : List Piece) → tokens_of text ≡ Ok ps → AllOrdinary (symbols ps)
tokens_ordinary text ps h =
    let s = (tokens_spelled text ps).0 h in spelled_ordinary ps 1 text s.0 s.1 s.2

-- the names in a tree are ordinary
abbrev pub TreeOrdinary : Tree → Type 0
TreeOrdinary (tree.Number n) = Unit {0}
TreeOrdinary tree.Here = Unit {0}
TreeOrdinary (tree.Named x) = IsOrdinary x
TreeOrdinary (tree.Prefix op a) = TreeOrdinary a
TreeOrdinary (tree.Infix op a b) = TreeOrdinary a × TreeOrdinary b
TreeOrdinary (tree.Parens a) = TreeOrdinary a

front : (ls ms : List Lexeme) → AllOrdinary (ls ++ ms) → AllOrdinary ls
front [] ms h = tt
front (l ∷ ls) ms h = (h.0, front ls ms h.1)

back : (ls ms : List Lexeme) → AllOrdinary (ls ++ ms) → AllOrdinary ms
back [] ms h = h
back (l ∷ ls) ms h = back ls ms h.1

pub tree_ordinary : (t : Tree) (ls : List Lexeme) → Reads t ls → AllOrdinary ls → TreeOrdinary t
tree_ordinary (tree.Number n) ls s h = tt
tree_ordinary tree.Here ls s h = tt
tree_ordinary (tree.Named x) ls s h = (subst AllOrdinary s h).0
tree_ordinary (tree.Prefix op a) ls s h = tree_ordinary a s.1 s.4 (subst AllOrdinary s.2 h).1
tree_ordinary (tree.Infix op a b) ls s h =
    let all : AllOrdinary (s.0 ++ (s.1 ∷ s.2)) = subst AllOrdinary s.3 h in
    let right : AllOrdinary (s.1 ∷ s.2) = back s.0 (s.1 ∷ s.2) all in
    (tree_ordinary a s.0 s.5 (front s.0 (s.1 ∷ s.2) all), tree_ordinary b s.2 s.6 right.1)
tree_ordinary (tree.Parens a) ls s h =
    let all : HasOrdinary (Sign 40) × AllOrdinary (s.0 ++ (Sign 41 ∷ [])) = subst AllOrdinary s.1 h in
    tree_ordinary a s.0 s.2 (front s.0 (Sign 41 ∷ []) all.1)

-- ---- values

abbrev Names : Type 0
Names = List ℕ → Option ℕ

-- other names have the same values where these have one
abbrev Extends : Names → Names → Type 0
Extends f g = (x : List ℕ) → IsOrdinary x → is_some (f x) ≡ true → g x ≡ f x

abbrev AllNamed : Names → Tree → Type 0
AllNamed f t = list_all (λ x. is_some (f x)) (names_of t) ≡ true

named_parts : (f : Names) (a b : Tree) → list_all (λ x. is_some (f x)) (names_of a ++ names_of b) ≡ true
    → AllNamed f a × AllNamed f b
named_parts f a b h =
    and_parts _ _ (sym (list_all-append (λ x. is_some (f x)) (names_of a) (names_of b)) ∙ h)

one_named : (f : Names) (x : List ℕ) → AllNamed f (tree.Named x) → is_some (f x) ≡ true
one_named f x h = (and_parts (is_some (f x)) true h).0

all_named : (f g : Names) → Extends f g → (t : Tree) → TreeOrdinary t → AllNamed f t → AllNamed g t
all_named f g same (tree.Number n) o h = refl
all_named f g same tree.Here o h = refl
all_named f g same (tree.Named x) o h = rw (same x o (one_named f x h)) h
all_named f g same (tree.Prefix op a) o h = all_named f g same a o h
all_named f g same (tree.Infix op a b) o h =
    let parts = named_parts f a b h in
    list_all-append (λ x. is_some (g x)) (names_of a) (names_of b)
    ∙ rw (all_named f g same a o.0 parts.0, all_named f g same b o.1 parts.1) refl
all_named f g same (tree.Parens a) o h = all_named f g same a o h

number_same : (f g : Names) → Extends f g → (here : ℕ) (t : Tree) → TreeOrdinary t → AllNamed f t
    → number_of (λ x. unwrap_or (g x) 0) here t ≡ number_of (λ x. unwrap_or (f x) 0) here t
number_same f g same here (tree.Number n) o h = refl
number_same f g same here tree.Here o h = refl
number_same f g same here (tree.Named x) o h =
    ap (λ (v : Option ℕ). Some (unwrap_or v 0)) (same x o (one_named f x h))
number_same f g same here (tree.Prefix op a) o h = rw (number_same f g same here a o h) refl
number_same f g same here (tree.Infix op a b) o h =
    let parts = named_parts f a b h in
    rw (number_same f g same here a o.0 parts.0, number_same f g same here b o.1 parts.1) refl
number_same f g same here (tree.Parens a) o h = number_same f g same here a o h

pub value_same : (f g : Names) → Extends f g → (here : ℕ) (t : Tree) (v : ℕ) → TreeOrdinary t
    → value_of f here t ≡ Ok v → value_of g here t ≡ Ok v
value_same f g same here t v o h = by (list_all (λ x. is_some (f x)) (names_of t)) refl
  where
    by : (b : Bool) → list_all (λ x. is_some (f x)) (names_of t) ≡ b → value_of g here t ≡ Ok v
    by true e =
        rw (all_named f g same t o e, number_same f g same here t o e) (rw e at h)
    by false e = let h' = rw e at h in absurd cc
