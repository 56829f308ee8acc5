-- Each line spells its tokens, or spells tokens up to its fault.
use Rattle.std.proofs.Common.{◌≡◌, ◌↔◌, ℕ, zero, suc, ◌+◌, ◌<◌, List, [], ◌∷◌, ◌++◌, Bool, true, false, cond}
use Rattle.std.proofs.Common.{length, Option, Some, None, Ok, Err, refl, sym, ap, subst, ◌∙◌, arith, eqb}
use Rattle.std.proofs.Common.{length-append}
use Rattle.std.specs.Prelude.{map, not, ◌||◌, nat_lt}
use Rattle.std.specs.List.{list_all}
use Rattle.std.specs.Char.{to_ascii_uppercase}
use Rattle.std.proofs.lemmas.Bool.{and_from, eqb-true, eqb-false, not-true}
use Rattle.std.proofs.lemmas.Bool.Decides.{nat_tests}
use Rattle.std.proofs.lemmas.List.{append-nil}
use Rattle.asm_syntax.specs.declared.fault.FaultKind.{FaultKind}
use Rattle.asm_syntax.specs.declared.fault.FaultKind.TheVariants as kind
use Rattle.asm_syntax.specs.declared.keyword.Keyword as keyword
use Rattle.asm_syntax.specs.Words.{keyword_of}
use Rattle.asm_syntax.specs.Lexemes.{Lexeme, Keyword, Overlong, Number, Text, Sign, Piece, word_lexeme}
use Rattle.asm_syntax.specs.Lexemes.{name_or_keyword}
use Rattle.asm_syntax.specs.Outcome.{Fault}
use Rattle.std.specs.Char.{is_ascii_digit, is_ascii_alphanumeric}
use Rattle.asm_lex.specs.Characters.{is_blank, is_word_part, is_printed}
use Rattle.asm_lex.specs.Numbers.{number_of}
use Rattle.asm_lex.specs.Texts.{closing_quote}
use Rattle.asm_lex.specs.Tokens.{text_read, token_at, tokens_from, tokens_of}
use Rattle.asm_lex.specs.Spelling.{Begins, IsWord, IsDigits, is_quote, IsString, is_sign, IsToken, SpellsUpTo}
use Rattle.asm_lex.specs.Spelling.{Spells, IsWrong, Breaks}
use Rattle.asm_laws.proofs.Spans.{First, first_of, differs}
use Rattle.asm_lex.proofs.Scan.{with_front, rest_at}
use Rattle.asm_laws.proofs.Spelled.{good, digits_read, text_first, not_digit, not_blank, or_false}
use Rattle.asm_laws.proofs.Spelled.{spelled_reads, tail_reads}
use Rattle.asm_laws.proofs.StringLemmas.{AtQuote, string, none, at_quote, string_is_read}

-- ---- what is spelled is read

pub spells_read : (ps : List Piece) (c : ℕ) (line : List ℕ) → Spells c ps line → tokens_from 0 c line ≡ Ok ps
spells_read ps c line (last, rest, upto, tail) =
    spelled_reads ps c line last rest upto ∙ ap (with_front ps) (tail_reads rest last tail)
    ∙ ap (λ (qs : List Piece). Ok qs) (append-nil ps)

fault_first : (k : FaultKind) (c b : ℕ) (bs : List ℕ) → is_blank b ≡ false → eqb b 59 ≡ false
    → token_at (b ∷ bs) ≡ Err k → tokens_from 0 c (b ∷ bs) ≡ Err (c, k)
fault_first k c b bs blank comment read = rest_at c b bs blank (eqb-false b 59 comment) ∙ rw read refl

printed_part : (b : ℕ) → is_printed b ≡ false → is_word_part b ≡ false
printed_part b h = grind (arith, nat_tests)

character_first : (b : ℕ) (bs : List ℕ) → is_printed b ≡ false → token_at (b ∷ bs) ≡ Err kind.Character
unfolding token_at
character_first b bs h =
    let word = printed_part b h in
    let digit = not_digit b word in
    let quote : eqb b 39 ≡ false = grind (arith, nat_tests) in
    rw (word, digit, quote, h) refl

wrong_character : (c : ℕ) (line : List ℕ) → Begins (λ b. not (is_blank b || is_printed b)) line
    → tokens_from 0 c line ≡ Err (c, kind.Character)
wrong_character c [] h = absurd h
wrong_character c (b ∷ bs) h =
    let e = or_false (is_blank b) (is_printed b) (not-true (is_blank b || is_printed b) h) in
    let printed : is_printed b ≡ false = e.1 in
    let comment : eqb b 59 ≡ false = grind (arith, nat_tests) in
    fault_first kind.Character c b bs e.0 comment (character_first b bs printed)

wrong_number : (c : ℕ) (text rest : List ℕ) → IsDigits text rest → number_of text ≡ None
    → tokens_from 0 c (text ++ rest) ≡ Err (c, kind.Number)
wrong_number c [] rest h e = absurd h.begins
wrong_number c (b ∷ bs) rest h e =
    fault_first kind.Number c b (bs ++ rest) (not_blank is_ascii_digit b refl refl h.begins)
    (differs is_ascii_digit 59 b refl h.begins) (digits_read (b ∷ bs) rest None h e)

no_string : (bytes : List ℕ) → AtQuote bytes
    → ((cs text rest : List ℕ) → 39 ∷ bytes ≡ text ++ rest → IsString cs text rest → ⊥)
    → text_read bytes (closing_quote bytes) ≡ Err kind.Text
no_string bytes (string cs text rest is s) h = absurd (h cs text rest is s)
no_string bytes (none e) h = e

wrong_text : (c : ℕ) (line : List ℕ) → Begins is_quote line
    → ((cs text rest : List ℕ) → line ≡ text ++ rest → IsString cs text rest → ⊥)
    → tokens_from 0 c line ≡ Err (c, kind.Text)
wrong_text c [] q h = absurd q
wrong_text c (b ∷ bs) q h =
    let is : b ≡ 39 = eqb-true b 39 q in
    let none_here : (cs text rest : List ℕ) → 39 ∷ bs ≡ text ++ rest → IsString cs text rest → ⊥ =
    λ cs text rest e s. h cs text rest (ap (λ k. k ∷ bs) is ∙ e) s in
    rw is (fault_first kind.Text c 39 bs refl refl (text_first bs ∙ no_string bs (at_quote bs) none_here))

wrong_reads : (k : FaultKind) (c : ℕ) (line : List ℕ) → IsWrong k line → tokens_from 0 c line ≡ Err (c, k)
wrong_reads kind.Character c line h = wrong_character c line h
wrong_reads kind.Number c line (text, rest, is, digits, e) = rw is (wrong_number c text rest digits e)
wrong_reads kind.Text c line (q, h) = wrong_text c line q h
wrong_reads _ c line h = absurd h

pub breaks_read : (c : ℕ) (line : List ℕ) (f : Fault) → Breaks c line f → tokens_from 0 c line ≡ Err f
breaks_read c line f (ps, rest, upto, wrong) =
    spelled_reads ps c line f.0 rest upto ∙ ap (with_front ps) (wrong_reads f.1 f.0 rest wrong)

-- ---- each line is one or the other

-- what stands after blanks
data Front (bs : List ℕ) : Type 0 where
  token : (l : Lexeme) (text rest : List ℕ) → bs ≡ text ++ rest → IsToken l text rest → Front bs
  wrong : (k : FaultKind) → IsWrong k bs → Front bs

is_word_lexeme : Lexeme → Bool
is_word_lexeme (Number n) = false
is_word_lexeme (Text cs) = false
is_word_lexeme (Sign s) = false
is_word_lexeme _ = true

word_by : (v : Bool) (o : Option keyword.Keyword) (w : List ℕ)
    → is_word_lexeme (cond v Overlong (name_or_keyword w o)) ≡ true
unfolding is_word_lexeme
word_by true o w = refl
word_by false None w = refl
word_by false (Some k) w = refl

word_is : (l : Lexeme) (w : List ℕ) → word_lexeme w ≡ l → is_word_lexeme l ≡ true
word_is l w e = sym (ap is_word_lexeme e) ∙ word_by (nat_lt 31 (length w)) (keyword_of w) w

word_token : (l : Lexeme) (text rest : List ℕ) → is_word_lexeme l ≡ true → IsWord l text rest
    → IsToken l text rest
unfolding is_word_lexeme
word_token (Number n) text rest e h = absurd cc
word_token (Text cs) text rest e h = absurd cc
word_token (Sign s) text rest e h = absurd cc
word_token _ text rest e h = h

by_value : (b : ℕ) (bs : List ℕ) (r : First is_ascii_alphanumeric b bs) (o : Option ℕ)
    → number_of (b ∷ r.text) ≡ o → IsDigits (b ∷ r.text) r.rest → Front (b ∷ bs)
by_value b bs r None e h = wrong kind.Number (b ∷ r.text, r.rest, r.splits, h, e)
by_value b bs r (Some n) e h = token (Number n) (b ∷ r.text) r.rest r.splits (h, e)

by_string : (bs : List ℕ) → AtQuote bs → Front (39 ∷ bs)
by_string bs (string cs text rest is s) = token (Text cs) text rest is s
by_string bs (none e) =
    wrong kind.Text (refl, λ cs text rest is s. let k = string_is_read bs cs text rest is s in cc)

by_printed : (b : ℕ) (bs : List ℕ) (v : Bool) → is_printed b ≡ v → is_word_part b ≡ false → eqb b 39 ≡ false
    → is_blank b ≡ false → eqb b 59 ≡ false → Front (b ∷ bs)
by_printed b bs true e word quote blank comment =
    let space = or_false (eqb b 32) (eqb b 9) blank in
    let sign : is_sign b ≡ true = rw (e, word, space.0, quote, comment) refl in
    token (Sign b) (b ∷ []) bs refl (refl, sign)
by_printed b bs false e word quote blank comment =
    let bad : not (is_blank b || is_printed b) ≡ true = rw (blank, e) refl in
    wrong kind.Character bad

by_quote : (b : ℕ) (bs : List ℕ) (v : Bool) → eqb b 39 ≡ v → is_word_part b ≡ false → is_blank b ≡ false
    → eqb b 59 ≡ false → Front (b ∷ bs)
by_quote b bs true e word blank comment = rw (eqb-true b 39 e) (by_string bs (at_quote bs))
by_quote b bs false e word blank comment = by_printed b bs (is_printed b) refl word e blank comment

by_word : (b : ℕ) (bs : List ℕ) (v : Bool) → is_word_part b ≡ v → is_ascii_digit b ≡ false
    → is_blank b ≡ false → eqb b 59 ≡ false → Front (b ∷ bs)
by_word b bs true e digit blank comment =
    let r = first_of is_word_part b bs e in
    let l = word_lexeme (map to_ascii_uppercase (b ∷ r.text)) in
    let begins : not (is_ascii_digit b) ≡ true = rw digit refl in
    token l (b ∷ r.text) r.rest r.splits
    (word_token l (b ∷ r.text) r.rest (word_is l (map to_ascii_uppercase (b ∷ r.text)) refl)
    (record { begins = begins; span = r.span; says = refl }))
by_word b bs false e digit blank comment = by_quote b bs (eqb b 39) refl e blank comment

by_digit : (b : ℕ) (bs : List ℕ) (v : Bool) → is_ascii_digit b ≡ v → is_blank b ≡ false → eqb b 59 ≡ false
    → Front (b ∷ bs)
by_digit b bs true e blank comment =
    let part : is_ascii_alphanumeric b ≡ true = rw e refl in
    let r = first_of is_ascii_alphanumeric b bs part in
    by_value b bs r (number_of (b ∷ r.text)) refl (record { begins = e; span = r.span })
by_digit b bs false e blank comment = by_word b bs (is_word_part b) refl e blank comment

data Reading (c : ℕ) (line : List ℕ) : Type 0 where
  spelled : (ps : List Piece) → Spells c ps line → Reading c line
  broken : (f : Fault) → Breaks c line f → Reading c line

after_blank : (ps : List Piece) (c b : ℕ) (line : List ℕ) (last : ℕ) (rest : List ℕ) → is_blank b ≡ true
    → SpellsUpTo (c + 1) ps line last rest → SpellsUpTo c ps (b ∷ line) last rest
after_blank [] c b line last rest e (blanks, is, all, last_is) =
    (b ∷ blanks, ap (λ t. b ∷ t) is, and_from (is_blank b) (list_all is_blank blanks) e all, omega arith)
after_blank (p ∷ ps) c b line last rest e (blanks, text, more, is, all, column, first, later) = (
  b ∷ blanks,
  text,
  more,
  ap (λ t. b ∷ t) is,
  and_from (is_blank b) (list_all is_blank blanks) e all,
  omega
      arith,
  first,
  later,
)

reading_blank : (c b : ℕ) (line : List ℕ) → is_blank b ≡ true → Reading (c + 1) line → Reading c (b ∷ line)
reading_blank c b line e (spelled ps (last, rest, upto, tail)) =
    spelled ps (last, rest, after_blank ps c b line last rest e upto, tail)
reading_blank c b line e (broken f (ps, rest, upto, bad)) =
    broken f (ps, rest, after_blank ps c b line f.0 rest e upto, bad)

no_blanks : (c : ℕ) → let none : List ℕ = [] in c ≡ c + length none
no_blanks c = omega arith

reading_token : (l : Lexeme) (c : ℕ) (text more : List ℕ) → IsToken l text more
    → Reading (c + length text) more → Reading c (text ++ more)
reading_token l c text more t (spelled ps (last, rest, upto, tail)) =
    spelled ((c, l) ∷ ps) (last, rest, ([], text, more, refl, refl, no_blanks c, t, upto), tail)
reading_token l c text more t (broken f (ps, rest, upto, bad)) =
    broken f ((c, l) ∷ ps, rest, ([], text, more, refl, refl, no_blanks c, t, upto), bad)

reading_front : (c n b : ℕ) (bs : List ℕ) → length (b ∷ bs) < suc n
    → ((k : ℕ) (more : List ℕ) → length more < n → Reading k more) → Front (b ∷ bs) → Reading c (b ∷ bs)
reading_front c n b bs lt go (token l text rest is t) =
    let g = good l text rest t in
    let text_len : length text ≡ suc (length g.others) = ap length g.is in
    let len : length (b ∷ bs) ≡ length text + length rest = ap length is ∙ length-append text rest in
    let less : length rest < n = omega arith in
    rw is (reading_token l c text rest t (go (c + length text) rest less))
reading_front c n b bs lt go (wrong k h) = broken (c, k) ([], b ∷ bs, ([], refl, refl, no_blanks c), h)

reading_step : (c n b : ℕ) (bs : List ℕ) (v w : Bool) → is_blank b ≡ v → eqb b 59 ≡ w
    → length (b ∷ bs) < suc n → ((k : ℕ) (more : List ℕ) → length more < n → Reading k more)
    → Reading c (b ∷ bs)
reading_step c n b bs true w e f lt go = reading_blank c b bs e (go (c + 1) bs (omega arith))
reading_step c n b bs false true e f lt go =
    spelled [] (c, b ∷ bs, ([], refl, refl, no_blanks c), eqb-true b 59 f)
reading_step c n b bs false false e f lt go =
    reading_front c n b bs lt go (by_digit b bs (is_ascii_digit b) refl e f)

reading : (n c : ℕ) (line : List ℕ) → length line < n → Reading c line
reading zero c line lt = absurd (omega arith)
reading (suc n) c [] lt = spelled [] (c, [], ([], refl, refl, no_blanks c), tt)
reading (suc n) c (b ∷ bs) lt = reading_step c n b bs (is_blank b) (eqb b 59) refl refl lt (reading n)

-- ---- both ways

read_spells : (c : ℕ) (line : List ℕ) (ps : List Piece) → Reading c line → tokens_from 0 c line ≡ Ok ps
    → Spells c ps line
read_spells c line ps (spelled qs h) e =
    let read = spells_read qs c line h in
    let same : qs ≡ ps = cc in
    subst (λ (rs : List Piece). Spells c rs line) same h
read_spells c line ps (broken f h) e = let read = breaks_read c line f h in absurd cc

read_breaks : (c : ℕ) (line : List ℕ) (f : Fault) → Reading c line → tokens_from 0 c line ≡ Err f
    → Breaks c line f
read_breaks c line f (spelled qs h) e = let read = spells_read qs c line h in absurd cc
read_breaks c line f (broken g h) e =
    let read = breaks_read c line g h in
    let same : g ≡ f = cc in
    subst (λ (k : Fault). Breaks c line k) same h

pub tokens_spelled : (line : List ℕ) (ps : List Piece) → (tokens_of line ≡ Ok ps) ↔ Spells 1 ps line
tokens_spelled line ps =
    (read_spells 1 line ps (reading (suc (length line)) 1 line (omega arith)), spells_read ps 1 line)

pub fault_broken : (line : List ℕ) (f : Fault) → (tokens_of line ≡ Err f) ↔ Breaks 1 line f
fault_broken line f =
    (read_breaks 1 line f (reading (suc (length line)) 1 line (omega arith)), breaks_read 1 line f)
