-- What is spelled so is read so.
use Rattle.std.proofs.Common.{◌≡◌, ℕ, suc, ◌+◌, ◌-◌, List, [], ◌∷◌, ◌++◌, Bool, true, false, length, Option}
use Rattle.std.proofs.Common.{Some, Result, Ok, Err, refl, sym, ap, ◌∙◌, arith, eqb}
use Rattle.std.specs.Prelude.{not, ◌||◌}
use Rattle.std.specs.List.{take_while, list_all}
use Rattle.std.proofs.lemmas.Bool.{and_parts, eqb-false, not-true}
use Rattle.asm_syntax.specs.Lexemes.{Lexeme, Name, Keyword, Overlong, Number, Text, Sign, Piece}
use Rattle.asm_syntax.specs.Outcome.{Fault, ◌>>=◌}
use Rattle.std.specs.Char.{is_ascii_digit, is_ascii_uppercase, is_ascii_lowercase, is_ascii_alphanumeric}
use Rattle.asm_lex.specs.Characters.{is_blank, is_word_part, is_printed}
use Rattle.asm_lex.specs.Numbers.{number_of}
use Rattle.asm_lex.specs.Texts.{closing_quote}
use Rattle.asm_lex.specs.Tokens.{number_read, value_read, word_read, text_read, token_at, tokens_from}
use Rattle.asm_lex.specs.Spelling.{IsWord, IsDigits, with_quotes_doubled, IsString, is_sign, IsToken}
use Rattle.asm_lex.specs.Spelling.{SpellsUpTo, IsTail}
use Rattle.asm_laws.proofs.Spans.{span_is, drop_front, differs}
use Rattle.asm_lex.proofs.Scan.{with_front, skips, rest_at}
use Rattle.asm_laws.proofs.StringLemmas.{string_is_read}

-- ---- the token at the front, by its first character

number_first : (b : ℕ) (xs : List ℕ) → is_ascii_digit b ≡ true
    → token_at (b ∷ xs) ≡ number_read (take_while is_ascii_alphanumeric (b ∷ xs))
unfolding token_at
number_first b xs digit = rw digit refl

word_first : (b : ℕ) (xs : List ℕ) → is_ascii_digit b ≡ false → is_word_part b ≡ true
    → token_at (b ∷ xs) ≡ word_read (take_while is_word_part (b ∷ xs))
unfolding token_at
word_first b xs digit part = rw (part, digit) refl

pub text_first : (xs : List ℕ) → token_at (39 ∷ xs) ≡ text_read xs (closing_quote xs)
unfolding token_at
text_first xs = refl

pub or_false : (a b : Bool) → (a || b) ≡ false → (a ≡ false) × (b ≡ false)
or_false true b h = absurd cc
or_false false b h = (refl, h)

-- what a sign is not
pub record Alone (b : ℕ) : Type 0 where
  pub printed : is_printed b ≡ true
  pub word : is_word_part b ≡ false
  pub digit : is_ascii_digit b ≡ false
  pub quote : eqb b 39 ≡ false
  pub blank : is_blank b ≡ false
  pub comment : eqb b 59 ≡ false

pub not_digit : (b : ℕ) → is_word_part b ≡ false → is_ascii_digit b ≡ false
not_digit b word =
    let alpha = or_false (is_ascii_alphanumeric b) (eqb b 63 || eqb b 64) word in
    let upper = or_false (is_ascii_digit b || is_ascii_uppercase b) (is_ascii_lowercase b) alpha.0 in
    let digit = or_false (is_ascii_digit b) (is_ascii_uppercase b) upper.0 in
    digit.0

alone : (b : ℕ) → is_sign b ≡ true → Alone b
alone b h =
    let h1 = and_parts (is_printed b) (not (is_word_part b || (eqb b 32 || (eqb b 39 || eqb b 59)))) h in
    let n = not-true (is_word_part b || (eqb b 32 || (eqb b 39 || eqb b 59))) h1.1 in
    let w = or_false (is_word_part b) (eqb b 32 || (eqb b 39 || eqb b 59)) n in
    let o = or_false (eqb b 32) (eqb b 39 || eqb b 59) w.1 in
    let q = or_false (eqb b 39) (eqb b 59) o.1 in
    let tab : eqb b 9 ≡ false = differs is_printed 9 b refl h1.0 in
    record {
      printed = h1.0;
      word = w.0;
      digit = not_digit b w.0;
      quote = q.0;
      blank = rw (o.0, tab) refl;
      comment = q.1;
    }

sign_first : (b : ℕ) (xs : List ℕ) → Alone b → token_at (b ∷ xs) ≡ Ok (Sign b, 1)
unfolding token_at
sign_first b xs h =
    let w = h.word in let d = h.digit in let q = h.quote in let p = h.printed in rw (w, d, q, p) refl

-- ---- a token

-- how a token begins, and that it is read
pub record Good (l : Lexeme) (text rest : List ℕ) : Type 0 where
  pub first : ℕ
  pub others : List ℕ
  pub is : text ≡ first ∷ others
  pub blank : is_blank first ≡ false
  pub comment : eqb first 59 ≡ false
  pub reads : token_at (text ++ rest) ≡ Ok (l, length text)

pub not_blank : (p : ℕ → Bool) (b : ℕ) → p 32 ≡ false → p 9 ≡ false → p b ≡ true → is_blank b ≡ false
not_blank p b s t passes = let e = differs p 32 b s passes in let f = differs p 9 b t passes in rw (e, f) refl

good_word : (l : Lexeme) (text rest : List ℕ) → IsWord l text rest → Good l text rest
good_word l [] rest h = absurd h.begins
good_word l (b ∷ bs) rest h =
    let part = and_parts (is_word_part b) (list_all is_word_part bs) h.span.all in
    let digit : is_ascii_digit b ≡ false = not-true (is_ascii_digit b) h.begins in
    record {
      first = b;
      others = bs;
      is = refl;
      blank = not_blank is_word_part b refl refl part.0;
      comment = differs is_word_part 59 b refl part.0;
      reads = word_first b (bs ++ rest) digit part.0
          ∙ ap word_read (span_is is_word_part (b ∷ bs) rest h.span.all h.span.ends)
          ∙ ap (λ (k : Lexeme). Ok (k, length (b ∷ bs))) h.says;
    }

pub digits_read : (text rest : List ℕ) (o : Option ℕ) → IsDigits text rest → number_of text ≡ o
    → token_at (text ++ rest) ≡ value_read (length text) o
digits_read [] rest o h e = absurd h.begins
digits_read (b ∷ bs) rest o h e =
    number_first b (bs ++ rest) h.begins
    ∙ ap number_read (span_is is_ascii_alphanumeric (b ∷ bs) rest h.span.all h.span.ends)
    ∙ ap (value_read (length (b ∷ bs))) e

good_number : (n : ℕ) (text rest : List ℕ) → IsDigits text rest → number_of text ≡ Some n
    → Good (Number n) text rest
good_number n [] rest h e = absurd h.begins
good_number n (b ∷ bs) rest h e = record {
  first = b;
  others = bs;
  is = refl;
  blank = not_blank is_ascii_digit b refl refl h.begins;
  comment = differs is_ascii_digit 59 b refl h.begins;
  reads = digits_read (b ∷ bs) rest (Some n) h e;
}

good_string : (cs text rest : List ℕ) → IsString cs text rest → Good (Text cs) text rest
good_string cs text rest h =
    let inner : text ++ rest ≡ 39 ∷ ((with_quotes_doubled cs ++ 39 ∷ []) ++ rest) =
    ap (λ t. t ++ rest) h.quoted in
    record {
      first = 39;
      others = with_quotes_doubled cs ++ 39 ∷ [];
      is = h.quoted;
      blank = refl;
      comment = refl;
      reads =
          ap token_at inner ∙ text_first ((with_quotes_doubled cs ++ 39 ∷ []) ++ rest)
          ∙ string_is_read ((with_quotes_doubled cs ++ 39 ∷ []) ++ rest) cs text rest (sym inner) h;
    }

good_sign : (s : ℕ) (text rest : List ℕ) → text ≡ s ∷ [] → is_sign s ≡ true → Good (Sign s) text rest
good_sign s text rest is h =
    let a = alone s h in
    record {
      first = s;
      others = [];
      is = is;
      blank = a.blank;
      comment = a.comment;
      reads = rw is (sign_first s rest a);
    }

pub good : (l : Lexeme) (text rest : List ℕ) → IsToken l text rest → Good l text rest
good (Name n) text rest h = good_word (Name n) text rest h
good (Keyword k) text rest h = good_word (Keyword k) text rest h
good Overlong text rest h = good_word Overlong text rest h
good (Number n) text rest h = good_number n text rest h.0 h.1
good (Text cs) text rest h = good_string cs text rest h
good (Sign s) text rest h = good_sign s text rest h.0 h.1

-- a token is read, and what is after it
token_goes : (l : Lexeme) (c b : ℕ) (bs rest : List ℕ) → is_blank b ≡ false → eqb b 59 ≡ false
    → token_at (b ∷ (bs ++ rest)) ≡ Ok (l, suc (length bs))
    → tokens_from 0 c (b ∷ (bs ++ rest))
    ≡ (tokens_from 0 (c + suc (length bs)) rest >>= λ ps. Ok ((c, l) ∷ ps))
token_goes l c b bs rest blank comment read =
    let n_is : suc (length bs) - 1 ≡ length bs = omega arith in
    let c_is : c + 1 + length bs ≡ c + suc (length bs) = omega arith in
    rest_at c b (bs ++ rest) blank (eqb-false b 59 comment)
    ∙ rw (read, n_is, skips (length bs) (c + 1) (bs ++ rest), drop_front bs rest, c_is) refl

token_reads : (l : Lexeme) (c : ℕ) (text rest : List ℕ) → Good l text rest
    → tokens_from 0 c (text ++ rest) ≡ (tokens_from 0 (c + length text) rest >>= λ ps. Ok ((c, l) ∷ ps))
token_reads l c text rest g =
    let read : token_at (g.first ∷ (g.others ++ rest)) ≡ Ok (l, suc (length g.others)) =
    ap (λ (t : List ℕ). token_at (t ++ rest)) (sym g.is) ∙ g.reads
    ∙ ap (λ (t : List ℕ). Ok (l, length t)) g.is in
    rw g.is (token_goes l c g.first g.others rest g.blank g.comment read)

-- ---- a line

skip_blanks : (blanks rest : List ℕ) (c : ℕ) → list_all is_blank blanks ≡ true
    → tokens_from 0 c (blanks ++ rest) ≡ tokens_from 0 (c + length blanks) rest
unfolding tokens_from
skip_blanks [] rest c all = ap (λ k. tokens_from 0 k rest) (omega arith)
skip_blanks (b ∷ blanks) rest c all =
    let h = and_parts (is_blank b) (list_all is_blank blanks) all in
    let e : c + 1 + length blanks ≡ c + suc (length blanks) = omega arith in
    rw h.0 (skip_blanks blanks rest (c + 1) h.1 ∙ ap (λ k. tokens_from 0 k rest) e)

put_first : (p : Piece) (ps : List Piece) (read : Result (List Piece) Fault)
    → (with_front ps read >>= λ qs. Ok (p ∷ qs)) ≡ with_front (p ∷ ps) read
put_first p ps (Ok qs) = refl
put_first p ps (Err f) = refl

nothing_first : (read : Result (List Piece) Fault) → read ≡ with_front [] read
nothing_first (Ok qs) = refl
nothing_first (Err f) = refl

-- the tokens that a line spells are read, and then what is after them
pub spelled_reads : (ps : List Piece) (c : ℕ) (line : List ℕ) (last : ℕ) (rest : List ℕ)
    → SpellsUpTo c ps line last rest
    → tokens_from 0 c line ≡ with_front ps (tokens_from 0 last rest)
spelled_reads [] c line last rest (blanks, is, all, last_is) =
    ap (tokens_from 0 c) is ∙ skip_blanks blanks rest c all ∙ ap (λ k. tokens_from 0 k rest) (sym last_is)
    ∙ nothing_first (tokens_from 0 last rest)
spelled_reads (p ∷ ps) c line last rest (blanks, text, more, is, all, column, token, later) =
    ap (tokens_from 0 c) is ∙ skip_blanks blanks (text ++ more) c all
    ∙ ap (λ k. tokens_from 0 k (text ++ more)) (sym column)
    ∙ token_reads p.1 p.0 text more (good p.1 text more token)
    ∙ ap (λ read. read >>= λ qs. Ok (p ∷ qs)) (spelled_reads ps (p.0 + length text) more last rest later)
    ∙ put_first p ps (tokens_from 0 last rest)

pub tail_reads : (tail : List ℕ) (c : ℕ) → IsTail tail → tokens_from 0 c tail ≡ Ok []
unfolding tokens_from
tail_reads [] c h = refl
tail_reads (b ∷ rest) c h = rw h refl
