-- The tokens of a printed line.
use Rattle.std.proofs.Common.{◌≡◌, ℕ, ◌+◌, ◌-◌, ◌<◌, ◌≤◌, inl, inr, List, [], ◌∷◌, ◌++◌, Bool, true, false}
use Rattle.std.proofs.Common.{length, Some, Ok, refl, ◌∙◌, ap, arith}
use Rattle.std.specs.Prelude.{nat_lt, nat_le, not}
use Rattle.std.specs.List.{list_all}
use Rattle.std.proofs.lemmas.List.{length-append}
use Rattle.std.proofs.lemmas.List.Folds.{list_all-append}
use Rattle.std.proofs.lemmas.Bool.{and_parts, and_from, both_ways, not-true, cases_lt, lt-ltb, leb-true}
use Rattle.asm_syntax.specs.declared.keyword.Keyword.{Keyword}
use Rattle.asm_syntax.specs.Lexemes.{Lexeme, Number, Sign}
use Rattle.asm_syntax.specs.Lexemes as lexeme
use Rattle.std.specs.Char.{is_ascii_digit, is_ascii_alphanumeric}
use Rattle.asm_lex.specs.Characters.{is_word_part}
use Rattle.asm_lex.specs.Tokens.{tokens_of}
use Rattle.asm_lex.specs.Numbers.{number_of}
use Rattle.asm_lex.specs.Spelling.{Begins, Stops, IsToken}
use Rattle.asm_lex.proofs.HexNumerals.{IsNumeral, at_below, byte_numeral, word_numeral}
use Rattle.i80_listings_laws.proofs.SpelledLines.{done, piece, blank, comma}
use Rattle.asm_laws.proofs.Readings.{spells_read}
use Rattle.asm_laws.proofs.Spelled.{or_false}
use Rattle.i80_base.specs.declared.instruction.Vector.{Vector}
use Rattle.i80_base.specs.Codes.{vector_code}
use Rattle.i80_rows.proofs.Each.{each_vector}
use Rattle.asm_syntax.specs.Numerals.{byte_text, word_text}
use Rattle.i80_dis.specs.Text.{operand_field, vector_word}
use Rattle.i80_listings_laws.proofs.Words.{is_word, IsNamed}

-- ---- a text that is a token by itself

-- a text spells a token where no word goes on behind it, and holds no line end
pub record IsPrinted (l : Lexeme) (text : List ℕ) (most : ℕ) : Type 0 where
  pub token : (rest : List ℕ) → Stops is_word_part rest → IsToken l text rest
  pub plain : list_all (nat_lt 13) text ≡ true
  pub short : length text ≤ most

control : (c : ℕ) → c < 14 → is_word_part c ≡ false
control c lt = not-true (is_word_part c) (at_below (λ k. not (is_word_part k)) 14 c refl lt)

word_plain : (c : ℕ) → is_word_part c ≡ true → nat_lt 13 c ≡ true
word_plain c part =
    elim (cases_lt 13 c) [
      | inl more ↦ lt-ltb 13 c more
      | inr less ↦ (let low : c < 14 = omega (arith, less) in
          absurd (both_ways (is_word_part c) (control c low) part))
    ]

all_plain : (p : ℕ → Bool) (text : List ℕ) → ((c : ℕ) → p c ≡ true → is_word_part c ≡ true)
    → list_all p text ≡ true → list_all (nat_lt 13) text ≡ true
all_plain p [] parts all = refl
all_plain p (c ∷ text) parts all =
    let h = and_parts (p c) (list_all p text) all in
    and_from (nat_lt 13 c) (list_all (nat_lt 13) text) (word_plain c (parts c h.0))
    (all_plain p text parts h.1)

digit_part : (c : ℕ) → is_ascii_alphanumeric c ≡ true → is_word_part c ≡ true
digit_part c h = rw h refl

stops : (rest : List ℕ) → Stops is_word_part rest → Stops is_ascii_alphanumeric rest
stops [] h = tt
stops (c ∷ rest) h = let o = or_false (is_ascii_alphanumeric c) _ h in o.0

pub word_printed : (k : Keyword) (text : List ℕ) (most : ℕ) → IsNamed text k most
    → IsPrinted (lexeme.Keyword k) text most
word_printed k [] most named =
    let no : false ≡ true = ap (λ (x : Bool × Lexeme). x.0) named in absurd cc
word_printed k (c ∷ cs) most named =
    let word : is_word (c ∷ cs) most ≡ true = ap (λ (x : Bool × Lexeme). x.0) named in
    let first = and_parts (not (is_ascii_digit c)) _ word in
    let rest = and_parts (list_all is_word_part (c ∷ cs)) (nat_le (length (c ∷ cs)) most) first.1 in
    record {
      token =
          λ more ends. record {
            begins = first.0;
            span = record { all = rest.0; ends = ends };
            says = ap (λ (x : Bool × Lexeme). x.1) named;
          };
      plain = all_plain is_word_part (c ∷ cs) (λ d h. h) rest.0;
      short = leb-true (length (c ∷ cs)) most rest.1;
    }

pub number_printed : (n : ℕ) (text : List ℕ) (most : ℕ) → IsNumeral n text → length text ≤ most
    → IsPrinted (Number n) text most
number_printed n text most numeral short = record {
  token =
      λ rest ends. (
        record
            { begins = numeral.begins; span = record { all = numeral.all; ends = stops rest ends } },
        numeral.value,
      );
  plain = all_plain is_ascii_alphanumeric text digit_part numeral.all;
  short = short;
}

pub byte_printed : (n : ℕ) → n < 256 → IsPrinted (Number n) (byte_text n) 6
byte_printed n lt = number_printed n (byte_text n) 6 (byte_numeral n lt) (omega arith)

pub address_printed : (n : ℕ) → n < 65536 → IsPrinted (Number n) (word_text n) 6
address_printed n lt = number_printed n (word_text n) 6 (word_numeral n lt) (omega arith)

-- the number of a restart
pub vector_numeral : (n : Vector) → IsNumeral (vector_code n) (vector_word n)
vector_numeral n = record {
  begins = each_vector (λ v. Begins is_ascii_digit (vector_word v)) refl refl refl refl refl refl refl refl n;
  all =
      each_vector (λ v. list_all is_ascii_alphanumeric (vector_word v) ≡ true) refl refl refl refl refl refl
      refl refl n;
  value =
      each_vector (λ v. number_of (vector_word v) ≡ Some (vector_code v)) refl refl refl refl refl refl refl
      refl n;
}

-- ---- a line with no, one or two operands

pub none_read : (k : Lexeme) (w : List ℕ) (m : ℕ) → IsPrinted k w m
    → tokens_of (w ++ operand_field []) ≡ Ok ((1, k) ∷ [])
none_read k w m word =
    spells_read ((1, k) ∷ []) 1 (w ++ []) (piece 1 k w [] [] (word.token [] tt) (done (1 + length w)))

-- where the first operand stands
abbrev pub behind : List ℕ → ℕ
behind w = 1 + length w + 1

pub one_read : (k l : Lexeme) (w o : List ℕ) (m n : ℕ) → IsPrinted k w m → IsPrinted l o n
    → tokens_of (w ++ operand_field (o ∷ [])) ≡ Ok ((1, k) ∷ (behind w, l) ∷ [])
one_read k l w o m n word operand =
    spells_read ((1, k) ∷ (behind w, l) ∷ []) 1 (w ++ (32 ∷ (o ++ [])))
    (piece 1 k w (32 ∷ (o ++ [])) ((behind w, l) ∷ []) (word.token (32 ∷ (o ++ [])) refl)
    (blank (1 + length w) (behind w, l) [] (o ++ [])
    (piece (behind w) l o [] [] (operand.token [] tt) (done (behind w + length o)))))

-- where the second one stands
abbrev pub behind_two : List ℕ → List ℕ → ℕ
behind_two w o = behind w + length o + 1

pub two_read : (k l m : Lexeme) (w o p : List ℕ) (a b c : ℕ) → IsPrinted k w a → IsPrinted l o b
    → IsPrinted m p c
    → tokens_of (w ++ operand_field (o ∷ p ∷ []))
    ≡ Ok ((1, k) ∷ (behind w, l) ∷ (behind w + length o, Sign 44) ∷ (behind_two w o, m) ∷ [])
two_read k l m w o p a b c word first second =
    let third = piece (behind_two w o) m p [] [] (second.token [] tt) (done (behind_two w o + length p)) in
    let sign =
    piece (behind w + length o) (Sign 44) (44 ∷ []) (p ++ []) ((behind_two w o, m) ∷ []) (comma (p ++ []))
    third in
    let operand =
    piece (behind w) l o (44 ∷ (p ++ [])) ((behind w + length o, Sign 44) ∷ (behind_two w o, m) ∷ [])
    (first.token (44 ∷ (p ++ [])) refl) sign in
    spells_read ((1, k) ∷ (behind w, l) ∷ (behind w + length o, Sign 44) ∷ (behind_two w o, m) ∷ []) 1
    (w ++ (32 ∷ (o ++ (44 ∷ (p ++ [])))))
    (piece 1 k w (32 ∷ (o ++ (44 ∷ (p ++ []))))
    ((behind w, l) ∷ (behind w + length o, Sign 44) ∷ (behind_two w o, m) ∷ [])
    (word.token (32 ∷ (o ++ (44 ∷ (p ++ [])))) refl)
    (blank (1 + length w) (behind w, l) ((behind w + length o, Sign 44) ∷ (behind_two w o, m) ∷ [])
    (o ++ (44 ∷ (p ++ []))) operand))

-- ---- what else is to be known of such a line: it has no line end, and few characters

pub record IsShort (line : List ℕ) : Type 0 where
  pub plain : list_all (nat_lt 13) line ≡ true
  pub most : length line ≤ 14

joined_plain : (xs ys : List ℕ) → list_all (nat_lt 13) xs ≡ true → list_all (nat_lt 13) ys ≡ true
    → list_all (nat_lt 13) (xs ++ ys) ≡ true
joined_plain xs ys h k =
    list_all-append (nat_lt 13) xs ys ∙ and_from (list_all (nat_lt 13) xs) (list_all (nat_lt 13) ys) h k

joined_short : (xs ys : List ℕ) (m n : ℕ) → length xs ≤ m → length ys ≤ n → length (xs ++ ys) ≤ m + n
joined_short xs ys m n h k = let e = length-append xs ys in omega (arith, e, h, k)

pub none_short : (k : Lexeme) (w : List ℕ) → IsPrinted k w 4 → IsShort (w ++ operand_field [])
none_short k w word =
    let few = joined_short w [] 4 0 word.short (omega arith) in
    record { plain = joined_plain w [] word.plain refl; most = omega (arith, few) }

pub one_short : (k l : Lexeme) (w o : List ℕ) → IsPrinted k w 4 → IsPrinted l o 6
    → IsShort (w ++ operand_field (o ∷ []))
one_short k l w o word operand =
    let tail = joined_short o [] 6 0 operand.short (omega arith) in
    let all = joined_short w (32 ∷ (o ++ [])) 4 7 word.short (omega (arith, tail)) in
    record {
      plain = joined_plain w (32 ∷ (o ++ [])) word.plain (joined_plain o [] operand.plain refl);
      most = omega (arith, all);
    }

pub two_short : (k l m : Lexeme) (w o p : List ℕ) → IsPrinted k w 3 → IsPrinted l o 3 → IsPrinted m p 6
    → IsShort (w ++ operand_field (o ∷ p ∷ []))
two_short k l m w o p word first second =
    let third = joined_short p [] 6 0 second.short (omega arith) in
    let tail = joined_short o (44 ∷ (p ++ [])) 3 7 first.short (omega (arith, third)) in
    let all = joined_short w (32 ∷ (o ++ (44 ∷ (p ++ [])))) 3 11 word.short (omega (arith, tail)) in
    record {
      plain =
          joined_plain w (32 ∷ (o ++ (44 ∷ (p ++ [])))) word.plain
          (joined_plain o (44 ∷ (p ++ [])) first.plain (joined_plain p [] second.plain refl));
      most = omega (arith, all);
    }

pub weaker : (l : Lexeme) (text : List ℕ) (m n : ℕ) → IsPrinted l text m → m ≤ n → IsPrinted l text n
weaker l text m n p le =
    let s = p.short in record { token = p.token; plain = p.plain; short = omega (arith, s, le) }
