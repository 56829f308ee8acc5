-- The names that begin with the word before a column (Debug Adapter Protocol, "CompletionItem"). Columns
-- count from 1, and each is a byte.
use Rattle.std.specs.Prelude.{◌≡◌, ℕ, ◌+◌, ◌-◌, ◌==◌, ◌||◌, List, [], ◌∷◌, ◌++◌, map, length, take, drop}
use Rattle.std.specs.Prelude.{Bool, true, false, codes, if◌then◌else◌}
use Rattle.std.specs.List.{filter, list_all, suffix_len}
use Rattle.std.specs.Char.{is_ascii_alphanumeric}
use Rattle.std.specs.Str.{str_eq_ignore_ascii_case}
use Rattle.base_text.specs.Bytes.{Text}
use Rattle.asm_syntax.specs.Ascii.{tab, space, dollar, question_mark, at_sign}
use Rattle.asm_build.specs.Reading.{Entries}
use Rattle.lab_core.specs.Board.{Board}
use Rattle.dap_messages.specs.declared.message.Completion.{Completion}
use Rattle.dap_messages.specs.declared.message.CompletionKind.{CompletionKind}
use Rattle.dap_messages.specs.declared.message.CompletionKind.TheVariants as kind
use Rattle.dap_scopes.specs.declared.completion.Completions.{Completions}

-- ---- the word before a column

-- letters, digits, ?, @ and $
abbrev pub is_word_character : ℕ → Bool
is_word_character c = is_ascii_alphanumeric c || (c == question_mark || (c == at_sign || c == dollar))

abbrev pub is_blank : ℕ → Bool
is_blank c = c == space || c == tab

abbrev pub text_before : Text → ℕ → Text
text_before text column = take (column - 1) text

-- where the longest word begins that ends with a text
abbrev pub word_start : Text → ℕ
word_start before = length before - suffix_len is_word_character before

abbrev pub word_of : Text → Text
word_of before = drop (word_start before) before

-- nothing but blanks is before it
abbrev pub is_first : Text → Bool
is_first before = list_all is_blank (take (word_start before) before)

-- ---- what can be meant

-- the $ that a word begins with
abbrev pub dollar_text : Text → Text
dollar_text [] = []
dollar_text (c ∷ cs) = if c == dollar then codes "$" else []

-- a name of a kind, behind a text
abbrev pub completion_named : Text → CompletionKind → Text → Completion
completion_named front kind name = record { label = front ++ name; kind = kind }

abbrev pub part_names : List Text
part_names =
    codes "A" ∷ codes "B" ∷ codes "C" ∷ codes "D" ∷ codes "E" ∷ codes "H" ∷ codes "L" ∷ codes "M" ∷ codes "SP"
    ∷ codes "PSW" ∷ codes "BC" ∷ codes "DE" ∷ codes "HL" ∷ codes "PC" ∷ codes "S" ∷ codes "Z" ∷ codes "P"
    ∷ codes "CY" ∷ codes "AC" ∷ []

-- the parts, with the $ of a word that has it
abbrev pub part_completions : Text → List Completion
part_completions word = map (completion_named (dollar_text word) kind.Part) part_names

abbrev pub symbol_completions : Entries → List Completion
symbol_completions symbols = map (λ e. completion_named [] kind.Symbol e.0) symbols

abbrev pub prompt_words : List Completion
prompt_words = map (completion_named [] kind.Word)
    (codes "switches" ∷ codes "press" ∷ codes "type" ∷ codes "back" ∷ codes "symbols" ∷ [])

-- parts and symbols, of which an empty word means none
abbrev pub value_names : Text → Entries → List Completion
value_names [] symbols = []
value_names word symbols = part_completions word ++ symbol_completions symbols

-- the prompt's words, which come first in a text
abbrev pub first_words : Bool → List Completion
first_words true = prompt_words
first_words false = []

-- ---- what is given

-- a name begins with a word, in either case of letters
abbrev pub begins_with : Text → Text → Bool
begins_with name word = str_eq_ignore_ascii_case (take (length word) name) word

-- of these completions, the first 256 that begin with the word
abbrev pub completions_for : Text → List Completion → List Completion
completions_for word cs = take 256 (filter (λ c. begins_with c.label word) cs)

-- what can be meant at the end of a text: values, and then the prompt's words
abbrev pub candidates : Text → Entries → Bool → List Completion
candidates word symbols first = value_names word symbols ++ first_words first

abbrev pub completions_before : Text → Entries → Completions
completions_before before symbols = record {
  items = completions_for (word_of before) (candidates (word_of before) symbols (is_first before));
  start = word_start before + 1;
  length = length before - word_start before;
}

-- the completions of the word before a column of a text
abbrev pub completions_on : Board → Text → ℕ → Completions
completions_on b text column = completions_before (text_before text column) b.symbols

-- ---- more and more

-- whatever was completed so far, these are completed after it
abbrev pub Completes : Text → List Completion → List Completion → List Completion → Type 0
Completes word more old new = (cs : List Completion) → old ≡ completions_for word cs
    → new ≡ completions_for word (cs ++ more)
