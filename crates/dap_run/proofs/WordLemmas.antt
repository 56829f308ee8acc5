-- The word at the front of bytes.
use Rattle.std.proofs.Common.{◌≡◌, ℕ, List, [], ◌∷◌, ◌++◌, true, false, length, nat_eq}
use Rattle.std.proofs.Common.{refl, sym, ◌∙◌, append-nil, append_assoc}
use Rattle.std.specs.List.{take_while}
use Rattle.std.proofs.lemmas.List.Sums.{take_while-cons}
use Rattle.asm_lex.specs.Characters.{is_word_part}
use Rattle.dap_run.specs.Words.{word_or_sign}

-- a part of a word has been pushed, and the word goes on behind it
pub goes_on : (word new : List ℕ) (b : ℕ) (later all : List ℕ) → is_word_part b ≡ true
    → new ≡ word ++ b ∷ [] → word ++ take_while is_word_part (b ∷ later) ≡ all
    → new ++ take_while is_word_part later ≡ all
goes_on word new b later all is pushed before =
    let front : word ++ b ∷ take_while is_word_part later ≡ all =
    rw (take_while-cons is_word_part b later, is) at before in
    rw (pushed, append_assoc word (b ∷ []) (take_while is_word_part later)) front

-- what is no part of a word ends the word
pub ends : (word : List ℕ) (b : ℕ) (later all : List ℕ) → is_word_part b ≡ false
    → word ++ take_while is_word_part (b ∷ later) ≡ all → word ≡ all
ends word b later all is before =
    let front : word ++ [] ≡ all = rw (take_while-cons is_word_part b later, is) at before in
    sym (append-nil word) ∙ front

-- a word that isn't empty is told, and no sign
pub told_word : (word rest : List ℕ) → nat_eq (length word) 0 ≡ false → word_or_sign word rest ≡ word
told_word [] rest some = cc
told_word (b ∷ word) rest some = refl
