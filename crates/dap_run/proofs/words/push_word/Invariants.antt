use Rattle.std.proofs.Common.{◌≡◌, ◌++◌, string_bytes, length}
use Rattle.std.specs.List.{take_while}
use Rattle.asm_lex.specs.Characters.{is_word_part}
use Rattle.dap_run.proofs.words.push_word.Given as goal

-- the parts so far, and those of the bytes that are left
abbrev pub invariant-loop-b : goal.invariant-loop-b
invariant-loop-b l =
    string_bytes l.word ++ take_while is_word_part l.left
    ≡ string_bytes l.fn.word ++ take_while is_word_part l.bytes

abbrev pub decreases-loop-b : goal.decreases-loop-b
decreases-loop-b l = length l.left
