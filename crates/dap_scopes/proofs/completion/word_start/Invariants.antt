use Rattle.std.proofs.Common.{◌≡◌, ◌-◌, ◌+◌, ◌≤◌, take, length}
use Rattle.std.specs.List.{suffix_len}
use Rattle.dap_scopes.specs.Completions.{is_word_character}
use Rattle.dap_scopes.proofs.completion.word_start.Given as goal

-- the word's characters from here on, and those before
abbrev pub invariant-loop-start : goal.invariant-loop-start
invariant-loop-start l =
    (l.start ≤ length l.before)
    × (suffix_len is_word_character (take l.start l.before) + (length l.before - l.start)
    ≡ suffix_len is_word_character l.before)

abbrev pub decreases-loop-start : goal.decreases-loop-start
decreases-loop-start l = l.start
