-- What a counter replies.
use Rattle.std.specs.Prelude.{ℕ, ◌+◌, Bool, true, false, List, length, Result, Ok, Err}
use Rattle.lab_turn_tests.specs.declared.CountFault.{CountFault}
use Rattle.lab_turn_tests.specs.declared.CountFault.TheVariants.{OutOfMemory, Full}

-- the seat and the mark of each call that was counted, the most calls that may be, and the counter's label
pub record CounterState : Type 0 where
  pub entries : List (ℕ × ℕ)
  pub limit : ℕ
  pub label : ℕ

-- after these entries a call makes the count one more than their number
abbrev pub answer_of : List (ℕ × ℕ) → ℕ → Result ℕ CountFault
answer_of before call = Ok (length before + 1)

abbrev pub is_entry_of : Result ℕ CountFault → Bool
is_entry_of (Ok count) = true
is_entry_of (Err fault) = false

abbrev pub is_full_of : Result ℕ CountFault → Bool
is_full_of (Ok count) = false
is_full_of (Err OutOfMemory) = false
is_full_of (Err Full) = true
