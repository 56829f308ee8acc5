-- The words of the stack, from SP up to the last address.
use Rattle.std.specs.Prelude.{ℕ, ◌+◌, ◌-◌, ◌*◌, ◌/◌, ◌==◌, List, [], ◌∷◌, ◌++◌, map, min, reverse, slice_get}
use Rattle.std.specs.Prelude.{Option, Some, None, option_map, codes, if◌then◌else◌}
use Rattle.std.specs.List.{range_with_len}
use Rattle.base_text.specs.Bytes.{Text}
use Rattle.i80_exec.specs.State.{word_at}
use Rattle.asm_build.specs.Reading.{Entries}
use Rattle.lab_frames.specs.declared.frame.Frame.{Frame}
use Rattle.lab_frames.specs.Live.{live}
use Rattle.lab_views.specs.Frames.{routine_name}
use Rattle.lab_core.specs.Board.{Board}
use Rattle.dap_messages.specs.declared.message.EditorVariable.{EditorVariable}
use Rattle.dap_messages.specs.declared.message.ValueFormat.{ValueFormat}
use Rattle.dap_values.specs.Format.{word_shown}
use Rattle.dap_scopes.specs.Rows.{row_at}

-- ---- where return addresses lead

-- the name of the routine of a frame; outside all frames is the main program
abbrev pub frame_name : Entries → Option Frame → Text
frame_name symbols None = codes "main"
frame_name symbols (Some f) = routine_name symbols f.target

-- Of the frame whose return address is at this address, if there is one: the next older frame, if there is
-- one. The frames are listed newest first.
abbrev pub older_than : ℕ → List Frame → Option (Option Frame)
older_than address [] = None
older_than address (f ∷ older) =
    if f.slot == address then Some (slice_get older 0) else older_than address older

-- the routine that the return address at this address leads back to, if a live frame's is there
abbrev pub returns_to : Board → ℕ → Option Text
returns_to b address = option_map (frame_name b.symbols) (older_than address (reverse (live b.trace)))

-- ---- words

abbrev pub return_text : Option Text → Text
return_text None = []
return_text (Some name) = codes ", back in " ++ name

abbrev pub stack_text : ValueFormat → Board → ℕ → Text
stack_text format b address =
    word_shown format (word_at b.machine address) ++ return_text (returns_to b address)

-- the word at an address, and where it leads back to
abbrev pub word_row : ValueFormat → Board → ℕ → EditorVariable
word_row format b address = row_at (codes "word[") (stack_text format b address) address

-- the number of words that begin at SP or above it, two bytes apart
abbrev pub stack_words : ℕ → ℕ
stack_words sp = (65536 - sp + 1) / 2

-- the address of a word by its index, where 0 is the one at SP
abbrev pub stack_address : ℕ → ℕ → ℕ
stack_address sp index = sp + 2 * index

-- that many words from an index on, but none past the last address
abbrev pub stack_rows : ValueFormat → Board → ℕ → ℕ → List EditorVariable
stack_rows format b start count =
    let sp = b.machine.regs.sp in
    map (λ index. word_row format b (stack_address sp index))
    (range_with_len start (min count (stack_words sp - start)))
