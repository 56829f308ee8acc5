-- What the laws speak of.
use Rattle.std.specs.Prelude.{◌≡◌, ◌<◌, ℕ, List, length, All, Option, Some, None, IfSome, IsOk, Ok}
use Rattle.std.specs.Prelude.{unwrap_or, slice_index_or}
use Rattle.base_text.specs.Bytes.{Text}
use Rattle.i80_exec.specs.State.{MachineState, byte_at}
use Rattle.lab_image.specs.Sources.{place_of}
use Rattle.lab_core.specs.declared.run_state.RunState.TheVariants.{NoRun}
use Rattle.lab_core.specs.declared.event.Event.TheVariants as event
use Rattle.lab_core.specs.declared.answer.Answer.TheVariants as answer
use Rattle.lab_core.specs.Board.{Board}
use Rattle.lab_core.specs.Events.{result_of}
use Rattle.dap_image.specs.declared.text.ImagePlace.{ImagePlace}
use Rattle.dap_image.specs.Images.{Cells}

-- the bytes are bytes, and the place's numbers are addresses
pub record AreInRange (bytes : List ℕ) (place : ImagePlace) : Type 0 where
  pub bytes_are : All (λ byte. byte < 256) bytes
  pub origin : place.origin < 65536
  pub start : IfSome place.start (λ start. start < 65536)

-- the byte at an address, if there is one
abbrev pub cell_at : Cells → ℕ → Option ℕ
cell_at cells address = slice_index_or cells address None

-- No program runs on the board, the text may be kept under this path, and there are 65,536 bytes of memory.
pub record TakesText (path text : Text) (b : Board) : Type 0 where
  pub run : b.run ≡ NoRun
  pub place : IsOk (place_of (record { path = path; text = text }) b.sources)
  pub size : length b.machine.memory ≡ 65536

-- the machine has each of these bytes at its address, and is otherwise as it was
pub record HasBytes (cells : Cells) (old new : MachineState) : Type 0 where
  pub bytes : (address : ℕ) → address < 65536
      → byte_at new address ≡ unwrap_or (cell_at cells address) (byte_at old address)
  pub registers : new.regs ≡ old.regs
  pub option : new.board ≡ old.board

-- The load of the text succeeds with this start; then the machine has these bytes, and the symbols are kept.
pub record LoadsProgram (path text : Text) (cells : Cells) (start : ℕ) (b : Board) : Type 0 where
  pub board : Board
  pub answered : result_of (event.Load path text) b ≡ Ok (answer.Loaded (Some start), board)
  pub machine : HasBytes cells b.machine board.machine
  pub symbols : board.symbols ≡ b.symbols
