-- What the laws speak of.
use Rattle.std.specs.Prelude.{◌≡◌, ℕ, [], Ok}
use Rattle.base_text.specs.Bytes.{Text}
use Rattle.i80_exec.specs.State.{MachineState, with_board, power_on}
use Rattle.lab_core.specs.Board.{Board}
use Rattle.dap_board.specs.Commands.{board_with}
use Rattle.dap_requests.specs.declared.request.Launch.{Launch}
use Rattle.dap_image.specs.Images.{Cells}
use Rattle.dap_image.specs.Law.{HasBytes}
use Rattle.dap_launch.specs.Loading.{load_result}

-- the machine after power-on, with the launch's treatment of undefined opcodes
abbrev pub machine_for : Launch → MachineState
machine_for l = with_board power_on (board_with l.has_aliases)

-- The text is loaded with this start, and brings no symbol. The machine has these bytes, and is otherwise as
-- it was before any load.
pub record LaunchesProgram (l : Launch) (text : Text) (cells : Cells) (start : ℕ) : Type 0 where
  pub board : Board
  pub loaded : load_result l text ≡ Ok (board, start)
  pub machine : HasBytes cells (machine_for l) board.machine
  pub symbols : board.symbols ≡ []
