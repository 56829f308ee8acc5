-- A program without source is launched.
use Rattle.std.proofs.Common.{◌≡◌, ℕ, List, Bool, true, false, Some, Result, Ok, Err, refl, ap, subst, ◌∙◌}
use Rattle.i80_exec.specs.State.{MachineState}
use Rattle.lab_core.specs.Board.{Board}
use Rattle.dap_requests.specs.declared.request.Launch.{Launch}
use Rattle.dap_messages.specs.declared.file_kind.ImageKind.{ImageKind}
use Rattle.dap_image.specs.declared.fault.ImageFault.{ImageFault}
use Rattle.dap_image.specs.Images.{Cells}
use Rattle.dap_image.specs.Law.{AreInRange, TakesText, HasBytes}
use Rattle.dap_image.specs.Texts.{program_for, text_for}
use Rattle.dap_image.proofs.Loaded.{text_loads, opening_takes_text}
use Rattle.dap_launch.specs.Loading.{attached_where, board_to_load_on, loaded_by, load_result}
use Rattle.dap_launch.specs.declared.file.FileText.TheVariants as file
use Rattle.dap_launch.specs.Files.{place_of, or_message, program_text}
use Rattle.dap_launch.specs.Laws.{LaunchesProgram}

-- a debugger that attaches leaves the machine, the symbols and what the board takes as they were
attached_takes : (is_debugged : Bool) (path text : List ℕ) (b : Board) → TakesText path text b
    → TakesText path text (attached_where is_debugged b)
attached_takes true path text b takes = record { run = takes.run; place = takes.place; size = takes.size }
attached_takes false path text b takes = takes

attached_machine : (is_debugged : Bool) (b : Board) → (attached_where is_debugged b).machine ≡ b.machine
attached_machine true b = refl
attached_machine false b = refl

attached_symbols : (is_debugged : Bool) (b : Board) → (attached_where is_debugged b).symbols ≡ b.symbols
attached_symbols true b = refl
attached_symbols false b = refl

abbrev switched_board : Launch → Board
switched_board l = board_to_load_on (record l { is_debugged = false })

board_takes : (l : Launch) (text : List ℕ) → TakesText l.program text (board_to_load_on l)
board_takes l text =
    let takes = opening_takes_text l.program text in
    attached_takes l.is_debugged l.program text (switched_board l)
    (record { run = refl; place = takes.place; size = takes.size })

text_is : (found : Result (List ℕ) ImageFault) (text : List ℕ) → or_message found ≡ Ok text → found ≡ Ok text
text_is (Ok listing) text is = cc
text_is (Err fault) text is = absurd (cc)

pub image_is_launched : (l : Launch) (kind : ImageKind) (bytes text : List ℕ) → AreInRange bytes (place_of l)
    → program_text l (Some (file.Image kind bytes)) ≡ Ok text
    → (cells : Cells) (start : ℕ) → program_for kind bytes (place_of l) ≡ Ok (cells, start)
    → LaunchesProgram l text cells start
unfolding load_result
image_is_launched l kind bytes text is text_told cells start program =
    let listing = text_is (text_for kind bytes (place_of l)) text text_told in
    let loads =
    text_loads kind bytes (place_of l) l.program text (board_to_load_on l) is listing (board_takes l text)
    cells start program in
    record {
      board = loads.board;
      loaded = ap loaded_by loads.answered;
      machine =
          subst (λ (m : MachineState). HasBytes cells m loads.board.machine)
          (attached_machine l.is_debugged (switched_board l)) loads.machine;
      symbols = loads.symbols ∙ attached_symbols l.is_debugged (switched_board l);
    }
