use Rattle.std.proofs.Common.{◌≡◌, drop}
use Rattle.std.specs.List.{list_any}
use Rattle.lab_core.specs.Board.{Board}
use Rattle.lab_core.specs.Labs.{RepresentsBoard}
use Rattle.dap_log.specs.Parts.{is_undefined}
use Rattle.dap_log.proofs.message.is_any_undefined.Given as goal

abbrev pub invariant-loop-part : goal.invariant-loop-part
invariant-loop-part l = (b : Board) → RepresentsBoard l.fn.lab b
    → list_any (is_undefined b) (drop l.part-index l.parts) ≡ list_any (is_undefined b) l.parts
