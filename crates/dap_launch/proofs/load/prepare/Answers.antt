use Rattle.lab_core.specs.Board.{opening}
use Rattle.dap_launch.proofs.load.prepare.Goals as goal

pub returns-then-launch : goal.returns-then-launch
returns-then-launch c =
    rw (c.if-launch.true, ← c.board_with_aliases.ensures)
    (c.change_surely-then-launch.ensures _
    (c.change_surely-2.ensures _ (c.change_surely.ensures opening c.requires)))

pub returns-else-launch : goal.returns-else-launch
returns-else-launch c =
    rw (c.if-launch.false, ← c.board_with_aliases.ensures)
    (c.change_surely-2.ensures _ (c.change_surely.ensures opening c.requires))
