-- Names on a board.
use Rattle.std.proofs.Common.{◌≡◌, ℕ, List, refl}
use Rattle.i80_base.specs.declared.instruction.Reg.TheVariants as reg
use Rattle.i80_exec.specs.declared.registers.Registers.{Registers}
use Rattle.i80_exec.specs.State.{get}
use Rattle.asm_expr.specs.Tree.{Tree}
use Rattle.asm_expr.specs.Value.{value_of}
use Rattle.asm_build.specs.Reading.{Entries}
use Rattle.lab_core.specs.Board.{Board}
use Rattle.dap_expr.specs.Names.{value_named}
use Rattle.dap_expr.specs.Values.{tree_value}

pub tree_value_is : (b : Board) (reads : List ℕ) (tree : Tree) (symbols : Entries) (regs : Registers)
    (m here : ℕ) → symbols ≡ b.symbols → regs ≡ b.machine.regs → m ≡ get b.machine reg.M
    → here ≡ b.machine.regs.pc
    → value_of (λ x. value_named symbols regs m reads x) here tree ≡ tree_value b reads tree
tree_value_is b reads tree symbols regs m here symbols-are regs-are m-is here-is =
    rw (symbols-are, regs-are, m-is, here-is) refl
