-- The rows 40 to BF as what the bits of their opcodes name; and DCR, which leaves the interrupt state alone.
use Rattle.std.proofs.Common.{◌≡◌, ℕ, ◌+◌, ◌-◌, ◌/◌, ◌%◌, ◌<◌, ◌≤◌, ◌==◌, true, false, cond, None, refl, ap}
use Rattle.std.proofs.Common.{subst, sym, ◌∙◌, arith}
use Rattle.std.proofs.lemmas.Bool.Decides.{nat_tests}
use Rattle.i80_base.specs.declared.instruction.Instr.TheVariants.{Nop}
use Rattle.i80_base.specs.declared.instruction.Reg.{Reg}
use Rattle.i80_base.specs.declared.instruction.Reg.TheVariants as reg
use Rattle.i80_base.specs.Arithmetic.{decrement}
use Rattle.i80_base.specs.Rows.{row}
use Rattle.i80_base.proofs.Tables.{agree, table}
use Rattle.i80_exec.specs.declared.registers.Stepped.TheVariants.{Halted}
use Rattle.i80_exec.specs.declared.registers.Interrupts.{Interrupts}
use Rattle.i80_exec.specs.State.{MachineState, modulo_65536, with_pc, with_interrupts, get, with_reg}
use Rattle.i80_exec.specs.Effect.{Outcome, done_at, after_operation, to_reg}
use Rattle.i80_exec.specs.Step.{by_row, interrupts_after, row_moves_sp}
use Rattle.i80_exec.specs.Opcodes.{reg_at, operation_at}

-- the machine with PC past an instruction of one byte, and arming ended
abbrev pub past : MachineState → MachineState
past m = with_interrupts (with_pc m (modulo_65536 (m.regs.pc + 1))) (interrupts_after Nop m.regs.interrupts)

abbrev pub halted : MachineState → Outcome
halted m = record { after = past m; operation = None; answer = Halted }

abbrev does_move : ℕ → MachineState → Outcome
does_move opcode m = done_at (with_reg (past m) (reg_at (opcode / 8 % 8)) (get (past m) (reg_at (opcode %
    8))))

abbrev moved : ℕ → MachineState → Outcome
moved opcode m = cond (opcode == 118) (halted m) (does_move opcode m)

moves : (input : ℕ → ℕ) (m : MachineState)
    → table (λ k. by_row (row (k + 64)) input m) 64 ≡ table (λ k. moved (k + 64) m) 64
unfolding row
moves input m = refl

abbrev pub computed : ℕ → MachineState → Outcome
computed opcode m =
    done_at (after_operation (operation_at (opcode / 8 % 8)) (past m) (get (past m) (reg_at (opcode % 8))))

computes : (input : ℕ → ℕ) (m : MachineState)
    → table (λ k. by_row (row (k + 128)) input m) 64 ≡ table (λ k. computed (k + 128) m) 64
unfolding row
computes input m = refl

-- what agrees on 64 numbers from a first one on
from_first : (f g : ℕ → Outcome) (first opcode : ℕ) → table (λ k. f (k + first)) 64
    ≡ table (λ k. g (k + first)) 64
    → first ≤ opcode → opcode < first + 64 → f opcode ≡ g opcode
from_first f g first opcode same low high =
    let at : opcode - first + first ≡ opcode = omega arith in
    subst (λ n. f n ≡ g n) at (agree (λ k. f (k + first)) (λ k. g (k + first)) 64 same (opcode - first)
    (omega arith))

move_or_halt : (opcode : ℕ) (input : ℕ → ℕ) (m : MachineState) → 64 ≤ opcode → opcode < 128
    → by_row (row opcode) input m ≡ moved opcode m
move_or_halt opcode input m low high =
    from_first (λ n. by_row (row n) input m) (λ n. moved n m) 64 opcode (moves input m) low high

not_halt : (opcode : ℕ) → (opcode ≡ 118 → ⊥) → (opcode == 118) ≡ false
not_halt opcode other = grind (arith, nat_tests)

is_halt : (opcode : ℕ) → opcode ≡ 118 → (opcode == 118) ≡ true
is_halt opcode same = grind (arith, nat_tests)

pub move_row : (opcode : ℕ) (input : ℕ → ℕ) (m : MachineState) → 64 ≤ opcode → opcode < 128
    → (opcode ≡ 118 → ⊥)
    → by_row (row opcode) input m
    ≡ done_at (with_reg (past m) (reg_at (opcode / 8 % 8)) (get (past m) (reg_at (opcode % 8))))
move_row opcode input m low high other =
    move_or_halt opcode input m low high ∙ ap (λ b. cond b (halted m) (does_move opcode m))
    (not_halt opcode other)

pub halt_row : (opcode : ℕ) (input : ℕ → ℕ) (m : MachineState) → 64 ≤ opcode → opcode < 128 → opcode ≡ 118
    → by_row (row opcode) input m ≡ halted m
halt_row opcode input m low high same =
    move_or_halt opcode input m low high ∙ ap (λ b. cond b (halted m) (does_move opcode m))
    (is_halt opcode same)

pub compute_row : (opcode : ℕ) (input : ℕ → ℕ) (m : MachineState) → 128 ≤ opcode → opcode < 192
    → by_row (row opcode) input m ≡ computed opcode m
compute_row opcode input m low high =
    from_first (λ n. by_row (row n) input m) (λ n. computed n m) 128 opcode (computes input m) low high

keeps_sp : table (λ k. row_moves_sp (row (k + 64))) 128 ≡ table (λ k. false) 128
unfolding row
keeps_sp = refl

-- no opcode from 40 to BF moves SP
pub never_moves : (opcode : ℕ) → 64 ≤ opcode → opcode < 192 → false ≡ row_moves_sp (row opcode)
never_moves opcode low high =
    let at : opcode - 64 + 64 ≡ opcode = omega arith in
    let same =
    agree (λ k. row_moves_sp (row (k + 64))) (λ k. false) 128 keeps_sp (opcode - 64) (omega arith) in
    sym (subst (λ n. row_moves_sp (row n) ≡ false) at same)

-- whether the interrupt state is set before DCR or after it is the same
pub decremented : (m : MachineState) (i : Interrupts) (r : Reg)
    → to_reg (with_interrupts m i) r (decrement (get (with_interrupts m i) r) m.regs.flags.cy)
    ≡ with_interrupts (to_reg m r (decrement (get m r) m.regs.flags.cy)) i
decremented m i reg.B = refl
decremented m i reg.C = refl
decremented m i reg.D = refl
decremented m i reg.E = refl
decremented m i reg.H = refl
decremented m i reg.L = refl
decremented m i reg.M = refl
decremented m i reg.A = refl
