-- What an answer tells of SP, for every instruction and acceptance of the machine.
use Rattle.std.proofs.Common.{◌≡◌, ℕ, ◌+◌, ◌*◌, List, Some, refl, sym, subst, inl, inr, ◌⊎◌}
use Rattle.std.proofs.lemmas.Bool.{cond_both}
use Rattle.i80_base.specs.declared.instruction.Instr.{Instr}
use Rattle.i80_base.specs.declared.instruction.Instr.TheVariants.{Hlt, JumpIf, Call, CallIf, Ret, RetIf, Rst}
use Rattle.i80_base.specs.Codes.{vector_code}
use Rattle.i80_base.specs.Rows.{Row, Undefined, Alone, Byte, Word}
use Rattle.i80_base.specs.AliasRows.{row_on}
use Rattle.i80_exec.specs.declared.registers.Interrupts.{Interrupts}
use Rattle.i80_exec.specs.declared.registers.Interrupts.TheVariants.{Off, Arming, On}
use Rattle.i80_exec.specs.declared.registers.Stepped.{Stepped}
use Rattle.i80_exec.specs.declared.registers.Stepped.TheVariants.{Done, Halted}
use Rattle.i80_exec.specs.State.{MachineState, modulo_65536, byte_at, word_at, with_pc, with_interrupts}
use Rattle.i80_exec.specs.Effect.{Outcome, done_at, effect, after_call, after_return, holds}
use Rattle.i80_exec.specs.Step.{by_row, instruction, accepted_in, acceptance}
use Rattle.lab_frames.specs.declared.frame.Frame.{Frame}
use Rattle.lab_frames.specs.Frames.{AtLeast, ReturnsBelow, TellsSp}

-- an outcome's answer tells SP before it and after it
abbrev Tells : ℕ → Outcome → Type 0
Tells sp o = TellsSp o.answer sp o.after.regs.sp

called-tells : (m : MachineState) (target : ℕ) → Tells m.regs.sp (after_call m target)
called-tells m target = record { returns = λ from is. cc; calls = λ slot to is. cc; keeps = λ opcode is. cc }

returned-tells : (m : MachineState) → Tells m.regs.sp (after_return m)
returned-tells m = record { returns = λ from is. cc; calls = λ slot to is. cc; keeps = λ opcode is. cc }

-- no call, no return, and defined
quiet : (answer : Stepped) (before after : ℕ) → answer ≡ Done ⊎ answer ≡ Halted → TellsSp answer before after
quiet answer before after (inl done) =
    record { returns = λ from is. cc; calls = λ slot to is. cc; keeps = λ opcode is. cc }
quiet answer before after (inr halted) =
    record { returns = λ from is. cc; calls = λ slot to is. cc; keeps = λ opcode is. cc }

effect-tells : (i : Instr) (input : ℕ → ℕ) (m : MachineState) → Tells m.regs.sp (effect i input m)
effect-tells Hlt input m = quiet _ _ _ (inr refl)
effect-tells (JumpIf c address) input m =
    cond_both (holds c m.regs.flags) (done_at (with_pc m address)) (done_at m) (Tells m.regs.sp)
    (λ _. quiet _ _ _ (inl refl)) (λ _. quiet _ _ _ (inl refl))
effect-tells (Call address) input m = called-tells m address
effect-tells (CallIf c address) input m =
    cond_both (holds c m.regs.flags) (after_call m address) (done_at m) (Tells m.regs.sp)
    (λ _. called-tells m address) (λ _. quiet _ _ _ (inl refl))
effect-tells Ret input m = returned-tells m
effect-tells (RetIf c) input m =
    cond_both (holds c m.regs.flags) (after_return m) (done_at m) (Tells m.regs.sp)
    (λ _. returned-tells m) (λ _. quiet _ _ _ (inl refl))
effect-tells (Rst n) input m = called-tells m (8 * vector_code n)
effect-tells i input m = quiet _ _ _ (inl refl)

row-tells : (r : Row) (input : ℕ → ℕ) (m : MachineState) → Tells m.regs.sp (by_row r input m)
row-tells Undefined input m =
    record { returns = λ from is. cc; calls = λ slot to is. cc; keeps = λ opcode is. refl }
row-tells (Alone i) input m =
    let e = effect-tells i input (with_pc m (modulo_65536 (m.regs.pc + 1))) in
    record { returns = e.returns; calls = e.calls; keeps = e.keeps }
row-tells (Byte f) input m =
    let e = effect-tells (f (byte_at m (m.regs.pc + 1))) input (with_pc m (modulo_65536 (m.regs.pc + 2))) in
    record { returns = e.returns; calls = e.calls; keeps = e.keeps }
row-tells (Word f) input m =
    let e = effect-tells (f (word_at m (m.regs.pc + 1))) input (with_pc m (modulo_65536 (m.regs.pc + 3))) in
    record { returns = e.returns; calls = e.calls; keeps = e.keeps }

-- the instruction at PC, whatever the ports answer
pub instruction-tells : (input : ℕ → ℕ) (m : MachineState)
    → TellsSp (instruction input m).answer m.regs.sp (instruction input m).after.regs.sp
instruction-tells input m = row-tells (row_on m.board (byte_at m m.regs.pc)) input m

accepted-tells : (state : Interrupts) (n : ℕ) (m : MachineState) (o : Outcome)
    → accepted_in state n m ≡ Some o → Tells m.regs.sp o
accepted-tells On n m o is =
    let same : after_call (with_interrupts m Off) (8 * n) ≡ o = cc in
    subst (Tells m.regs.sp) same (called-tells (with_interrupts m Off) (8 * n))
accepted-tells Arming n m o is = cc
accepted-tells Off n m o is = cc

-- an accepted request
pub acceptance-tells : (n : ℕ) (m : MachineState) (o : Outcome) → acceptance n m ≡ Some o
    → TellsSp o.answer m.regs.sp o.after.regs.sp
acceptance-tells n m o is = accepted-tells m.regs.interrupts n m o is

-- a step from an SP that no slot is below returns from below them all
pub returns_below : (answer : Stepped) (before after : ℕ) (fs : List Frame) → TellsSp answer before after
    → AtLeast before fs → ReturnsBelow answer fs
returns_below answer before after fs tells above = λ from is.
    let P : ℕ → Type 0 = λ n. AtLeast n fs in
    subst P (sym (tells.returns from is)) above
