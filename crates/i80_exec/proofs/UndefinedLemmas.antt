-- Undefined is answered exactly where an undefined opcode stands at PC.
use Rattle.std.proofs.Common.{◌≡◌, ℕ, ◌+◌, true, false, None, refl, sym, subst}
use Rattle.std.proofs.lemmas.Bool.{cond_both}
use Rattle.i80_base.specs.declared.instruction.Instr.{Instr}
use Rattle.i80_base.specs.declared.instruction.Instr.TheVariants.{JumpIf, CallIf, RetIf}
use Rattle.i80_base.specs.Rows.{Row, Undefined, Alone, Byte, Word, is_undefined}
use Rattle.i80_exec.specs.declared.registers.Stepped.{Stepped}
use Rattle.i80_exec.specs.declared.registers.Stepped.TheVariants as stepped
use Rattle.i80_exec.specs.declared.registers.Kind.{Kind}
use Rattle.i80_exec.specs.declared.registers.Kind.TheVariants as kind
use Rattle.i80_exec.specs.State.{MachineState, modulo_65536, byte_at, word_at, with_pc}
use Rattle.i80_exec.specs.Effect.{Outcome, done_at, effect, after_call, after_return, holds}
use Rattle.i80_exec.specs.Step.{by_row, answer_of}

-- an answer other than Undefined
abbrev pub IsDefined : Stepped → Type 0
IsDefined (stepped.Undefined opcode) = ⊥
IsDefined _ = Unit {0}

abbrev pub Defines : Outcome → Type 0
Defines o = IsDefined o.answer

pub effect-defined : (i : Instr) (input : ℕ → ℕ) (m : MachineState) → Defines (effect i input m)
effect-defined (JumpIf c address) input m =
    cond_both (holds c m.regs.flags) (done_at (with_pc m address)) (done_at m) Defines (λ _. tt) (λ _. tt)
effect-defined (CallIf c address) input m =
    cond_both (holds c m.regs.flags) (after_call m address) (done_at m) Defines (λ _. tt) (λ _. tt)
effect-defined (RetIf c) input m =
    cond_both (holds c m.regs.flags) (after_return m) (done_at m) Defines (λ _. tt) (λ _. tt)
effect-defined _ input m = tt

-- what such a row is, does and leaves
pub record Nothing (r : Row) (m : MachineState) (o : Outcome) (opcode : ℕ) : Type 0 where
  pub row_is : is_undefined r ≡ true
  pub opcode_is : opcode ≡ byte_at m m.regs.pc
  pub after_is : o.after ≡ m
  pub operation_is : o.operation ≡ None

pub not_defined : (o : Outcome) (opcode : ℕ) → stepped.Undefined opcode ≡ o.answer → Defines o → ⊥
not_defined o opcode is defined = subst IsDefined (sym is) defined

pub row-nothing : (r : Row) (input : ℕ → ℕ) (m : MachineState) (opcode : ℕ)
    → stepped.Undefined opcode ≡ (by_row r input m).answer
    → Nothing r m (by_row r input m) opcode
row-nothing Undefined input m opcode is =
    record { row_is = refl; opcode_is = cc; after_is = refl; operation_is = refl }
row-nothing (Alone i) input m opcode is =
    absurd (not_defined (effect i input (with_pc m (modulo_65536 (m.regs.pc + 1)))) opcode is
    (effect-defined i input (with_pc m (modulo_65536 (m.regs.pc + 1)))))
row-nothing (Byte f) input m opcode is =
    absurd (not_defined (effect (f (byte_at m (m.regs.pc + 1))) input (with_pc m (modulo_65536 (m.regs.pc +
    2))))
    opcode is (effect-defined (f (byte_at m (m.regs.pc + 1))) input (with_pc m (modulo_65536 (m.regs.pc +
    2)))))
row-nothing (Word f) input m opcode is =
    absurd (not_defined (effect (f (word_at m (m.regs.pc + 1))) input (with_pc m (modulo_65536 (m.regs.pc +
    3))))
    opcode is (effect-defined (f (word_at m (m.regs.pc + 1))) input (with_pc m (modulo_65536 (m.regs.pc +
    3)))))

pub row-some : (r : Row) (input : ℕ → ℕ) (m : MachineState) → Defines (by_row r input m)
    → is_undefined r ≡ false
row-some Undefined input m defined = absurd defined
row-some _ input m defined = refl

-- a kind other than Undefined answers so
pub kind-defined : (k : Kind) (m : MachineState) → (k ≡ kind.Undefined → ⊥) → IsDefined (answer_of k m)
kind-defined kind.Undefined m other = absurd (other refl)
kind-defined _ m other = tt

-- so where such a kind is told of a row, the row is defined
pub row-kind : (r : Row) (input : ℕ → ℕ) (m after : MachineState) (k : Kind)
    → answer_of k after ≡ (by_row r input m).answer → (k ≡ kind.Undefined → ⊥) → is_undefined r ≡ false
row-kind r input m after k is other = row-some r input m (subst IsDefined is (kind-defined k after other))
