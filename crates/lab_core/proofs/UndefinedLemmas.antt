-- A step answers Undefined exactly if the opcode at PC is undefined and no request is accepted.
use Rattle.std.proofs.Common.{◌≡◌, ℕ, List, [], Bool, true, false, ◌&&◌, Option, Some, None}
use Rattle.std.proofs.Common.{refl, sym, subst}
use Rattle.std.specs.Option.{is_none, IfSome}
use Rattle.i80_base.specs.Rows.{is_undefined}
use Rattle.i80_base.specs.AliasRows.{row_on}
use Rattle.i80_exec.specs.declared.registers.Interrupts.{Interrupts}
use Rattle.i80_exec.specs.declared.registers.Interrupts.TheVariants.{Off, Arming, On}
use Rattle.i80_exec.specs.declared.registers.Stepped.{Stepped}
use Rattle.i80_exec.specs.declared.registers.Stepped.TheVariants as stepped
use Rattle.i80_exec.specs.State.{MachineState, byte_at}
use Rattle.i80_exec.specs.Effect.{Outcome}
use Rattle.i80_exec.specs.Step.{accepted_in}
use Rattle.i80_exec.proofs.UndefinedLemmas.{IsDefined, Defines, not_defined, row-nothing, row-some}
use Rattle.i80_devs.specs.Past.{Operation, answer, panel_after}
use Rattle.lab_frames.specs.Steps.{acceptance_due, acceptance_of, or_instruction, outcome, operations}
use Rattle.lab_frames.specs.Steps.{taken_or_done}

pub defined : (answer : Stepped) → ((opcode : ℕ) → answer ≡ stepped.Undefined opcode → ⊥) → IsDefined answer
defined (stepped.Undefined opcode) other = other opcode refl
defined _ other = tt

-- the acceptance of a request answers a call
accepted-defined : (state : Interrupts) (n : ℕ) (m : MachineState) → IfSome (accepted_in state n m) Defines
accepted-defined On n m = tt
accepted-defined Arming n m = tt
accepted-defined Off n m = tt

acceptance-defined : (latched : Option ℕ) (m : MachineState) → IfSome (acceptance_of latched m) Defines
acceptance-defined None m = tt
acceptance-defined (Some n) m = accepted-defined m.regs.interrupts n m

-- ---- if the answer is Undefined

-- no step is made: no request is accepted, and the opcode at PC is undefined
pub record NoStep (past : List Operation) (m : MachineState) (opcode : ℕ) : Type 0 where
  pub finds : (is_undefined (row_on m.board (byte_at m m.regs.pc)) && is_none (acceptance_due m past)) ≡ true
  pub opcode_is : opcode ≡ byte_at m m.regs.pc
  pub after_is : (outcome m past).after ≡ m
  pub operation_is : (outcome m past).operation ≡ None
  pub operations_are : operations m past ≡ []

no_step_by : (a : Option Outcome) (past : List Operation) (m : MachineState) (opcode : ℕ)
    → acceptance_due m past ≡ a → IfSome a Defines
    → stepped.Undefined opcode ≡ (or_instruction a past m).answer → NoStep past m opcode
no_step_by (Some o) past m opcode is-a defined is = absurd (not_defined o opcode is defined)
no_step_by None past m opcode is-a defined is =
    let n = row-nothing (row_on m.board (byte_at m m.regs.pc)) (answer (panel_after past)) m opcode is in
    let O : Option Outcome → Type 0 = λ a. (or_instruction a past m).operation ≡ None in
    let A : Option Outcome → Type 0 = λ a. (or_instruction a past m).after ≡ m in
    let T : Option Outcome → Type 0 = λ a. taken_or_done a (or_instruction a past m) ≡ [] in
    record {
      finds = rw (is-a, n.row_is) refl;
      opcode_is = n.opcode_is;
      after_is = subst A (sym is-a) n.after_is;
      operation_is = subst O (sym is-a) n.operation_is;
      operations_are = subst T (sym is-a) (rw (n.operation_is) refl);
    }

pub no_step : (past : List Operation) (m : MachineState) (opcode : ℕ)
    → stepped.Undefined opcode ≡ (outcome m past).answer
    → NoStep past m opcode
no_step past m opcode is =
    no_step_by (acceptance_due m past) past m opcode refl (acceptance-defined (panel_after past).latched m) is

-- ---- if the answer is another

and_false : (b : Bool) → (b && false) ≡ false
and_false true = refl
and_false false = refl

step_by : (a : Option Outcome) (past : List Operation) (m : MachineState) → Defines (or_instruction a past m)
    → (is_undefined (row_on m.board (byte_at m m.regs.pc)) && is_none a) ≡ false
step_by (Some o) past m defined = and_false (is_undefined (row_on m.board (byte_at m m.regs.pc)))
step_by None past m defined =
    rw (row-some (row_on m.board (byte_at m m.regs.pc)) (answer (panel_after past)) m defined) refl

pub some_step : (past : List Operation) (m : MachineState) → IsDefined (outcome m past).answer
    → (is_undefined (row_on m.board (byte_at m m.regs.pc)) && is_none (acceptance_due m past)) ≡ false
some_step past m defined = step_by (acceptance_due m past) past m defined
