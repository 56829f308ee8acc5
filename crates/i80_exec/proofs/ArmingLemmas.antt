-- The interrupt state before an instruction, where EI was the last one and where it wasn't.
use Rattle.std.proofs.Common.{◌≡◌, ℕ, ◌+◌, Bool, true, false, if◌then◌else◌, refl, sym, ap, subst, ◌∙◌}
use Rattle.i80_base.specs.declared.instruction.Instr.{Instr}
use Rattle.i80_base.specs.declared.instruction.Instr.TheVariants.{Nop, Lxi, Stax, Ldax, Inx, Dcx, Dad}
use Rattle.i80_base.specs.declared.instruction.Instr.TheVariants.{Inr, Dcr, Mvi, Mov, MovFromM, MovToM}
use Rattle.i80_base.specs.declared.instruction.Instr.TheVariants.{Alu, AluImmediate, JumpIf, CallIf}
use Rattle.i80_base.specs.declared.instruction.Instr.TheVariants.{RetIf, Push, Pop}
use Rattle.i80_base.specs.declared.instruction.Reg.{Reg}
use Rattle.i80_base.specs.declared.instruction.Reg.TheVariants as reg
use Rattle.i80_base.specs.declared.instruction.Pair.{Pair}
use Rattle.i80_base.specs.declared.instruction.Pair.TheVariants as pair
use Rattle.i80_base.specs.declared.instruction.StackPair.{StackPair}
use Rattle.i80_base.specs.declared.instruction.StackPair.TheVariants as stack
use Rattle.i80_base.specs.declared.instruction.IndexPair.{IndexPair}
use Rattle.i80_base.specs.declared.instruction.IndexPair.TheVariants as index
use Rattle.i80_base.specs.declared.instruction.Operation.{Operation}
use Rattle.i80_base.specs.declared.instruction.Operation.TheVariants as operation
use Rattle.i80_base.specs.Rows.{Row, Undefined, Alone, Byte, Word, is_undefined}
use Rattle.i80_base.specs.Codes.{reg_of}
use Rattle.i80_exec.specs.declared.registers.Interrupts.{Interrupts}
use Rattle.i80_exec.specs.declared.registers.Interrupts.TheVariants.{Off, Arming, On}
use Rattle.i80_exec.specs.State.{
  MachineState,
  modulo_65536,
  byte_at,
  word_at,
  with_pc,
  with_interrupts,
  get,
  with_reg,
  get_pair,
  put_pair,
  get_index,
  get_stack_pair,
  put_stack_pair,
}
use Rattle.i80_base.specs.declared.arithmetic.AluResult.{AluResult}
use Rattle.i80_base.specs.Arithmetic.{increment, decrement}
use Rattle.i80_exec.specs.declared.registers.Stepped.{Stepped}
use Rattle.i80_exec.specs.declared.registers.Stepped.TheVariants as stepped
use Rattle.i80_exec.specs.Effect.{Outcome, effect, done_at, after_call, after_return, after_pop}
use Rattle.i80_exec.specs.Effect.{after_operation, holds, to_reg}
use Rattle.i80_exec.specs.Step.{interrupts_after, instruction_outcome, by_row, is_arming, after_pending_ei}
use Rattle.i80_exec.specs.Step.{armed_again}
use Rattle.i80_exec.specs.Step.{IsOutcome, Settles}
use Rattle.i80_exec.proofs.UndefinedLemmas.{IsDefined, Defines, effect-defined}
use Rattle.i80_exec.specs.declared.registers.Kind.TheVariants as kind

pub stays : (i : Interrupts) → is_arming i ≡ false → interrupts_after Nop i ≡ i
stays Off not_arming = refl
stays On not_arming = refl
stays Arming not_arming = cc

pub turns_on : (i : Interrupts) → is_arming i ≡ true → interrupts_after Nop i ≡ On
turns_on Off arming = cc
turns_on On arming = cc
turns_on Arming arming = refl

pub is_arming_by : (i : Interrupts) → is_arming i ≡ true → i ≡ Arming
is_arming_by Off arming = cc
is_arming_by On arming = cc
is_arming_by Arming arming = refl

pub never_arming : (i : Interrupts) → is_arming (interrupts_after Nop i) ≡ false
never_arming Off = refl
never_arming On = refl
never_arming Arming = refl

pub stays_settled : (m : MachineState) → is_arming m.regs.interrupts ≡ false → after_pending_ei m ≡ m
stays_settled m not_arming = ap (with_interrupts m) (stays m.regs.interrupts not_arming)

-- ---- an instruction does the same where interrupts are on already

after_on : (i : Instr) → interrupts_after i On ≡ interrupts_after i Arming
after_on Nop = refl
after_on _ = refl

pub after_settled : (i : Instr) (began : Interrupts)
    → interrupts_after i (interrupts_after Nop began) ≡ interrupts_after i began
after_settled i Off = refl
after_settled i On = refl
after_settled i Arming = after_on i

-- ---- what leaves SP and the interrupt state

pub put_settles : (r : Reg) (m : MachineState) (byte : ℕ) → is_arming m.regs.interrupts ≡ false
    → Settles kind.Quiet m (with_reg m r byte)
put_settles reg.B m byte settled = (refl, settled)
put_settles reg.C m byte settled = (refl, settled)
put_settles reg.D m byte settled = (refl, settled)
put_settles reg.E m byte settled = (refl, settled)
put_settles reg.H m byte settled = (refl, settled)
put_settles reg.L m byte settled = (refl, settled)
put_settles reg.M m byte settled = (refl, settled)
put_settles reg.A m byte settled = (refl, settled)

pub operated_settles : (x : Operation) (m : MachineState) (byte : ℕ) → is_arming m.regs.interrupts ≡ false
    → Settles kind.Quiet m (after_operation x m byte)
operated_settles operation.Add m byte settled = (refl, settled)
operated_settles operation.Adc m byte settled = (refl, settled)
operated_settles operation.Sub m byte settled = (refl, settled)
operated_settles operation.Sbb m byte settled = (refl, settled)
operated_settles operation.Ana m byte settled = (refl, settled)
operated_settles operation.Xra m byte settled = (refl, settled)
operated_settles operation.Ora m byte settled = (refl, settled)
operated_settles operation.Cmp m byte settled = (refl, settled)

-- the same outcome, with this interrupt state
abbrev with_interrupts_to : Interrupts → Outcome → Outcome
with_interrupts_to k o = record o { after = with_interrupts o.after k }

-- ---- an effect is the same whatever the interrupt state was before it

get_over : (r : Reg) (m : MachineState) (j : Interrupts) → get (with_interrupts m j) r ≡ get m r
get_over reg.B m j = refl
get_over reg.C m j = refl
get_over reg.D m j = refl
get_over reg.E m j = refl
get_over reg.H m j = refl
get_over reg.L m j = refl
get_over reg.M m j = refl
get_over reg.A m j = refl

put_over : (r : Reg) (m : MachineState) (j k : Interrupts) (byte : ℕ)
    → with_interrupts (with_reg (with_interrupts m j) r byte) k ≡ with_interrupts (with_reg m r byte) k
put_over reg.B m j k byte = refl
put_over reg.C m j k byte = refl
put_over reg.D m j k byte = refl
put_over reg.E m j k byte = refl
put_over reg.H m j k byte = refl
put_over reg.L m j k byte = refl
put_over reg.M m j k byte = refl
put_over reg.A m j k byte = refl

to_reg_over : (r : Reg) (m : MachineState) (j k : Interrupts) (x : AluResult)
    → with_interrupts (to_reg (with_interrupts m j) r x) k ≡ with_interrupts (to_reg m r x) k
to_reg_over reg.B m j k x = refl
to_reg_over reg.C m j k x = refl
to_reg_over reg.D m j k x = refl
to_reg_over reg.E m j k x = refl
to_reg_over reg.H m j k x = refl
to_reg_over reg.L m j k x = refl
to_reg_over reg.M m j k x = refl
to_reg_over reg.A m j k x = refl

get_pair_over : (p : Pair) (m : MachineState) (j : Interrupts)
    → get_pair (with_interrupts m j) p ≡ get_pair m p
get_pair_over pair.B m j = refl
get_pair_over pair.D m j = refl
get_pair_over pair.H m j = refl
get_pair_over pair.Sp m j = refl

put_pair_over : (p : Pair) (m : MachineState) (j k : Interrupts) (word : ℕ)
    → with_interrupts (put_pair (with_interrupts m j) p word) k ≡ with_interrupts (put_pair m p word) k
put_pair_over pair.B m j k word = refl
put_pair_over pair.D m j k word = refl
put_pair_over pair.H m j k word = refl
put_pair_over pair.Sp m j k word = refl

get_index_over : (p : IndexPair) (m : MachineState) (j : Interrupts)
    → get_index (with_interrupts m j) p ≡ get_index m p
get_index_over index.B m j = refl
get_index_over index.D m j = refl

get_stack_pair_over : (p : StackPair) (m : MachineState) (j : Interrupts)
    → get_stack_pair (with_interrupts m j) p ≡ get_stack_pair m p
get_stack_pair_over stack.B m j = refl
get_stack_pair_over stack.D m j = refl
get_stack_pair_over stack.H m j = refl
get_stack_pair_over stack.Psw m j = refl

put_stack_pair_over : (p : StackPair) (m : MachineState) (j k : Interrupts) (word : ℕ)
    → with_interrupts (put_stack_pair (with_interrupts m j) p word) k
    ≡ with_interrupts (put_stack_pair m p word) k
put_stack_pair_over stack.B m j k word = refl
put_stack_pair_over stack.D m j k word = refl
put_stack_pair_over stack.H m j k word = refl
put_stack_pair_over stack.Psw m j k word = refl

operated_over : (x : Operation) (m : MachineState) (j k : Interrupts) (byte : ℕ)
    → with_interrupts (after_operation x (with_interrupts m j) byte) k
    ≡ with_interrupts (after_operation x m byte) k
operated_over operation.Add m j k byte = refl
operated_over operation.Adc m j k byte = refl
operated_over operation.Sub m j k byte = refl
operated_over operation.Sbb m j k byte = refl
operated_over operation.Ana m j k byte = refl
operated_over operation.Xra m j k byte = refl
operated_over operation.Ora m j k byte = refl
operated_over operation.Cmp m j k byte = refl

jump_over : (holds : Bool) (m : MachineState) (j k : Interrupts) (address : ℕ)
    → with_interrupts_to k (if holds then done_at (with_pc (with_interrupts m j) address)
    else done_at (with_interrupts m j))
    ≡ with_interrupts_to k (if holds then done_at (with_pc m address) else done_at m)
jump_over true m j k address = refl
jump_over false m j k address = refl

call_over : (holds : Bool) (m : MachineState) (j k : Interrupts) (address : ℕ)
    → with_interrupts_to k (if holds then after_call (with_interrupts m j) address else done_at
    (with_interrupts m j))
    ≡ with_interrupts_to k (if holds then after_call m address else done_at m)
call_over true m j k address = refl
call_over false m j k address = refl

return_over : (holds : Bool) (m : MachineState) (j k : Interrupts)
    → with_interrupts_to k (if holds then after_return (with_interrupts m j) else done_at (with_interrupts
    m j))
    ≡ with_interrupts_to k (if holds then after_return m else done_at m)
return_over true m j k = refl
return_over false m j k = refl

effect_over : (i : Instr) (input : ℕ → ℕ) (m : MachineState) (j k : Interrupts)
    → with_interrupts_to k (effect i input (with_interrupts m j)) ≡ with_interrupts_to k (effect i input m)
effect_over (Lxi p word) input m j k = ap done_at (put_pair_over p m j k word)
effect_over (Stax p) input m j k = rw (get_index_over p m j) refl
effect_over (Ldax p) input m j k = rw (get_index_over p m j) refl
effect_over (Inx p) input m j k =
    rw (get_pair_over p m j) (ap done_at (put_pair_over p m j k (modulo_65536 (get_pair m p + 1))))
effect_over (Dcx p) input m j k =
    rw (get_pair_over p m j) (ap done_at (put_pair_over p m j k (modulo_65536 (get_pair m p + 65535))))
effect_over (Dad p) input m j k = rw (get_pair_over p m j) refl
effect_over (Inr r) input m j k =
    rw (get_over r m j) (ap done_at (to_reg_over r m j k (increment (get m r) m.regs.flags.cy)))
effect_over (Dcr r) input m j k =
    rw (get_over r m j) (ap done_at (to_reg_over r m j k (decrement (get m r) m.regs.flags.cy)))
effect_over (Mvi r byte) input m j k = ap done_at (put_over r m j k byte)
effect_over (Mov to from) input m j k =
    rw (get_over (reg_of from) m j) (ap done_at (put_over (reg_of to) m j k (get m (reg_of from))))
effect_over (MovFromM to) input m j k = ap done_at (put_over (reg_of to) m j k (get m reg.M))
effect_over (MovToM from) input m j k = rw (get_over (reg_of from) m j) refl
effect_over (Alu x r) input m j k = rw (get_over r m j) (ap done_at (operated_over x m j k (get m r)))
effect_over (AluImmediate x byte) input m j k = ap done_at (operated_over x m j k byte)
effect_over (JumpIf c address) input m j k = jump_over (holds c m.regs.flags) m j k address
effect_over (CallIf c address) input m j k = call_over (holds c m.regs.flags) m j k address
effect_over (RetIf c) input m j k = return_over (holds c m.regs.flags) m j k
effect_over (Push p) input m j k = rw (get_stack_pair_over p m j) refl
effect_over (Pop p) input m j k = ap done_at (put_stack_pair_over p (after_pop m) j k (word_at m m.regs.sp))
effect_over _ input m j k = refl

executed_settled : (i : Instr) (size : ℕ) (input : ℕ → ℕ) (m : MachineState)
    → instruction_outcome i size input (after_pending_ei m) ≡ instruction_outcome i size input m
executed_settled i size input m =
    let began = m.regs.interrupts in
    let past = with_pc m (modulo_65536 (m.regs.pc + size)) in
    effect_over i input past (interrupts_after Nop began) (interrupts_after i (interrupts_after Nop began))
    ∙ ap (λ k. with_interrupts_to k (effect i input past)) (after_settled i began)

row_settled : (r : Row) (input : ℕ → ℕ) (m : MachineState) → is_undefined r ≡ false
    → by_row r input (after_pending_ei m) ≡ by_row r input m
row_settled Undefined input m defined = cc
row_settled (Alone i) input m defined = executed_settled i 1 input m
row_settled (Byte f) input m defined = executed_settled (f (byte_at m (m.regs.pc + 1))) 2 input m
row_settled (Word f) input m defined = executed_settled (f (word_at m (m.regs.pc + 1))) 3 input m

-- ---- so a step from the settled machine, with arming again where it answered Undefined, is the step

-- what such a step did, and what it left and answered
pub record IsSettledStep (r : Row) (input : ℕ → ℕ) (m after : MachineState) (answer : Stepped) : Type 0 where
  pub after_is : armed_again answer after ≡ (by_row r input m).after
  pub operation_is : (by_row r input (after_pending_ei m)).operation ≡ (by_row r input m).operation
  pub answer_is : answer ≡ (by_row r input m).answer

not_again : (answer : Stepped) (m : MachineState) → IsDefined answer → armed_again answer m ≡ m
not_again (stepped.Undefined opcode) m defined = absurd defined
not_again _ m defined = refl

arming_machine : (m : MachineState) → m.regs.interrupts ≡ Arming → with_interrupts m Arming ≡ m
arming_machine m arming = ap (with_interrupts m) (sym arming)

defined_step : (r : Row) (input : ℕ → ℕ) (m after : MachineState) (answer : Stepped)
    → is_undefined r ≡ false → Defines (by_row r input m)
    → IsOutcome (by_row r input (after_pending_ei m)) after answer → IsSettledStep r input m after answer
defined_step r input m after answer defined defines o =
    let same = row_settled r input m defined in
    let is : answer ≡ (by_row r input m).answer = rw same at o.answer_is in
    record {
      after_is = not_again answer after (subst IsDefined (sym is) defines) ∙ rw same at o.after_is;
      operation_is = ap (λ (o : Outcome). o.operation) same;
      answer_is = is;
    }

pub settled_step : (r : Row) (input : ℕ → ℕ) (m after : MachineState) (answer : Stepped)
    → is_arming m.regs.interrupts ≡ true
    → IsOutcome (by_row r input (after_pending_ei m)) after answer → IsSettledStep r input m after answer
settled_step Undefined input m after answer arming o =
    rw (o.answer_is, o.after_is)
    (record {
      after_is = arming_machine m (is_arming_by m.regs.interrupts arming);
      operation_is = refl;
      answer_is = refl;
    })
settled_step (Alone i) input m after answer arming o =
    defined_step (Alone i) input m after answer refl
    (effect-defined i input (with_pc m (modulo_65536 (m.regs.pc + 1)))) o
settled_step (Byte f) input m after answer arming o =
    defined_step (Byte f) input m after answer refl
    (effect-defined (f (byte_at m (m.regs.pc + 1))) input (with_pc m (modulo_65536 (m.regs.pc + 2)))) o
settled_step (Word f) input m after answer arming o =
    defined_step (Word f) input m after answer refl
    (effect-defined (f (word_at m (m.regs.pc + 1))) input (with_pc m (modulo_65536 (m.regs.pc + 3)))) o
