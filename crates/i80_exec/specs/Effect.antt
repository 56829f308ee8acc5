-- What each instruction does (8080 User's Manual, chapter 4).
use Rattle.std.specs.Prelude.{
  ℕ,
  ◌+◌,
  ◌-◌,
  ◌*◌,
  ◌/◌,
  ◌%◌,
  Option,
  Some,
  None,
  Bool,
  true,
  false,
  not,
  nat_lt,
  if◌then◌else◌,
}
use Rattle.i80_base.specs.declared.arithmetic.AluResult.{AluResult}
use Rattle.i80_base.specs.declared.instruction.Instr.{Instr}
use Rattle.i80_base.specs.declared.instruction.Instr.TheVariants.{
  Nop,
  Lxi,
  Stax,
  Ldax,
  Shld,
  Lhld,
  Sta,
  Lda,
  Inx,
  Dcx,
  Dad,
  Inr,
  Dcr,
  Mvi,
  Rotate,
  Daa,
  Cma,
  Stc,
  Cmc,
  Mov,
  MovFromM,
  MovToM,
  Hlt,
  Alu,
  AluImmediate,
  Jmp,
  JumpIf,
  Call,
  CallIf,
  Ret,
  RetIf,
  Rst,
  Push,
  Pop,
  Xthl,
  Xchg,
  Pchl,
  Sphl,
  Out,
  In,
  Di,
  Ei,
}
use Rattle.i80_base.specs.declared.instruction.Reg.{Reg}
use Rattle.i80_base.specs.declared.instruction.Reg.TheVariants as reg
use Rattle.i80_base.specs.declared.instruction.Pair.TheVariants as pair
use Rattle.i80_base.specs.declared.instruction.Cond.{Cond}
use Rattle.i80_base.specs.declared.instruction.Cond.TheVariants as cond
use Rattle.i80_base.specs.declared.instruction.Operation.{Operation}
use Rattle.i80_base.specs.declared.instruction.Operation.TheVariants.{Add, Adc, Sub, Sbb, Ana, Xra, Ora, Cmp}
use Rattle.i80_base.specs.FlagValues.{FlagValues}
use Rattle.i80_base.specs.Arithmetic.{
  sum,
  difference,
  conjunction,
  exclusive,
  inclusive,
  rotation_of,
  increment,
  decrement,
  decimal_adjustment,
}
use Rattle.i80_base.specs.Codes.{reg_of, vector_code}
use Rattle.i80_exec.specs.declared.registers.Stepped.{Stepped}
use Rattle.i80_exec.specs.declared.registers.Stepped.TheVariants.{Done, Called, Returned, Halted}
use Rattle.i80_base.specs.declared.ports.PortOperation.{PortOperation}
use Rattle.i80_base.specs.declared.ports.PortOperation.TheVariants as port
use Rattle.i80_exec.specs.State.{
  MachineState,
  modulo_65536,
  byte_at,
  with_byte,
  word_at,
  stored_word,
  with_regs,
  with_pc,
  with_sp,
  with_a,
  with_flags,
  get,
  with_reg,
  get_pair,
  put_pair,
  get_index,
  get_stack_pair,
  put_stack_pair,
}

-- the machine afterwards, at most one port operation, and the answer
pub record Outcome : Type 0 where
  pub after : MachineState
  pub operation : Option PortOperation
  pub answer : Stepped

abbrev pub done_at : MachineState → Outcome
done_at m = record { after = m; operation = None; answer = Done }

-- the result goes to A, and its flags to the flags
abbrev pub to_a : MachineState → AluResult → MachineState
to_a m x = with_regs m (record m.regs { a = x.value; flags = x.flags })

-- the result goes to a register or M, and its flags to the flags
abbrev pub to_reg : MachineState → Reg → AluResult → MachineState
to_reg m r x = with_flags (with_reg m r x.value) x.flags

-- A and a byte
abbrev pub after_operation : Operation → MachineState → ℕ → MachineState
after_operation Add m x = to_a m (sum m.regs.a x false)
after_operation Adc m x = to_a m (sum m.regs.a x m.regs.flags.cy)
after_operation Sub m x = to_a m (difference m.regs.a x false)
after_operation Sbb m x = to_a m (difference m.regs.a x m.regs.flags.cy)
after_operation Ana m x = to_a m (conjunction m.regs.a x)
after_operation Xra m x = to_a m (exclusive m.regs.a x)
after_operation Ora m x = to_a m (inclusive m.regs.a x)
after_operation Cmp m x = let compared = difference m.regs.a x false in with_flags m compared.flags

abbrev pub holds : Cond → FlagValues → Bool
holds cond.NotZero f = not f.z
holds cond.Zero f = f.z
holds cond.NoCarry f = not f.cy
holds cond.Carry f = f.cy
holds cond.ParityOdd f = not f.p
holds cond.ParityEven f = f.p
holds cond.Plus f = not f.s
holds cond.Minus f = f.s

-- only CY changes
abbrev pub with_carry : MachineState → Bool → MachineState
with_carry m cy = let f : FlagValues = record m.regs.flags { cy = cy } in with_flags m f

-- HL plus a pair; CY is the carry out of bit 15
abbrev pub added_to_hl : MachineState → ℕ → MachineState
added_to_hl m word =
    let total = get_pair m pair.H + word in
    with_carry (put_pair m pair.H (modulo_65536 total)) (nat_lt 65535 total)

-- the high byte at SP - 1 and the low byte at SP - 2, which SP is afterwards
abbrev pub after_push : MachineState → ℕ → MachineState
after_push m word =
    let sp = m.regs.sp in
    with_sp (with_byte (with_byte m (sp + 65535) (word / 256)) (sp + 65534) (word % 256))
    (modulo_65536 (sp + 65534))

-- SP plus 2
abbrev pub after_pop : MachineState → MachineState
after_pop m = with_sp m (modulo_65536 (m.regs.sp + 2))

-- PC is pushed, which is the address of the next instruction
abbrev pub after_call : MachineState → ℕ → Outcome
after_call m target = record {
  after = with_pc (after_push m m.regs.pc) target;
  operation = None;
  answer = Called (modulo_65536 (m.regs.sp + 65534)) target;
}

abbrev pub after_return : MachineState → Outcome
after_return m = record {
  after = with_pc (after_pop m) (word_at m m.regs.sp);
  operation = None;
  answer = Returned m.regs.sp;
}

-- HL and DE change places
abbrev pub after_exchange : MachineState → MachineState
after_exchange m = with_regs m (record m.regs { d = m.regs.h; e = m.regs.l; h = m.regs.d; l = m.regs.e })

-- The effect of an instruction on a machine whose PC is past it, where an IN from a port is answered so.
-- What EI and DI do to the interrupt state is part of the step.
abbrev pub effect : Instr → (ℕ → ℕ) → MachineState → Outcome
effect Nop input m = done_at m
effect (Lxi p word) input m = done_at (put_pair m p word)
effect (Stax p) input m = done_at (with_byte m (get_index m p) m.regs.a)
effect (Ldax p) input m = done_at (with_a m (byte_at m (get_index m p)))
effect (Shld address) input m = done_at (stored_word m address (get_pair m pair.H))
effect (Lhld address) input m = done_at (put_pair m pair.H (word_at m address))
effect (Sta address) input m = done_at (with_byte m address m.regs.a)
effect (Lda address) input m = done_at (with_a m (byte_at m address))
effect (Inx p) input m = done_at (put_pair m p (modulo_65536 (get_pair m p + 1)))
effect (Dcx p) input m = done_at (put_pair m p (modulo_65536 (get_pair m p + 65535)))
effect (Dad p) input m = done_at (added_to_hl m (get_pair m p))
effect (Inr r) input m = done_at (to_reg m r (increment (get m r) m.regs.flags.cy))
effect (Dcr r) input m = done_at (to_reg m r (decrement (get m r) m.regs.flags.cy))
effect (Mvi r byte) input m = done_at (with_reg m r byte)
effect (Rotate x) input m = done_at (to_a m (rotation_of x m.regs.a m.regs.flags))
effect Daa input m = done_at (to_a m (decimal_adjustment m.regs.a m.regs.flags))
effect Cma input m = done_at (with_a m (255 - m.regs.a))
effect Stc input m = done_at (with_carry m true)
effect Cmc input m = done_at (with_carry m (not m.regs.flags.cy))
effect (Mov to from) input m = done_at (with_reg m (reg_of to) (get m (reg_of from)))
effect (MovFromM to) input m = done_at (with_reg m (reg_of to) (get m reg.M))
effect (MovToM from) input m = done_at (with_reg m reg.M (get m (reg_of from)))
effect Hlt input m = record { after = m; operation = None; answer = Halted }
effect (Alu x r) input m = done_at (after_operation x m (get m r))
effect (AluImmediate x byte) input m = done_at (after_operation x m byte)
effect (Jmp address) input m = done_at (with_pc m address)
effect (JumpIf c address) input m =
    if (holds c m.regs.flags) then (done_at (with_pc m address)) else (done_at m)
effect (Call address) input m = after_call m address
effect (CallIf c address) input m = if (holds c m.regs.flags) then (after_call m address) else (done_at m)
effect Ret input m = after_return m
effect (RetIf c) input m = if (holds c m.regs.flags) then (after_return m) else (done_at m)
effect (Rst n) input m = after_call m (8 * vector_code n)
effect (Push p) input m = done_at (after_push m (get_stack_pair m p))
effect (Pop p) input m = done_at (put_stack_pair (after_pop m) p (word_at m m.regs.sp))
effect Xthl input m =
    done_at (put_pair (stored_word m m.regs.sp (get_pair m pair.H)) pair.H (word_at m m.regs.sp))
effect Xchg input m = done_at (after_exchange m)
effect Pchl input m = done_at (with_pc m (get_pair m pair.H))
effect Sphl input m = done_at (with_sp m (get_pair m pair.H))
effect (Out p) input m = record { after = m; operation = Some (port.Out p m.regs.a); answer = Done }
effect (In p) input m =
    record { after = with_a m (input p); operation = Some (port.In p (input p)); answer = Done }
effect Di input m = done_at m
effect Ei input m = done_at m
