-- One step: the instruction at PC, or an accepted interrupt request.
use Rattle.std.specs.Prelude.{
  ◌≡◌,
  ℕ,
  ◌+◌,
  ◌*◌,
  List,
  [],
  ◌∷◌,
  ◌≤◌,
  ◌<◌,
  ◌++◌,
  length,
  Bool,
  true,
  false,
  Option,
  Some,
  None,
}
use Rattle.i80_base.specs.declared.instruction.Instr.{Instr}
use Rattle.i80_base.specs.declared.instruction.Instr.TheVariants.{Nop, Di, Ei, Lxi, Inx, Dcx, Push, Pop, Sphl}
use Rattle.i80_base.specs.declared.instruction.Pair.{Pair}
use Rattle.i80_base.specs.declared.instruction.Pair.TheVariants as pair
use Rattle.i80_base.specs.Rows.{Row, Undefined, Alone, Byte, Word, row}
use Rattle.i80_base.specs.AliasRows.{row_on}
use Rattle.i80_exec.specs.declared.registers.Stepped.{Stepped}
use Rattle.i80_exec.specs.declared.registers.Stepped.TheVariants as stepped
use Rattle.i80_exec.specs.declared.registers.Kind.{Kind}
use Rattle.i80_exec.specs.declared.registers.Kind.TheVariants as kind
use Rattle.i80_exec.specs.declared.registers.Interrupts.{Interrupts}
use Rattle.i80_exec.specs.declared.registers.Interrupts.TheVariants.{Off, Arming, On}
use Rattle.i80_base.specs.declared.ports.PortOperation.{PortOperation}
use Rattle.i80_exec.specs.State.{MachineState, modulo_65536, byte_at, word_at, with_pc, with_interrupts}
use Rattle.i80_exec.specs.Effect.{Outcome, effect, after_call}

-- whether a step was HLT
abbrev pub is_halt : Stepped → Bool
is_halt stepped.Halted = true
is_halt _ = false

-- What a step of this kind answered, which left the machine so: a call leaves SP at its slot and PC at its
-- target, a return SP two above its slot, and an undefined opcode changes nothing.
abbrev pub answer_of : Kind → MachineState → Stepped
answer_of kind.Quiet m = stepped.Done
answer_of kind.Moved m = stepped.Done
answer_of kind.Armed m = stepped.Done
answer_of kind.Called m = stepped.Called m.regs.sp m.regs.pc
answer_of kind.Returned m = stepped.Returned (modulo_65536 (m.regs.sp + 65534))
answer_of kind.Halted m = stepped.Halted
answer_of kind.Undefined m = stepped.Undefined (byte_at m m.regs.pc)

-- whether EI was the last instruction
abbrev pub is_arming : Interrupts → Bool
is_arming Arming = true
is_arming Off = false
is_arming On = false

-- what else a kind says of a step: a quiet one leaves SP as it was, and an armed one, EI, alone leaves arming
abbrev pub Settles : Kind → MachineState → MachineState → Type 0
Settles kind.Quiet before after =
    (after.regs.sp ≡ before.regs.sp) × (is_arming after.regs.interrupts ≡ false)
Settles kind.Armed before after = is_arming after.regs.interrupts ≡ true
Settles _ before after = is_arming after.regs.interrupts ≡ false

abbrev pub is_sp : Pair → Bool
is_sp pair.Sp = true
is_sp pair.B = false
is_sp pair.D = false
is_sp pair.H = false

-- whether an instruction that is neither a call nor a return loads or moves SP: LXI SP, INX SP, DCX SP, SPHL,
-- PUSH and POP do (8080 User's Manual, chapter 4)
abbrev pub moves_sp : Instr → Bool
moves_sp (Lxi p word) = is_sp p
moves_sp (Inx p) = is_sp p
moves_sp (Dcx p) = is_sp p
moves_sp (Push p) = true
moves_sp (Pop p) = true
moves_sp Sphl = true
moves_sp i = false

-- whether a row's instruction does, whatever its operand is
abbrev pub row_moves_sp : Row → Bool
row_moves_sp Undefined = false
row_moves_sp (Alone i) = moves_sp i
row_moves_sp (Byte f) = moves_sp (f 0)
row_moves_sp (Word f) = moves_sp (f 0)

abbrev pub is_moved : Kind → Bool
is_moved kind.Moved = true
is_moved _ = false

-- the opcode at PC of this machine is one that moves SP: none of the twelve undefined ones does on any board
abbrev pub is_at_move : MachineState → Bool
is_at_move m = row_moves_sp (row (byte_at m m.regs.pc))

-- the interrupt state after an instruction that began in one: EI leaves arming, DI leaves off,
-- and any other instruction that began in arming ends in on
abbrev pub interrupts_after : Instr → Interrupts → Interrupts
interrupts_after Ei began = Arming
interrupts_after Di began = Off
interrupts_after i Off = Off
interrupts_after i Arming = On
interrupts_after i On = On

abbrev pub with_interrupts_after : Instr → Interrupts → Outcome → Outcome
with_interrupts_after i began o = record o { after = with_interrupts o.after (interrupts_after i began) }

-- a machine whose interrupts are on where EI was its last instruction
abbrev pub after_pending_ei : MachineState → MachineState
after_pending_ei m = with_interrupts m (interrupts_after Nop m.regs.interrupts)

-- an undefined opcode leaves arming as it was
abbrev pub armed_again : Stepped → MachineState → MachineState
armed_again (stepped.Undefined opcode) m = with_interrupts m Arming
armed_again answer m = m

-- an instruction of this length: PC is set past it, its effect comes, then the interrupt state
abbrev pub instruction_outcome : Instr → ℕ → (ℕ → ℕ) → MachineState → Outcome
instruction_outcome i size input m =
    with_interrupts_after i m.regs.interrupts (effect i input (with_pc m (modulo_65536 (m.regs.pc + size))))

-- the row of the opcode at PC, with its operand from the addresses after it; an undefined one changes nothing
abbrev pub by_row : Row → (ℕ → ℕ) → MachineState → Outcome
by_row Undefined input m =
    record { after = m; operation = None; answer = stepped.Undefined (byte_at m m.regs.pc) }
by_row (Alone i) input m = instruction_outcome i 1 input m
by_row (Byte f) input m = instruction_outcome (f (byte_at m (m.regs.pc + 1))) 2 input m
by_row (Word f) input m = instruction_outcome (f (word_at m (m.regs.pc + 1))) 3 input m

-- what an opcode does by the table of the machine's board
abbrev pub by_opcode : ℕ → (ℕ → ℕ) → MachineState → Outcome
by_opcode opcode input m = by_row (row_on m.board opcode) input m

-- the instruction at PC, where an IN from a port is answered so
abbrev pub instruction : (ℕ → ℕ) → MachineState → Outcome
instruction input m = by_opcode (byte_at m m.regs.pc) input m

-- An interrupt request for RST n is accepted only where interrupts are on: PC is pushed as it stands,
-- PC is 8n, and interrupts are off.
abbrev pub accepted_in : Interrupts → ℕ → MachineState → Option Outcome
accepted_in On n m = Some (after_call (with_interrupts m Off) (8 * n))
accepted_in Arming n m = None
accepted_in Off n m = None

abbrev pub acceptance : ℕ → MachineState → Option Outcome
acceptance n m = accepted_in m.regs.interrupts n m

-- what is left and what was answered are the outcome's
pub record IsOutcome (o : Outcome) (after : MachineState) (answer : Stepped) : Type 0 where
  pub after_is : after ≡ o.after
  pub answer_is : answer ≡ o.answer

-- what is left and what was answered are the outcome's, which asks no port
pub record IsWithoutPort (o : Outcome) (after : MachineState) (answer : Stepped) : Type 0 where
  pub after_is : after ≡ o.after
  pub operation_is : o.operation ≡ None
  pub answer_is : answer ≡ o.answer

-- what is left and the step's kind are those of this row's instruction, which asks no port
abbrev pub Executes : Row → MachineState → MachineState → Kind → Type 0
Executes r old new kind = IsWithoutPort (by_row r (λ _. 0) old) new (answer_of kind new)

abbrev pub operation_list : Option PortOperation → List PortOperation
operation_list None = []
operation_list (Some p) = p ∷ []

abbrev pub state_after : {S : Type 0} → (S → PortOperation → S) → S → Option PortOperation → S
state_after next s None = s
state_after next s (Some p) = next s p

-- Devices at the ports, as a contract sees them: the byte that an IN from each port returns, the state after
-- an operation, the operations since they were last taken, the state, and how many more there is room for.
pub record PortDevices (S : Type 0) : Type 0 where
  pub input : ℕ → ℕ
  pub next : S → PortOperation → S
  pub operations : List PortOperation
  pub state : S
  pub spare : ℕ

-- the devices that the members of `Ports` show
abbrev pub devices_by : {D S : Type 0} → (S → ℕ → ℕ) → (S → PortOperation → S) → (D → List PortOperation)
    → (D → S) → (D → ℕ) → D → PortDevices S
devices_by answer next operations state spare d = record {
  input = answer (state d);
  next = next;
  operations = operations d;
  state = state d;
  spare = spare d;
}

-- the devices did the outcome's operation, if it has one, and nothing else
pub record Performs {S : Type 0} (o : Outcome) (before after : PortDevices S) : Type 0 where
  pub appended : after.operations ≡ before.operations ++ operation_list o.operation
  pub state_is : after.state ≡ state_after before.next before.state o.operation
  pub spare_is : after.spare + length (operation_list o.operation) ≡ before.spare

-- A step of this kind, with this outcome, from the one machine to the other, and of the devices. It is
-- `Moved` exactly where the instruction moves SP.
pub record IsStepOfKind {S : Type 0} (kind : Kind) (o : Outcome) (machine : MachineState × MachineState)
    (before after : PortDevices S) : Type 0 where
  pub outcome : IsOutcome o machine.1 (answer_of kind machine.1) × Performs o before after
  pub settles : Settles kind machine.0 machine.1
  pub moved : is_moved kind ≡ is_at_move machine.0

-- EI wasn't the machine's last instruction, and there is room for a port operation
pub record CanStepSettled (m : MachineState) (room : ℕ) : Type 0 where
  pub settled : is_arming m.regs.interrupts ≡ false
  pub spare : 1 ≤ room

-- this is the opcode at PC of such a machine, and there is room as well
pub record IsAtOpcode (code : ℕ) (m : MachineState) (room : ℕ) : Type 0 where
  pub opcode : code ≡ byte_at m m.regs.pc
  pub settled : is_arming m.regs.interrupts ≡ false
  pub spare : 1 ≤ room

-- this is the opcode at PC of such a machine, and one of a group
pub record IsInGroup (first past code : ℕ) (m : MachineState) : Type 0 where
  pub opcode : code ≡ byte_at m m.regs.pc
  pub settled : is_arming m.regs.interrupts ≡ false
  pub low : first ≤ code
  pub high : code < past

-- a step of this kind did this, and its kind says what the row does to SP and to the interrupt state
pub record IsStepByRow (kind : Kind) (r : Row) (before after : MachineState) (Does : Type 0) : Type 0 where
  pub outcome : Does
  pub settles : Settles kind before after
  pub moved : is_moved kind ≡ row_moves_sp r
