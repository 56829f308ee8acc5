-- The twelve undefined opcodes, and the table of a board.
use Rattle.std.proofs.Common.{◌≡◌, ℕ, ◌<◌, ◌==◌, true, false, cond, refl, sym, ap, ◌∙◌, arith, subst, ◌⊎◌}
use Rattle.std.proofs.Common.{inl, inr, List, append-nil, add-zero}
use Rattle.std.proofs.lemmas.Bool.Decides.{nat_tests}
use Rattle.i80_base.specs.declared.board.Board.{Board}
use Rattle.i80_base.specs.declared.instruction.Instr.TheVariants.{Nop, Jmp, Call, Ret}
use Rattle.i80_base.specs.Rows.{Row, Undefined, Alone, Byte, Word, row, is_undefined}
use Rattle.i80_base.specs.AliasRows.{acts, alias_row, or_alias, row_on}
use Rattle.i80_base.proofs.Tables.{agree, table}
use Rattle.i80_exec.specs.declared.registers.Kind.{Kind}
use Rattle.i80_exec.specs.declared.registers.Kind.TheVariants as kind
use Rattle.i80_exec.specs.State.{MachineState, byte_at}
use Rattle.i80_exec.specs.declared.registers.Stepped.{Stepped}
use Rattle.i80_exec.specs.Step.{by_row, by_opcode, answer_of, PortDevices}
use Rattle.i80_exec.specs.Step.{IsOutcome, IsWithoutPort, Performs}
use Rattle.i80_exec.proofs.PortLemmas.{outcome_without_port}
use Rattle.i80_exec.proofs.UndefinedLemmas.{Nothing, row-nothing, row-kind}

-- ---- what each of them acts as

abbrev named : ℕ → Row
named opcode =
    cond (opcode == 203) (Word Jmp) (cond (opcode == 217) (Alone Ret)
    (cond (opcode == 221) (Word Call) (cond (opcode == 237) (Word Call) (cond (opcode == 253) (Word Call)
    (Alone Nop)))))

abbrev where_undefined : (ℕ → Row) → ℕ → Row
where_undefined rows opcode = cond (is_undefined (row opcode)) (rows opcode) Undefined

names : table (where_undefined alias_row) 256 ≡ table (where_undefined named) 256
unfolding row alias_row
names = refl

alias_named : (opcode : ℕ) → opcode < 256 → is_undefined (row opcode) ≡ true
    → alias_row opcode ≡ named opcode
alias_named opcode low undefined =
    ap (λ b. cond b (alias_row opcode) Undefined) (sym undefined)
    ∙ agree (where_undefined alias_row) (where_undefined named) 256 names opcode low
    ∙ ap (λ b. cond b (named opcode) Undefined) undefined

other : (opcode code : ℕ) → (opcode ≡ code → ⊥) → (opcode == code) ≡ false
other opcode code differs = grind (arith, nat_tests)

pub nop : (opcode : ℕ) → opcode < 256 → is_undefined (row opcode) ≡ true
    → (opcode ≡ 203 → ⊥) → (opcode ≡ 217 → ⊥) → (opcode ≡ 221 → ⊥) → (opcode ≡ 237 → ⊥) → (opcode ≡ 253 → ⊥)
    → alias_row opcode ≡ Alone Nop
nop opcode low undefined jmp ret call_dd call_ed call_fd =
    alias_named opcode low undefined
    ∙ rw (
      other opcode 203 jmp,
      other opcode 217 ret,
      other opcode 221 call_dd,
      other opcode 237 call_ed,
      other opcode 253 call_fd,
    ) refl

-- ---- the table of a board

pub defined_on : (r : Row) (board : Board) (alias : Row) → is_undefined r ≡ false → or_alias r board alias ≡ r
defined_on Undefined board alias defined = cc
defined_on (Alone i) board alias defined = refl
defined_on (Byte f) board alias defined = refl
defined_on (Word f) board alias defined = refl

pub undefined_is : (r : Row) → is_undefined r ≡ true → r ≡ Undefined
undefined_is Undefined undefined = refl
undefined_is (Alone i) undefined = cc
undefined_is (Byte f) undefined = cc
undefined_is (Word f) undefined = cc

-- an undefined row is its alias where the twelve act
pub acts_on : (r : Row) (board : Board) (alias : Row) → is_undefined r ≡ true → acts board ≡ true
    → or_alias r board alias ≡ alias
acts_on r board alias undefined act = rw (undefined_is r undefined, act) refl

-- and undefined where they don't
pub strict_on : (r : Row) (board : Board) (alias : Row) → is_undefined r ≡ true → acts board ≡ false
    → or_alias r board alias ≡ r
strict_on r board alias undefined strict = rw (undefined_is r undefined, strict) refl

-- ---- what was done by the strict row is what the board's table gives

-- what a strict step that answered Undefined left
pub undefined_left : (opcode : ℕ) (input : ℕ → ℕ) (m after : MachineState) (k : Kind)
    → k ≡ kind.Undefined → answer_of k after ≡ (by_row (row opcode) input m).answer
    → Nothing (row opcode) m (by_row (row opcode) input m) (byte_at after after.regs.pc)
undefined_left opcode input m after k undefined answer =
    let A : Kind → Type 0 = λ k. answer_of k after ≡ (by_row (row opcode) input m).answer in
    row-nothing (row opcode) input m (byte_at after after.regs.pc) (subst A undefined answer)

-- and the machine is as it was
pub undefined_keeps : (opcode : ℕ) (input : ℕ → ℕ) (m after : MachineState) (k : Kind)
    → k ≡ kind.Undefined → IsOutcome (by_row (row opcode) input m) after (answer_of k after) → after ≡ m
undefined_keeps opcode input m after k undefined o =
    let n = undefined_left opcode input m after k undefined o.answer_is in
    o.after_is ∙ n.after_is

-- a kind is Undefined or isn't
is_undefined_or_not : (k : Kind) → (k ≡ kind.Undefined) ⊎ (k ≡ kind.Undefined → ⊥)
is_undefined_or_not kind.Quiet = inr (λ same. cc)
is_undefined_or_not kind.Moved = inr (λ same. cc)
is_undefined_or_not kind.Armed = inr (λ same. cc)
is_undefined_or_not kind.Called = inr (λ same. cc)
is_undefined_or_not kind.Returned = inr (λ same. cc)
is_undefined_or_not kind.Halted = inr (λ same. cc)
is_undefined_or_not kind.Undefined = inl refl

strict_by : (opcode : ℕ) (input : ℕ → ℕ) (m after : MachineState) (k : Kind)
    → answer_of k after ≡ (by_row (row opcode) input m).answer
    → (k ≡ kind.Undefined → acts m.board ≡ false)
    → (k ≡ kind.Undefined) ⊎ (k ≡ kind.Undefined → ⊥)
    → row_on m.board opcode ≡ row opcode
strict_by opcode input m after k answer strict (inl undefined) =
    let n = undefined_left opcode input m after k undefined answer in
    strict_on (row opcode) m.board (alias_row opcode) n.row_is (strict undefined)
strict_by opcode input m after k answer strict (inr defined) =
    defined_on (row opcode) m.board (alias_row opcode) (row-kind (row opcode) input m after k answer defined)

-- where the step answered something else, or the twelve don't act, the row is the strict one
pub row_is_strict : (opcode : ℕ) (input : ℕ → ℕ) (m after : MachineState) (k : Kind)
    → answer_of k after ≡ (by_row (row opcode) input m).answer
    → (k ≡ kind.Undefined → acts m.board ≡ false)
    → row_on m.board opcode ≡ row opcode
row_is_strict opcode input m after k answer strict =
    strict_by opcode input m after k answer strict (is_undefined_or_not k)

-- where it answered Undefined and they act, what the alias does then is the outcome
pub aliased : {S : Type 0} (opcode : ℕ) (m after new : MachineState) (k : Kind) (answer : Stepped)
    (devices devices' : PortDevices S) → k ≡ kind.Undefined → acts m.board ≡ true
    → IsOutcome (by_row (row opcode) devices.input m) after (answer_of k after)
    × Performs (by_row (row opcode) devices.input m) devices devices'
    → IsWithoutPort (by_row (alias_row opcode) (λ _. 0) after) new answer
    → IsOutcome (by_opcode opcode devices.input m) new answer
    × Performs (by_opcode opcode devices.input m) devices devices'
aliased opcode m after new k answer devices devices' undefined act strict alias =
    let n = undefined_left opcode devices.input m after k undefined strict.0.answer_is in
    let same : after ≡ m = strict.0.after_is ∙ n.after_is in
    let row = acts_on (row opcode) m.board (alias_row opcode) n.row_is act in
    let operations = rw (n.operation_is) at strict.1.appended in
    let state = rw (n.operation_is) at strict.1.state_is in
    let spare = rw (n.operation_is) at strict.1.spare_is in
    rw row (outcome_without_port (alias_row opcode) m new answer devices devices' (rw same at alias)
    (operations ∙ append-nil devices.operations) state (sym (add-zero devices'.spare) ∙ spare))
