-- Changes of places.
use Rattle.std.proofs.Common.{◌≡◌, ◌≢◌, ◌<◌, ℕ, ◌+◌, ◌*◌, ◌/◌, ◌%◌, Bool, true, false, Ok, Err}
use Rattle.std.proofs.Common.{refl, ap, ◌∙◌, arith, length, nat_lt, zero, suc}
use Rattle.std.specs.Prelude.{◌==◌, if◌then◌else◌}
use Rattle.std.specs.Int.{from_bool}
use Rattle.std.proofs.lemmas.List.{length-set, get_or-set_same, get_or-set_other}
use Rattle.std.proofs.lemmas.Bool.Decides.{nat_tests}
use Rattle.i80_base.specs.FlagValues.{flag_byte, flags_of}
use Rattle.i80_base.specs.declared.instruction.Pair.TheVariants as pair
use Rattle.i80_exec.specs.declared.registers.Registers.{Registers}
use Rattle.i80_exec.specs.State.{MachineState, byte_at, with_byte, word_at, stored_word, get_pair}
use Rattle.asm_syntax.specs.declared.keyword.RegisterWord.{RegisterWord}
use Rattle.asm_syntax.specs.declared.keyword.RegisterWord.TheVariants as word
use Rattle.lab_views.specs.Law.{IsWhole}
use Rattle.lab_core.specs.Board.{Board}
use Rattle.dap_expr.specs.declared.part.Part.{Part}
use Rattle.dap_expr.specs.declared.part.Part.TheVariants as part
use Rattle.dap_history.specs.declared.input.Input.{Input}
use Rattle.dap_history.specs.Runs.{after_input}
use Rattle.dap_values.specs.declared.change.ChangeFault.TheVariants as fault
use Rattle.dap_values.specs.declared.target.Target.{Target}
use Rattle.dap_values.specs.declared.target.Target.TheVariants as target
use Rattle.dap_values.specs.Targets.{size_of, largest, value_at}
use Rattle.dap_values.specs.Changes.{takes, has_room, if_room, with_value, value_taken, change_of, input_of}

-- ---- what the input is

record Given (regs : Registers) (t : Target) (value : ℕ) (i : Input) : Type 0 where
  takes_it : takes (size_of t) value ≡ true
  input_is : i ≡ change_of regs t value

room_given : (regs : Registers) (t : Target) (value : ℕ) (i : Input) → if_room regs t value ≡ Ok i
    → i ≡ change_of regs t value
room_given regs t value i is = by (has_room t) is
  where
    by : (room : Bool) → (if room then Ok (change_of regs t value) else Err fault.NoRoom) ≡ Ok i
        → i ≡ change_of regs t value
    by true e = cc
    by false e = absurd cc

given : (regs : Registers) (t : Target) (value : ℕ) (i : Input) → input_of regs t value ≡ Ok i
    → Given regs t value i
given regs t value i is = by (takes (size_of t) value) refl is
  where
    by : (fits : Bool) → takes (size_of t) value ≡ fits
        → (if fits then if_room regs t value else Err (fault.TooLarge (largest (size_of t)))) ≡ Ok i
        → Given regs t value i
    by true e h = record { takes_it = e; input_is = room_given regs t value i h }
    by false e h = absurd cc

-- ---- what it changes

register_changed : (b : Board) (name : RegisterWord) (value : ℕ)
    → (after_input (change_of b.machine.regs (target.Part (part.Register name)) value) b).machine
    ≡ with_value b.machine (target.Part (part.Register name)) value
register_changed b word.A value = refl
register_changed b word.B value = refl
register_changed b word.C value = refl
register_changed b word.D value = refl
register_changed b word.E value = refl
register_changed b word.H value = refl
register_changed b word.L value = refl
register_changed b word.M value = refl
register_changed b word.Sp value = refl
register_changed b word.Psw value = refl

part_changed : (b : Board) (p : Part) (value : ℕ)
    → (after_input (change_of b.machine.regs (target.Part p) value) b).machine
    ≡ with_value b.machine (target.Part p) value
part_changed b (part.Register name) value = register_changed b name value
part_changed b part.Bc value = refl
part_changed b part.De value = refl
part_changed b part.Hl value = refl
part_changed b part.Pc value = refl
part_changed b part.Sign value = refl
part_changed b part.Zero value = refl
part_changed b part.Parity value = refl
part_changed b part.Carry value = refl
part_changed b part.AuxiliaryCarry value = refl

changed : (b : Board) (t : Target) (value : ℕ)
    → (after_input (change_of b.machine.regs t value) b).machine ≡ with_value b.machine t value
changed b (target.Part p) value = part_changed b p value
changed b (target.Byte address) value = refl
changed b (target.Word address) value = refl

pub others_stay : (b : Board) (t : Target) (value : ℕ) (i : Input)
    → input_of b.machine.regs t value ≡ Ok i → (after_input i b).machine ≡ with_value b.machine t value
others_stay b t value i is =
    ap (λ (j : Input). (after_input j b).machine) (given b.machine.regs t value i is).input_is
    ∙ changed b t value

-- ---- what is there afterwards

byte_there : (m : MachineState) (address byte : ℕ) → IsWhole m
    → byte_at (with_byte m address byte) address ≡ byte
byte_there m address byte whole =
    let inside : address % 65536 < length m.memory = omega (arith, whole) in
    get_or-set_same m.memory (address % 65536) byte 0 inside

byte_before : (m : MachineState) (address byte : ℕ)
    → byte_at (with_byte m (address + 1) byte) address ≡ byte_at m address
byte_before m address byte =
    let apart : address % 65536 ≢ (address + 1) % 65536 = omega arith in
    get_or-set_other m.memory ((address + 1) % 65536) (address % 65536) byte 0 apart

still_whole : (m : MachineState) (address byte : ℕ) → IsWhole m → IsWhole (with_byte m address byte)
still_whole m address byte whole = length-set m.memory (address % 65536) byte ∙ whole

halves : (value : ℕ) → value % 256 + 256 * (value / 256) ≡ value
halves value = omega arith

word_there : (m : MachineState) (address word : ℕ) → IsWhole m
    → word_at (stored_word m address word) address ≡ word
word_there m address word whole =
    let low = with_byte m address (word % 256) in
    let first : byte_at (stored_word m address word) address ≡ word % 256 =
    byte_before low address (word / 256) ∙ byte_there m address (word % 256) whole in
    let second : byte_at (stored_word m address word) (address + 1) ≡ word / 256 =
    byte_there low (address + 1) (word / 256) (still_whole m address (word % 256) whole) in
    ap (λ x. x + 256 * byte_at (stored_word m address word) (address + 1)) first
    ∙ ap (λ y. word % 256 + 256 * y) second ∙ halves word

pair_there : (value : ℕ) → 256 * (value / 256) + value % 256 ≡ value
pair_there value = omega arith

flag_there : (value : ℕ) → nat_lt value 2 ≡ true → from_bool (value == 1) ≡ value
flag_there zero h = refl
flag_there (suc zero) h = refl
flag_there (suc (suc n)) h =
    let small : suc (suc n) < 2 = grind (arith, nat_tests) in absurd (omega (arith, small))

register_there : (m : MachineState) (name : RegisterWord) (value : ℕ) → IsWhole m
    → value_at (with_value m (target.Part (part.Register name)) value) (target.Part (part.Register name))
    ≡ value_taken (target.Part (part.Register name)) value
register_there m word.A value whole = refl
register_there m word.B value whole = refl
register_there m word.C value whole = refl
register_there m word.D value whole = refl
register_there m word.E value whole = refl
register_there m word.H value whole = refl
register_there m word.L value whole = refl
register_there m word.M value whole = byte_there m (get_pair m pair.H) (value % 256) whole
register_there m word.Sp value whole = refl
register_there m word.Psw value whole = refl

pub value_there : (m : MachineState) (t : Target) (value : ℕ) → IsWhole m → takes (size_of t) value ≡ true
    → value_at (with_value m t value) t ≡ value_taken t value
value_there m (target.Part (part.Register name)) value whole fits = register_there m name value whole
value_there m (target.Part part.Bc) value whole fits = pair_there value
value_there m (target.Part part.De) value whole fits = pair_there value
value_there m (target.Part part.Hl) value whole fits = pair_there value
value_there m (target.Part part.Pc) value whole fits = refl
value_there m (target.Part part.Sign) value whole fits = flag_there value fits
value_there m (target.Part part.Zero) value whole fits = flag_there value fits
value_there m (target.Part part.Parity) value whole fits = flag_there value fits
value_there m (target.Part part.Carry) value whole fits = flag_there value fits
value_there m (target.Part part.AuxiliaryCarry) value whole fits = flag_there value fits
value_there m (target.Byte address) value whole fits = byte_there m address (value % 256) whole
value_there m (target.Word address) value whole fits = word_there m address value whole

pub change_is_there : (b : Board) (t : Target) (value : ℕ) (i : Input) → IsWhole b.machine
    → input_of b.machine.regs t value ≡ Ok i → value_at (after_input i b).machine t ≡ value_taken t value
change_is_there b t value i whole is =
    ap (λ (m : MachineState). value_at m t) (others_stay b t value i is)
    ∙ value_there b.machine t value whole (given b.machine.regs t value i is).takes_it

-- ---- flags

-- a flag byte shows the flags that it was made of
pub flags_kept : (s z ac p cy : Bool)
    → flags_of (flag_byte (record { s = s; z = z; ac = ac; p = p; cy = cy }))
    ≡ record { s = s; z = z; ac = ac; p = p; cy = cy }
flags_kept true true true true true = refl
flags_kept true true true true false = refl
flags_kept true true true false true = refl
flags_kept true true true false false = refl
flags_kept true true false true true = refl
flags_kept true true false true false = refl
flags_kept true true false false true = refl
flags_kept true true false false false = refl
flags_kept true false true true true = refl
flags_kept true false true true false = refl
flags_kept true false true false true = refl
flags_kept true false true false false = refl
flags_kept true false false true true = refl
flags_kept true false false true false = refl
flags_kept true false false false true = refl
flags_kept true false false false false = refl
flags_kept false true true true true = refl
flags_kept false true true true false = refl
flags_kept false true true false true = refl
flags_kept false true true false false = refl
flags_kept false true false true true = refl
flags_kept false true false true false = refl
flags_kept false true false false true = refl
flags_kept false true false false false = refl
flags_kept false false true true true = refl
flags_kept false false true true false = refl
flags_kept false false true false true = refl
flags_kept false false true false false = refl
flags_kept false false false true true = refl
flags_kept false false false true false = refl
flags_kept false false false false true = refl
flags_kept false false false false false = refl
