-- The rows of the scopes after a change by hand.
use Rattle.std.proofs.Common.{◌≡◌, ◌≢◌, ◌∙◌, ◌<◌, ◌≤◌, ◌+◌, ◌-◌, ◌%◌, ◌==◌, ℕ, zero, suc, List, map, length}
use Rattle.std.proofs.Common.{inl, inr, refl, sym, ap, Bool, true, false, cond, Option, Some, None, Ok}
use Rattle.std.proofs.Common.{arith, min, get_or, subst}
use Rattle.std.proofs.lemmas.List.{get_or-set_same, get_or-set_other}
use Rattle.std.proofs.lemmas.List.FromFn.{length-map-range_with_len, get_or-map-range_with_len}
use Rattle.std.proofs.lemmas.Slice.Eq.{bytes_eq-Decides}
use Rattle.std.proofs.lemmas.Bool.Decides.{not_from_Decides}
use Rattle.std.specs.List.{range_with_len, Contains}
use Rattle.std.specs.Str.{bytes_eq}
use Rattle.base_text.specs.Hexadecimal.{upper_word}
use Rattle.i80_exec.specs.State.{MachineState, byte_at, with_byte}
use Rattle.asm_syntax.specs.Numerals.{byte_text}
use Rattle.lab_views.specs.Paging.{asked_for}
use Rattle.lab_views.specs.Parts.{Parts}
use Rattle.lab_shown.specs.declared.scope.Scope.{Scope}
use Rattle.lab_shown.specs.declared.scope.Scope.TheVariants as scope
use Rattle.lab_shown.specs.Scopes.{scope_with}
use Rattle.lab_views.specs.Variables.{variable, register_variables, memory_variable, variables_in}
use Rattle.lab_shown.specs.declared.place.Place.{Place}
use Rattle.lab_shown.specs.declared.place.Place.TheVariants as place
use Rattle.lab_views.specs.Places.{shown_name, place_named}
use Rattle.lab_views.specs.Values.{text_at}
use Rattle.lab_views.specs.Changes.{machine_with}
use Rattle.lab_views.specs.Law.{parts_changed_at, IsWhole, row_with, ShowsValue, IsAsked, HasRow}
use Rattle.lab_views.specs.Law.{ShowsTheSame}
use Rattle.lab_views.proofs.NameLemmas.{is_register, same_address, place_found, scope_found}

-- ---- registers

register_rows : (register : Place) (value : ℕ) (m : MachineState) → is_register register ≡ true
    → register_variables (machine_with register value m).regs
    ≡ map (row_with (shown_name register) (text_at register value)) (register_variables m.regs)
register_rows (place.Memory address) value m h = absurd cc
register_rows _ value m h = refl

has_register : (register : Place) (value : ℕ) (m : MachineState) → is_register register ≡ true
    → Contains (register_variables (machine_with register value m).regs)
    (variable (shown_name register) (text_at register value))
has_register place.A value m h = (0, omega arith, refl)
has_register place.B value m h = (1, omega arith, refl)
has_register place.C value m h = (2, omega arith, refl)
has_register place.D value m h = (3, omega arith, refl)
has_register place.E value m h = (4, omega arith, refl)
has_register place.H value m h = (5, omega arith, refl)
has_register place.L value m h = (6, omega arith, refl)
has_register place.Sp value m h = (7, omega arith, refl)
has_register place.Pc value m h = (8, omega arith, refl)
has_register (place.Memory address) value m h = absurd cc

-- ---- memory

row_same : (m : MachineState) (address value : ℕ) → IsWhole m → address < 65536
    → byte_at (with_byte m address value) address ≡ value
row_same m address value whole lt =
    let inside : address % 65536 < length m.memory = omega (arith, whole) in
    get_or-set_same m.memory (address % 65536) value 0 inside

row_other : (m : MachineState) (address value x : ℕ) → address < 65536 → x < 65536 → x ≢ address
    → byte_at (with_byte m address value) x ≡ byte_at m x
row_other m address value x lt x_lt other =
    let apart : x % 65536 ≢ address % 65536 = omega (arith, other) in
    get_or-set_other m.memory (address % 65536) (x % 65536) value 0 apart

row_changed : (m : MachineState) (address value x : ℕ) (same : Bool)
    → bytes_eq (upper_word x) (upper_word address) ≡ same → IsWhole m → address < 65536 → x < 65536
    → memory_variable (with_byte m address value) x
    ≡ cond same (variable (upper_word x) (byte_text value)) (memory_variable m x)
row_changed m address value x true is whole lt x_lt =
    let names : upper_word x ≡ upper_word address =
    (bytes_eq-Decides (upper_word x) (upper_word address)).0 is in
    let one : x ≡ address = same_address x address x_lt lt names in
    ap (λ byte. variable (upper_word x) (byte_text byte))
    (ap (byte_at (with_byte m address value)) one ∙ row_same m address value whole lt)
row_changed m address value x false is whole lt x_lt =
    let other : x ≢ address =
    (λ e. not_from_Decides _ (bytes_eq-Decides (upper_word x) (upper_word address)) is (ap upper_word e)) in
    ap (λ byte. variable (upper_word x) (byte_text byte)) (row_other m address value x lt x_lt other)

memory_rows : (m : MachineState) (address value start n : ℕ) → IsWhole m → address < 65536
    → n ≤ 65536 - start
    → map (memory_variable (with_byte m address value)) (range_with_len start n)
    ≡ map (row_with (upper_word address) (byte_text value)) (map (memory_variable m) (range_with_len start n))
memory_rows m address value start zero whole lt few = refl
memory_rows m address value start (suc n) whole lt few =
    let here = row_changed m address value start _ refl whole lt (omega arith) in
    let rest = memory_rows m address value (start + 1) n whole lt (omega arith) in
    cc

has_byte : (m : MachineState) (address value start n : ℕ) → IsWhole m → address < 65536 → start ≤ address
    → address < start + n
    → Contains (map (memory_variable (with_byte m address value)) (range_with_len start n))
    (variable (upper_word address) (byte_text value))
has_byte m address value start n whole lt from to =
    let shown = memory_variable (with_byte m address value) in
    let row = variable (upper_word address) (byte_text value) in
    let inside : address - start < n = omega arith in
    let whole_place : start + (address - start) ≡ address = omega arith in
    let many : address - start < length (map shown (range_with_len start n)) =
    rw (length-map-range_with_len shown start n) inside in
    let is : get_or (map shown (range_with_len start n)) (address - start) row ≡ shown address =
    get_or-map-range_with_len shown start n (address - start) address row inside whole_place in
    let holds : shown address ≡ row =
    ap (λ byte. variable (upper_word address) (byte_text byte)) (row_same m address value whole lt) in
    (address - start, many, is ∙ holds)

-- ---- the scopes

-- how many bytes are shown, where so many are asked for from an address on
abbrev bytes_shown : ℕ → ℕ → ℕ
bytes_shown start count = min (asked_for 16 256 count) (65536 - start)

pub shows_value : (p : Parts) (reference : ℕ) (name : List ℕ) (at : Place) (value : ℕ) → IsWhole p.machine
    → place_named reference name ≡ Ok at → ShowsValue p reference at value
shows_value p reference name at value whole e start count =
    elim (place_found reference name at e) [
      | inl found ↦ rw found.scope
          (ap (λ rows. Ok rows) (register_rows at value p.machine found.register.register_is))
      | inr found ↦ rw (found.scope, found.byte_is)
          (ap (λ rows. Ok rows)
          (memory_rows p.machine found.address value start (bytes_shown start count) whole
          found.named.small (omega arith)))
    ]

pub has_row : (p : Parts) (reference : ℕ) (name : List ℕ) (at : Place) (value : ℕ) → IsWhole p.machine
    → place_named reference name ≡ Ok at → HasRow p reference at value
has_row p reference name at value whole e start count asked =
    elim (place_found reference name at e) [
      | inl found ↦ rw found.scope (has_register at value p.machine found.register.register_is)
      | inr found ↦
          (let byte : IsAsked (place.Memory found.address) start count =
          subst (λ (x : Place). IsAsked x start count) found.byte_is asked in
          rw (found.scope, found.byte_is)
          (has_byte p.machine found.address value start (bytes_shown start count) whole
          found.named.small byte.0 (omega (arith, byte.0, byte.1, found.named.small))))
    ]

-- ---- the other scopes

-- a change of a register, and of a byte, leaves what the other scopes show
registers_else : (s : Option Scope) (p : Parts) (at : Place) (value start count : ℕ)
    → is_register at ≡ true
    → s ≢ Some scope.Registers
    → variables_in s (parts_changed_at at value p) start count ≡ variables_in s p start count
registers_else s p (place.Memory address) value start count h apart = absurd cc
registers_else (Some scope.Registers) p _ value start count h apart = absurd (apart refl)
registers_else (Some scope.Flags) p _ value start count h apart = refl
registers_else (Some scope.Devices) p _ value start count h apart = refl
registers_else (Some scope.Symbols) p _ value start count h apart = refl
registers_else (Some scope.Memory) p _ value start count h apart = refl
registers_else None p _ value start count h apart = refl

memory_else : (s : Option Scope) (p : Parts) (address value start count : ℕ) → s ≢ Some scope.Memory
    → variables_in s (parts_changed_at (place.Memory address) value p) start count
    ≡ variables_in s p start count
memory_else (Some scope.Memory) p address value start count apart = absurd (apart refl)
memory_else (Some scope.Registers) p address value start count apart = refl
memory_else (Some scope.Flags) p address value start count apart = refl
memory_else (Some scope.Devices) p address value start count apart = refl
memory_else (Some scope.Symbols) p address value start count apart = refl
memory_else None p address value start count apart = refl

pub shows_the_same : (p : Parts) (reference other : ℕ) (name : List ℕ) (at : Place) (value : ℕ)
    → place_named reference name ≡ Ok at → other ≢ reference → ShowsTheSame p other at value
shows_the_same p reference other name at value e apart =
    elim (place_found reference name at e) [
      | inl found ↦ λ start count.
          registers_else (scope_with other) p at value start count found.register.register_is
          (λ is. apart (scope_found other scope.Registers is ∙ sym found.scope))
      | inr found ↦
          subst (λ (x : Place). ShowsTheSame p other x value) (sym found.byte_is)
          (λ start count. memory_else (scope_with other) p found.address value start count
          (λ is. apart (scope_found other scope.Memory is ∙ sym found.scope)))
    ]
