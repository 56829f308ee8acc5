-- The variables of the five scopes.
use Rattle.std.specs.Prelude.{ℕ, ◌-◌, List, [], ◌∷◌, map, Bool, true, false, Option, Some, None, Result, Ok}
use Rattle.std.specs.Prelude.{Err, ◌==◌, length, min, codes, if◌then◌else◌}
use Rattle.std.specs.List.{range_with_len}
use Rattle.std.specs.Fmt.{decimal}
use Rattle.base_text.specs.Hexadecimal.{upper_word}
use Rattle.i80_exec.specs.State.{MachineState, byte_at}
use Rattle.i80_exec.specs.declared.registers.Registers.{Registers}
use Rattle.i80_exec.specs.declared.registers.Interrupts.{Interrupts}
use Rattle.i80_exec.specs.declared.registers.Interrupts.TheVariants.{Off, Arming, On}
use Rattle.i80_devs.specs.Past.{PanelState, panel_after}
use Rattle.asm_syntax.specs.Numerals.{byte_text, word_text}
use Rattle.asm_build.specs.declared.symbols.Symbol.{Symbol}
use Rattle.asm_build.specs.Reading.{Entries}
use Rattle.lab_shown.specs.declared.shown.Variable.{Variable}
use Rattle.lab_shown.specs.declared.scope.Scope.{Scope}
use Rattle.lab_shown.specs.declared.scope.Scope.TheVariants as scope
use Rattle.lab_shown.specs.Scopes.{scope_with}
use Rattle.lab_views.specs.declared.fault.ViewFault.{ViewFault}
use Rattle.lab_views.specs.declared.fault.ViewFault.TheVariants.{BadReference}
use Rattle.lab_views.specs.Paging.{asked_for, page}
use Rattle.lab_views.specs.Parts.{Parts}

abbrev pub variable : List ℕ → List ℕ → Variable
variable name value = record { name = name; value = value }

-- ---- registers and flags

abbrev pub register_variables : Registers → List Variable
register_variables r =
    variable (codes "A") (byte_text r.a)
    ∷ variable (codes "B") (byte_text r.b)
    ∷ variable (codes "C") (byte_text r.c)
    ∷ variable (codes "D") (byte_text r.d)
    ∷ variable (codes "E") (byte_text r.e)
    ∷ variable (codes "H") (byte_text r.h)
    ∷ variable (codes "L") (byte_text r.l)
    ∷ variable (codes "SP") (word_text r.sp)
    ∷ variable (codes "PC") (word_text r.pc)
    ∷ []

abbrev pub bit_text : Bool → List ℕ
bit_text false = codes "0"
bit_text true = codes "1"

abbrev pub interrupts_text : Interrupts → List ℕ
interrupts_text Off = codes "off"
interrupts_text Arming = codes "arming"
interrupts_text On = codes "on"

abbrev pub flag_variables : Registers → List Variable
flag_variables r =
    variable (codes "S") (bit_text r.flags.s)
    ∷ variable (codes "Z") (bit_text r.flags.z)
    ∷ variable (codes "AC") (bit_text r.flags.ac)
    ∷ variable (codes "P") (bit_text r.flags.p)
    ∷ variable (codes "CY") (bit_text r.flags.cy)
    ∷ variable (codes "INTE") (interrupts_text r.interrupts)
    ∷ []

-- ---- devices

-- the n of RST n
abbrev pub latched_text : Option ℕ → List ℕ
latched_text None = codes "none"
latched_text (Some n) = decimal n

abbrev pub device_variables : PanelState → List Variable
device_variables d =
    variable (codes "switches") (byte_text d.switches)
    ∷ variable (codes "lamps") (byte_text d.lamps)
    ∷ variable (codes "latched") (latched_text d.latched)
    ∷ variable (codes "waiting") (decimal (length d.waiting))
    ∷ []

-- ---- symbols and memory

abbrev pub symbol_variable : List ℕ × Symbol → Variable
symbol_variable e = variable e.0 (word_text e.1.value)

abbrev pub symbol_variables : Entries → List Variable
symbol_variables symbols = map symbol_variable symbols

-- the byte at an address, under the address
abbrev pub memory_variable : MachineState → ℕ → Variable
memory_variable m address = variable (upper_word address) (byte_text (byte_at m address))

-- that many bytes from an address on, but none past the last address
abbrev pub memory_variables : MachineState → ℕ → ℕ → List Variable
memory_variables m start count = map (memory_variable m) (range_with_len start (min count (65536 - start)))

-- ---- the scopes by their references

abbrev pub variables_in : Option Scope → Parts → ℕ → ℕ → Result (List Variable) ViewFault
variables_in (Some scope.Registers) p start count = Ok (register_variables p.machine.regs)
variables_in (Some scope.Flags) p start count = Ok (flag_variables p.machine.regs)
variables_in (Some scope.Devices) p start count = Ok (device_variables (panel_after p.past))
variables_in (Some scope.Symbols) p start count =
    Ok (page start (asked_for 256 256 count) (symbol_variables p.symbols))
variables_in (Some scope.Memory) p start count =
    Ok (memory_variables p.machine start (asked_for 16 256 count))
variables_in None p start count = Err BadReference

abbrev pub variables_of : Parts → ℕ → ℕ → ℕ → Result (List Variable) ViewFault
variables_of p reference start count = variables_in (scope_with reference) p start count
