-- What a line or a cell gives, or what is wrong with it, and when a function's result is that.
use Rattle.std.specs.Prelude.{◌≡◌, ◌<◌, ◌⊎◌, ℕ, List, ◌∷◌, Result, Ok, Err}
use Rattle.asm_syntax.specs.declared.fault.FaultKind.{FaultKind}
use Rattle.asm_syntax.specs.declared.fault.LineFault.{LineFault}
use Rattle.asm_syntax.specs.declared.fault.LineFault.TheVariants as line
use Rattle.asm_syntax.specs.declared.fault.AsmFault.{AsmFault}
use Rattle.asm_syntax.specs.declared.fault.AsmFault.TheVariants as asm

-- what is wrong, at a column
abbrev pub Fault : Type 0
Fault = ℕ × FaultKind

-- what is wrong, at a line and a column
abbrev pub CellFault : Type 0
CellFault = ℕ × ℕ × FaultKind

-- faults are ordered by lists of numbers: the first numbers that differ decide
abbrev pub ComesBefore : List ℕ → List ℕ → Type 0
ComesBefore (a ∷ more) (b ∷ others) = (a < b) ⊎ ((a ≡ b) × ComesBefore more others)
ComesBefore _ _ = ⊥

-- one step after the other, up to the first fault
infixl 10 ◌>>=◌
abbrev pub ◌>>=◌ : {A B F : Type 0} → Result A F → (A → Result B F) → Result B F
(Ok x) >>= f = f x
(Err e) >>= f = Err e

-- what a function over a line reports as its fault is the fault of what was read, or out of memory
abbrev pub LineFails : {Y : Type 0} → LineFault → Result Y Fault → Type 0
LineFails line.OutOfMemory read = Unit {0}
LineFails (line.At column kind) read = read ≡ Err (column, kind)

-- what it returns, seen by view, is what was read
abbrev pub LineGives : {X Y : Type 0} → (X → Y) → Result X LineFault → Result Y Fault → Type 0
LineGives view (Ok x) read = read ≡ Ok (view x)
LineGives view (Err e) read = LineFails e read

-- the same over a cell: its fault
abbrev pub Fails : {Y : Type 0} → AsmFault → Result Y CellFault → Type 0
Fails asm.OutOfMemory read = Unit {0}
Fails (asm.At line column kind) read = read ≡ Err (line, column, kind)

-- and its result
abbrev pub Gives : {X Y : Type 0} → (X → Y) → Result X AsmFault → Result Y CellFault → Type 0
Gives view (Ok x) read = read ≡ Ok (view x)
Gives view (Err e) read = Fails e read

-- what a line gives, its faults at that line
abbrev pub at_line : {A : Type 0} → ℕ → Result A Fault → Result A CellFault
at_line n (Ok x) = Ok x
at_line n (Err f) = Err (n, f.0, f.1)
