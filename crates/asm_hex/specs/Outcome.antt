-- What a line or a file gives, or its first fault, and when a function's result is that.
use Rattle.std.specs.Prelude.{◌≡◌, ℕ, Result, Ok, Err}
use Rattle.asm_hex.specs.declared.fault.HexFaultKind.{HexFaultKind}
use Rattle.asm_hex.specs.declared.fault.LineFault.{LineFault}
use Rattle.asm_hex.specs.declared.fault.LineFault.TheVariants as line
use Rattle.asm_hex.specs.declared.fault.HexFault.{HexFault}
use Rattle.asm_hex.specs.declared.fault.HexFault.TheVariants as hex

-- what is wrong, at a line
abbrev pub FileFault : Type 0
FileFault = ℕ × HexFaultKind

-- one step after the other, up to the first fault
infixl 10 ◌>>=◌
abbrev pub ◌>>=◌ : {A B F : Type 0} → Result A F → (A → Result B F) → Result B F
(Ok x) >>= f = f x
(Err e) >>= f = Err e

-- what a function over a line reports as its fault is the line's fault, or out of memory
abbrev pub LineFails : {Y : Type 0} → LineFault → Result Y HexFaultKind → Type 0
LineFails line.OutOfMemory read = Unit {0}
LineFails (line.Is kind) read = read ≡ Err kind

-- what it returns, seen by view, is what was read
abbrev pub LineGives : {X Y : Type 0} → (X → Y) → Result X LineFault → Result Y HexFaultKind → Type 0
LineGives view (Ok x) read = read ≡ Ok (view x)
LineGives view (Err e) read = LineFails e read

-- the same over a file: its fault
abbrev pub Fails : {Y : Type 0} → HexFault → Result Y FileFault → Type 0
Fails hex.OutOfMemory read = Unit {0}
Fails (hex.At line kind) read = read ≡ Err (line, kind)

-- and its result
abbrev pub Gives : {X Y : Type 0} → (X → Y) → Result X HexFault → Result Y FileFault → Type 0
Gives view (Ok x) read = read ≡ Ok (view x)
Gives view (Err e) read = Fails e read

-- what a line gives, its fault at that line
abbrev pub at_line : {A : Type 0} → ℕ → Result A HexFaultKind → Result A FileFault
at_line number (Ok x) = Ok x
at_line number (Err kind) = Err (number, kind)
