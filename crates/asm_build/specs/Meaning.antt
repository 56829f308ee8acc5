-- The value round: what a reading of a cell gives, or the first fault of its values.
use Rattle.std.specs.Prelude.{◌≡◌, ℕ, ◌+◌, ◌%◌, List, [], ◌∷◌, ◌++◌, length, Bool, Option}
use Rattle.std.specs.Prelude.{Some, None, Result, Ok, Err, if◌then◌else◌, fold}
use Rattle.std.specs.Str.{bytes_eq}
use Rattle.std.specs.List.{list_any}
use Rattle.asm_syntax.specs.declared.fault.FaultKind.TheVariants as fault
use Rattle.asm_syntax.specs.declared.statement.Label.{Label}
use Rattle.asm_syntax.specs.declared.statement.Operation.{Operation}
use Rattle.asm_syntax.specs.declared.statement.Statement.{Statement}
use Rattle.asm_syntax.specs.Outcome.{Fault, CellFault, ◌>>=◌, at_line}
use Rattle.asm_encode.specs.Bytes.{bytes_of, start_of}
use Rattle.asm_build.specs.declared.symbols.SymbolKind.{SymbolKind}
use Rattle.asm_build.specs.declared.symbols.Symbol.{Symbol}
use Rattle.asm_build.specs.declared.laid.Laid.{Laid}
use Rattle.asm_build.specs.declared.built.Row.{Row}
use Rattle.asm_build.specs.declared.built.Built.{Built}
use Rattle.asm_build.specs.Images.{has}
use Rattle.asm_build.specs.Statements.{definition_of}
use Rattle.asm_build.specs.Reading.{Entries, Lines, IsReading, given_as, late_value}
use Rattle.asm_build.specs.Layout.{layout}

-- ---- the output of lines

-- the bytes with their addresses, the lines that have bytes, and where to start
pub record Output : Type 0 where
  pub image : List (ℕ × ℕ)
  pub rows : List Row
  pub start : Option ℕ

-- bytes at the addresses from one on
abbrev pub at_address : ℕ → List ℕ → List (ℕ × ℕ)
at_address address [] = []
at_address address (b ∷ bs) = (address, b) ∷ at_address ((address + 1) % 65536) bs

-- one of the addresses has a byte already
abbrev pub overlaps : List (ℕ × ℕ) → List (ℕ × ℕ) → Bool
overlaps image more = list_any (λ p. has image p.0) more

-- the row of a line that gives bytes
abbrev pub rows_of : ℕ → ℕ → List ℕ → List Row
rows_of line address [] = []
rows_of line address (b ∷ bs) =
    record { address = address; length = length (b ∷ bs); line = line } ∷ []

-- the output with these bytes, and this start
abbrev pub with_bytes : Output → ℕ → ℕ → List ℕ → Option ℕ → Output
with_bytes out line address bytes start = record {
  image = out.image ++ at_address address bytes;
  rows = out.rows ++ rows_of line address bytes;
  start = start;
}

-- the same, if no byte overlaps
abbrev pub put_bytes : ℕ → Output → ℕ → ℕ → List ℕ → Option ℕ → Result Output Fault
put_bytes column out line address bytes start =
    if overlaps out.image (at_address address bytes)
    then Err (column, fault.Overlap) else Ok (with_bytes out line address bytes start)

-- the output with an assembled operation of this line
abbrev pub with_operation : (List ℕ → Option ℕ) → Output → ℕ → ℕ → Option Operation
    → Result Output Fault
with_operation names out line here None = Ok out
with_operation names out line here (Some o) = do
  bytes ← bytes_of names here o.action
  start ← start_of names here out.start o.action
  put_bytes o.column out line here bytes start

-- the output with a line
abbrev pub with_line : (List ℕ → Option ℕ) → Output → ℕ → Statement × Laid → Result Output Fault
with_line names out line p =
    if p.1.is_assembled
    then with_operation names out line (p.1.place % 65536) p.0.operation else Ok out

-- the output of lines, the latest first, where `all` are all of the cell's lines
unfoldable pub output_of : Entries → Lines → Lines → Result Output CellFault
output_of kept all [] = Ok (record { image = []; rows = []; start = None })
output_of kept all (p ∷ ps) = do
  out ← output_of kept all ps
  at_line (length ps + 1) (with_line (late_value kept all ps) out (length ps + 1) p)

-- ---- symbols

-- a symbol for a name: one that is there keeps its place, a new one is last
abbrev pub with_symbol : Entries → List ℕ → Symbol → Entries
with_symbol [] x d = (x, d) ∷ []
with_symbol (e ∷ es) x d = if bytes_eq x e.0 then (e.0, d) ∷ es else e ∷ with_symbol es x d

-- names with the definition of a statement
abbrev pub with_definition : Option (Label × SymbolKind) → Laid → Entries → Entries
with_definition None r es = es
with_definition (Some d) r es = with_symbol es d.0.name (given_as d.1 r)

-- the cell's own symbols, in order of definition
abbrev pub definitions : Lines → Entries
definitions [] = []
definitions (p ∷ ps) =
    if p.1.is_assembled then with_definition (definition_of p.0) p.1 (definitions ps)
    else definitions ps

-- those that are kept afterwards
abbrev pub symbols_after : Entries → Lines → Entries
symbols_after kept all = fold (λ es e. with_symbol es e.0 e.1) kept (definitions all)

-- ---- both rounds

-- what a cell gives, and the symbols to keep
pub record Meaning : Type 0 where
  pub output : Output
  pub symbols : Entries

-- what a reading gives
abbrev pub meaning_of : Entries → Lines → Result Meaning CellFault
meaning_of kept all = do
  out ← output_of kept all all
  Ok (record { output = out; symbols = symbols_after kept all })

-- what a cell gives: the layout round, and where it finds no fault the value round
abbrev pub built_of : Entries → List Statement → Result Meaning CellFault
built_of kept ss = do
  all ← layout kept [] ss
  meaning_of kept all

-- what `build` gives
abbrev pub meaning_in : Built → Meaning
meaning_in b = record {
  output = record { image = b.image.items; rows = b.rows.items; start = b.start };
  symbols = b.symbols;
}

-- the cell has a consistent reading, which gives this
abbrev pub IsMeaning : Entries → List Statement → Meaning → Type 0
IsMeaning kept ss m = (all : Lines) × IsReading kept ss all × (meaning_of kept all ≡ Ok m)

-- each consistent reading of the cell gives this
abbrev pub IsOnlyMeaning : Entries → List Statement → Meaning → Type 0
IsOnlyMeaning kept ss m = (all : Lines) → IsReading kept ss all → meaning_of kept all ≡ Ok m
