-- What the listing of a memory with gaps is assembled to.
use Rattle.std.specs.Prelude.{◌≡◌, ◌<◌, ℕ, List, [], ◌∷◌, Option, Some, None, Ok}
use Rattle.asm_syntax.specs.declared.statement.Statement.{Statement}
use Rattle.asm_text.specs.Statements.{statements_of}
use Rattle.asm_build.specs.declared.built.Row.{Row}
use Rattle.asm_build.specs.Reading.{Entries, Lines, IsReading}
use Rattle.asm_build.specs.Meaning.{Meaning, meaning_of, built_of}

-- each number in a memory is a byte
abbrev pub HaveBytes : List (Option ℕ) → Type 0
HaveBytes [] = Unit {0}
HaveBytes (None ∷ cells) = HaveBytes cells
HaveBytes (Some b ∷ cells) = (b < 256) × HaveBytes cells

-- a start is an address
abbrev pub IsStart : Option ℕ → Type 0
IsStart None = Unit {0}
IsStart (Some start) = start < 65536

-- this image, this start, and the symbols that were kept
abbrev pub started_image : Entries → List (ℕ × ℕ) → Option ℕ → List Row → Meaning
started_image kept image start rows = record {
  output = record { image = image; rows = rows; start = start };
  symbols = kept;
}

-- The text is a cell. It has a consistent reading over the kept symbols; neither its layout nor its
-- values have a fault; and each of its consistent readings gives this image, this start, and no more.
abbrev pub AssemblesWith : Entries → List ℕ → List (ℕ × ℕ) → Option ℕ → Type 0
AssemblesWith kept text image start =
    (ss : List Statement) × (rows : List Row)
    × (statements_of text ≡ Ok ss)
    × (built_of kept ss ≡ Ok (started_image kept image start rows))
    × ((all : Lines) × IsReading kept ss all)
    × ((all : Lines) → IsReading kept ss all → meaning_of kept all ≡ Ok (started_image kept image start rows))
