-- What a listing is assembled to.
use Rattle.std.specs.Prelude.{◌≡◌, ◌<◌, ℕ, ◌+◌, List, [], ◌∷◌, None, Ok}
use Rattle.asm_syntax.specs.declared.statement.Statement.{Statement}
use Rattle.asm_text.specs.Statements.{statements_of}
use Rattle.asm_build.specs.declared.built.Row.{Row}
use Rattle.asm_build.specs.Reading.{Entries, Lines, IsReading}
use Rattle.asm_build.specs.Meaning.{Meaning, meaning_of, built_of}

-- each number is a byte
abbrev pub AreBytes : List ℕ → Type 0
AreBytes [] = Unit {0}
AreBytes (b ∷ bytes) = (b < 256) × AreBytes bytes

-- bytes with their addresses, from one on
abbrev pub image_from : ℕ → List ℕ → List (ℕ × ℕ)
image_from address [] = []
image_from address (b ∷ bytes) = (address, b) ∷ image_from (address + 1) bytes

-- this image, no start, and the symbols that were kept
abbrev pub only_image : Entries → List (ℕ × ℕ) → List Row → Meaning
only_image kept image rows = record {
  output = record { image = image; rows = rows; start = None };
  symbols = kept;
}

-- The text is a cell. It has a consistent reading over the kept symbols; neither its layout nor its
-- values have a fault; and each of its consistent readings gives this image and no more.
abbrev pub AssemblesTo : Entries → List ℕ → List (ℕ × ℕ) → Type 0
AssemblesTo kept text image =
    (ss : List Statement) × (rows : List Row)
    × (statements_of text ≡ Ok ss)
    × (built_of kept ss ≡ Ok (only_image kept image rows))
    × ((all : Lines) × IsReading kept ss all)
    × ((all : Lines) → IsReading kept ss all → meaning_of kept all ≡ Ok (only_image kept image rows))
