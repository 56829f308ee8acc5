-- The texts that are kept, each under its path.
use Rattle.std.specs.Prelude.{ℕ, ◌+◌, List, [], ◌∷◌, ◌++◌, length, Option, Some, None, Result, Ok, Err}
use Rattle.std.specs.Prelude.{nat_lt, ◌==◌, if◌then◌else◌}
use Rattle.std.specs.List.{filter}
use Rattle.std.specs.Str.{bytes_eq}
use Rattle.lab_image.specs.declared.sources.Source.{Source}
use Rattle.lab_image.specs.declared.sources.SourceFault.{SourceFault}
use Rattle.lab_image.specs.declared.sources.SourceFault.TheVariants.{NameTaken, Full}

-- the number of the source with this path, and its text; the first source has number n
unfoldable pub source_from : ℕ → List Source → List ℕ → Option (ℕ × List ℕ)
source_from n [] path = None
source_from n (s ∷ ss) path =
    if bytes_eq s.path path then Some (n, s.text) else source_from (n + 1) ss path

-- the number and the text that are kept under a path
abbrev pub source_at : List Source → List ℕ → Option (ℕ × List ℕ)
source_at sources path = source_from 0 sources path

abbrev pub with_text : List ℕ → Option (ℕ × List ℕ) → ℕ → Result (Option ℕ) SourceFault
with_text text (Some (n, kept)) count = if bytes_eq kept text then Ok (Some n) else Err NameTaken
with_text text None count = if nat_lt count 1024 then Ok None else Err Full

-- Whether a source may be kept: it is there already, under its number, or it is new and there is room.
abbrev pub place_of : Source → List Source → Result (Option ℕ) SourceFault
place_of s sources = with_text s.text (source_at sources s.path) (length sources)

-- a text has one line more than it has LFs
abbrev pub line_count : List ℕ → ℕ
line_count text = length (filter (λ byte. byte == 10) text) + 1

-- its number, and the sources with it: a new one comes last
abbrev pub number_at : Option ℕ → List Source → ℕ
number_at (Some n) sources = n
number_at None sources = length sources

abbrev pub kept_at : Option ℕ → Source → List Source → List Source
kept_at (Some n) s sources = sources
kept_at None s sources = sources ++ s ∷ []
