-- The text of a program without source.
use Rattle.std.specs.Prelude.{ℕ, List, length, Option, Some, None, Result, Ok, Err, nat_lt}
use Rattle.std.specs.Prelude.{if◌then◌else◌}
use Rattle.std.specs.Option.{option_or}
use Rattle.std.specs.Str.Lines.{lines}
use Rattle.base_text.specs.Bytes.{Text}
use Rattle.asm_hex.specs.Outcome.{◌>>=◌}
use Rattle.i80_listings_laws.specs.Text.{listings_of}
use Rattle.dap_messages.specs.declared.file_kind.ImageKind.{ImageKind}
use Rattle.dap_image.specs.declared.fault.ImageFault.{ImageFault}
use Rattle.dap_image.specs.declared.fault.ImageFault.TheVariants as fault
use Rattle.dap_image.specs.declared.text.ImagePlace.{ImagePlace}
use Rattle.dap_image.specs.Images.{Cells, Image, image_of, start_in}

-- ---- the program

-- a memory with its start, if it has a byte
abbrev pub program_from : Cells → Option ℕ → Result (Cells × ℕ) ImageFault
program_from cells None = Err fault.Empty
program_from cells (Some start) = Ok (cells, start)

-- an image that is placed so: it starts where the place says, or else where the file says
abbrev pub placed_image : ImagePlace → Image → Result (Cells × ℕ) ImageFault
placed_image place image = program_from image.0 (start_in image.0 (option_or place.start image.1))

-- the memory and the start of a file of this form
abbrev pub program_for : ImageKind → List ℕ → ImagePlace → Result (Cells × ℕ) ImageFault
program_for kind bytes place = image_of kind place.origin bytes >>= placed_image place

-- ---- its text

-- a text that has no more lines than a cell may have
abbrev pub short_text : Text → Result Text ImageFault
short_text text = if (nat_lt 65537 (length (lines text))) then (Err fault.TooManyLines) else (Ok text)

-- the listing of a memory with a start
abbrev pub listing_for : Cells → ℕ → Result Text ImageFault
listing_for cells start = short_text (listings_of cells (Some start))

-- the listing of a file of this form
abbrev pub text_for : ImageKind → List ℕ → ImagePlace → Result Text ImageFault
text_for kind bytes place = program_for kind bytes place >>= (λ program. listing_for program.0 program.1)
