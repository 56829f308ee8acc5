-- The text that the word `dis` writes for its input, and its status.
use Rattle.std.specs.Prelude.{ℕ, ◌+◌, List, Bool, nat_lt, length, codes, if◌then◌else◌}
use Rattle.i80_dis.specs.Text.{listing_of}
use Rattle.cli_io.specs.HexInput.{input_of}
use Rattle.cli_io.specs.declared.status.Status.{Status}
use Rattle.cli_io.specs.declared.status.Status.TheVariants.{Success, Refused}
use Rattle.cli_io.specs.Report.{line, text_for, status_for}

-- whether bytes from this address on pass the end of memory
abbrev pub is_past_end : ℕ → List ℕ → Bool
is_past_end origin bytes = nat_lt 65536 (origin + length bytes)

abbrev pub listed_text : ℕ → List ℕ → List ℕ
listed_text origin bytes =
    if (is_past_end origin bytes) then (line (codes "past end")) else (listing_of origin bytes)

abbrev pub listed_status : ℕ → List ℕ → Status
listed_status origin bytes = if (is_past_end origin bytes) then Refused else Success

abbrev pub dis_text : ℕ → List ℕ → List ℕ
dis_text origin input = text_for (listed_text origin) (input_of input)

abbrev pub dis_status : ℕ → List ℕ → Status
dis_status origin input = status_for (listed_status origin) (input_of input)
