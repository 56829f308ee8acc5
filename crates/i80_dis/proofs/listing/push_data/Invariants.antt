use Rattle.std.proofs.Common.{◌≡◌, ◌++◌, map, drop, string_bytes}
use Rattle.i80_dis.specs.declared.line.Shown.TheVariants.{Datum}
use Rattle.i80_dis.specs.Text.{text_of_lines}
use Rattle.i80_dis.proofs.listing.push_data.Given as goal

abbrev pub invariant-loop-byte : goal.invariant-loop-byte
invariant-loop-byte l =
    string_bytes l.text ++ text_of_lines (map Datum (drop l.byte-index l.bytes))
    ≡ string_bytes l.fn.text ++ text_of_lines (map Datum l.bytes)
