use Rattle.std.proofs.Common.{◌≡◌, map}
use Rattle.base_text.specs.Latin.{latin_byte}
use Rattle.base_text.proofs.latin.to_bytes.Given as goal

abbrev pub invariant-loop-character : goal.invariant-loop-character
invariant-loop-character l = l.bytes.items ≡ map latin_byte l.yielded
