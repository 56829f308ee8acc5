-- Numbers in values (Debug Adapter Protocol, "ValueFormat"): as the assembler writes them, or in decimal.
use Rattle.std.specs.Prelude.{ℕ}
use Rattle.std.specs.Fmt.{decimal}
use Rattle.base_text.specs.Bytes.{Text}
use Rattle.asm_syntax.specs.Numerals.{byte_text, word_text}
use Rattle.dap_messages.specs.declared.message.ValueFormat.{ValueFormat}
use Rattle.dap_messages.specs.declared.message.ValueFormat.TheVariants.{Hexadecimal, Decimal}

abbrev pub byte_shown : ValueFormat → ℕ → Text
byte_shown Hexadecimal byte = byte_text byte
byte_shown Decimal byte = decimal byte

abbrev pub word_shown : ValueFormat → ℕ → Text
word_shown Hexadecimal word = word_text word
word_shown Decimal word = decimal word
