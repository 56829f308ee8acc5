-- Bytes in the texts of messages.
use Rattle.std.specs.Prelude.{◌-◌, Option}
use Rattle.base_text.specs.Bytes.{Bytes, Text}
use Rattle.base64.specs.Engines.{standard}
use Rattle.base64.specs.GeneralPurpose.{decoded_of}

-- the bytes that a text has in base64 (RFC 4648, section 4: the standard alphabet, padded)
unfoldable pub bytes_of : Text → Option Bytes
bytes_of text = decoded_of standard text
