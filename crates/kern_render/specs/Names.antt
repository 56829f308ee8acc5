-- The names of sessions.
use Rattle.base_text.specs.Bytes.{Bytes, Text}
use Rattle.uuid.specs.Parts.{with_variant, with_version}
use Rattle.uuid.specs.Text.{hyphenated_text, lower}
use Rattle.uuid.specs.declared.Variant.TheVariants.{RFC4122}
use Rattle.uuid.specs.declared.Version.TheVariants.{Random}

-- the UUID of version 4 of these random bytes (RFC 9562, section 5.4)
abbrev pub random_uuid : Bytes → Bytes
random_uuid bytes = with_version (with_variant bytes RFC4122) Random

-- its digits in lower case and with hyphens
abbrev pub session_name : Bytes → Text
session_name bytes = hyphenated_text lower (random_uuid bytes)
