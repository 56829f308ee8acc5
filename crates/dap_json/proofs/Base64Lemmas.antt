-- A text has bytes in base64 exactly where it is what these are written as.
use Rattle.std.proofs.Common.{◌≡◌, ◌↔◌, ℕ, List, Some, refl, ap}
use Rattle.std.specs.Result.{result_ok}
use Rattle.std.specs.Prelude.{Result, Ok, Err}
use Rattle.base64.specs.declared.decode.DecodeError.{DecodeError}
use Rattle.base64.specs.Engines.{standard}
use Rattle.base64.specs.GeneralPurpose.{IsBytes, IsStrict, decode_of, decoded_of}
use Rattle.base64.proofs.EngineFacts.{decode_of_iff}
use Rattle.dap_messages.specs.Base64.{bytes_of}
use Rattle.dap_json.specs.Json.{base64_text}

is_ok : (r : Result (List ℕ) DecodeError) (b : List ℕ) → result_ok r ≡ Some b → r ≡ Ok b
is_ok (Ok x) b e = cc
is_ok (Err d) b e = absurd (cc)

strict : IsStrict standard
strict = (refl, refl)

pub reads_what_is_written : (text bytes : List ℕ) → IsBytes text → IsBytes bytes
    → (bytes_of text ≡ Some bytes) ↔ (text ≡ base64_text bytes)
unfolding bytes_of base64_text decoded_of
reads_what_is_written text bytes of_text of_bytes =
    let both = decode_of_iff standard text bytes strict of_text of_bytes in (
      λ read. both.0 (is_ok (decode_of standard text) bytes read),
      λ written. ap result_ok (both.1 written),
    )
