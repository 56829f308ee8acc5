-- What a frame's value rests on.
use Rattle.std.proofs.Common.{◌≡◌, ℕ, List, Bool, true, false, cond, Option, None, refl}
use Rattle.std.specs.Str.{IsUtf8, is_utf8}
use Rattle.std.proofs.lemmas.Str.{IsUtf8-from_is_utf8, is_utf8-from_IsUtf8}
use Rattle.serde_json.specs.Data.{Data}
use Rattle.serde_json.specs.Read.{read}
use Rattle.jup_wire.specs.Json.{json_of}

pub json_of-utf8 : (frame : List ℕ) → IsUtf8 frame → json_of frame ≡ read frame
unfolding json_of
json_of-utf8 frame utf8 = rw (is_utf8-from_IsUtf8 frame utf8) refl

none_by : (b : Bool) (value : Option Data) → (b ≡ true → value ≡ None) → cond b value None ≡ None
none_by true value h = h refl
none_by false value h = refl

pub json_of-refused : (frame : List ℕ) → (IsUtf8 frame → read frame ≡ None) → json_of frame ≡ None
unfolding json_of
json_of-refused frame h = none_by (is_utf8 frame) (read frame) (λ e. h (IsUtf8-from_is_utf8 frame e))
