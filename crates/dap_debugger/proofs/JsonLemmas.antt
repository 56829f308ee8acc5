-- What the value of a body rests on.
use Rattle.std.proofs.Common.{◌≡◌, ℕ, List, Bool, true, false, if◌then◌else◌, Option, None, refl}
use Rattle.std.specs.Str.{IsUtf8, is_utf8}
use Rattle.std.proofs.lemmas.Str.{IsUtf8-from_is_utf8, is_utf8-from_IsUtf8}
use Rattle.serde_json.specs.Data.{Data}
use Rattle.serde_json.specs.Read.{read}
use Rattle.dap_debugger.specs.Requests.{json_of}

pub json_of-utf8 : (body : List ℕ) → IsUtf8 body → json_of body ≡ read body
unfolding json_of
json_of-utf8 body utf8 = rw (is_utf8-from_IsUtf8 body utf8) refl

none_by : (b : Bool) (value : Option Data) → (b ≡ true → value ≡ None)
    → (if b then value else None) ≡ None
none_by true value h = h refl
none_by false value h = refl

pub json_of-refused : (body : List ℕ) → (IsUtf8 body → read body ≡ None) → json_of body ≡ None
unfolding json_of
json_of-refused body h = none_by (is_utf8 body) (read body) (λ e. h (IsUtf8-from_is_utf8 body e))
