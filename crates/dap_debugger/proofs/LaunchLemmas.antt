use Rattle.std.proofs.Common.{◌≡◌, ℕ, Bool, true, false, List, None, ◌∙◌, sym, ap, subst, refl}
use Rattle.std.proofs.Common.{String, Global, Vec, IsUtf8}
use Rattle.std.specs.String.{string_vec, string_bytes}
use Rattle.std.specs.Str.{is_utf8}
use Rattle.std.proofs.lemmas.Str.{IsUtf8-from_is_utf8, is_utf8-from_IsUtf8, IsUtf8-string_bytes}
use Rattle.dap_launch.specs.declared.file.FileText.TheVariants as file
use Rattle.dap_debugger.specs.LaunchTexts.{file_as}

pub text_found : (t : String Global) (bytes : Vec ℕ Global) (text : List ℕ) → string_vec t ≡ bytes
    → text ≡ string_bytes t → file.Text text ≡ file_as None bytes.items
text_found t bytes text is text_is =
    let same : string_bytes t ≡ bytes.items = ap (λ (v : Vec ℕ Global). v.items) is in
    let utf8 : is_utf8 bytes.items ≡ true =
    is_utf8-from_IsUtf8 bytes.items (subst IsUtf8 same (IsUtf8-string_bytes t)) in
    ap (λ x. file.Text x) (text_is ∙ same) ∙ sym (rw utf8 refl)

no_text : (bytes : List ℕ) → (IsUtf8 bytes → false ≡ true) → is_utf8 bytes ≡ false
no_text bytes never = by (is_utf8 bytes) refl
  where
    by : (b : Bool) → is_utf8 bytes ≡ b → is_utf8 bytes ≡ false
    by false is = is
    by true is = let odd : false ≡ true = never (IsUtf8-from_is_utf8 bytes is) in cc

pub none_found : (bytes : List ℕ) → (IsUtf8 bytes → false ≡ true) → file.NotText ≡ file_as None bytes
none_found bytes never = sym (rw (no_text bytes never) refl)
