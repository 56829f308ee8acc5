-- Bytes that pass a test, and what follows them.
use Rattle.std.specs.Prelude.{◌≡◌, ℕ, ◌<◌, Bool, true, false, [], ◌∷◌, ◌++◌, length}
use Rattle.std.specs.List.{list_all}
use Rattle.dap_stream.specs.Wire.{Bytes}
use Rattle.dap_stream.specs.Header.{is_name_byte, is_value_byte}
use Rattle.dap_stream.specs.declared.span.Kind.{Kind}
use Rattle.dap_stream.specs.declared.span.Kind.TheVariants.{Name, Value}

-- whether a byte is of this kind
abbrev pub is_of : Kind → ℕ → Bool
is_of Name = is_name_byte
is_of Value = is_value_byte

-- the first byte doesn't pass
abbrev pub StopsAt : (ℕ → Bool) → Bytes → Type 0
StopsAt passes [] = Unit {0}
StopsAt passes (byte ∷ bytes) = passes byte ≡ false

-- the longest front of the bytes that pass, and the others
pub record IsSplit (passes : ℕ → Bool) (bytes front others : Bytes) : Type 0 where
  pub spelled : bytes ≡ front ++ others
  pub front_is : list_all passes front ≡ true
  pub stops : StopsAt passes others

-- the name of a field
pub record IsName (name : Bytes) : Type 0 where
  pub some : 0 < length name
  pub name_is : list_all is_name_byte name ≡ true
