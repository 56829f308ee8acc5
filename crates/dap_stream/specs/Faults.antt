-- What is wrong with a header, at the first byte with which it can't go on.
use Rattle.std.specs.Prelude.{◌≡◌, ℕ, ◌<◌, List, [], ◌∷◌, ◌++◌, length}
use Rattle.dap_stream.specs.Wire.{Bytes}
use Rattle.dap_stream.specs.Header.{Field, IsHeader, lengths, IsLength, IsAllowed, SaysOnce, IsHeaderOf}
use Rattle.dap_stream.specs.declared.fault.StreamFault.{StreamFault}
use Rattle.dap_stream.specs.declared.fault.StreamFault.TheVariants as fault

-- some header of which this holds begins with these bytes
pub record CanBe (demand : List Bytes → Type 0) (bytes : Bytes) : Type 0 where
  pub more : Bytes
  pub fields : List Field
  pub header : IsHeader (bytes ++ more) fields
  pub met : demand (lengths fields)

-- What is asked of the values of Content-Length in a header, each more than the one before. Nothing is asked.
abbrev pub Any : List Bytes → Type 0
Any values = Unit {0}

-- there is one at most, of which this holds
abbrev pub AtMostOne : (Bytes → Type 0) → List Bytes → Type 0
AtMostOne holds [] = Unit {0}
AtMostOne holds (value ∷ []) = holds value
AtMostOne holds (value ∷ other ∷ values) = ⊥

abbrev pub Single : List Bytes → Type 0
Single = AtMostOne (λ value. Unit {0})

abbrev pub IsNumber : Bytes → Type 0
IsNumber value = (size : ℕ) × IsLength value size

abbrev pub Numbered : List Bytes → Type 0
Numbered = AtMostOne IsNumber

abbrev pub Small : List Bytes → Type 0
Small = AtMostOne (λ value. (size : ℕ) × IsAllowed value size)

-- there is one
abbrev pub Sized : List Bytes → Type 0
Sized values = (size : ℕ) × SaysOnce values size

-- a header begins with these bytes, and isn't whole
pub record Begins (bytes : Bytes) : Type 0 where
  pub more : Bytes
  pub size : ℕ
  pub some : 0 < length more
  pub whole : IsHeaderOf (bytes ++ more) size

-- what no header has that begins with these bytes, where some have what is asked before that
pub data Lacks (bytes : Bytes) (c : StreamFault) : Type 0 where
  NoHeader : c ≡ fault.HeaderLine → (CanBe Any bytes → ⊥) → Lacks bytes c
  Twice : c ≡ fault.SecondLength → CanBe Any bytes → (CanBe Single bytes → ⊥) → Lacks bytes c
  NoNumber : c ≡ fault.LengthValue → CanBe Single bytes → (CanBe Numbered bytes → ⊥) → Lacks bytes c
  TooLarge : c ≡ fault.BodySize → CanBe Numbered bytes → (CanBe Small bytes → ⊥) → Lacks bytes c
  Missing : c ≡ fault.NoLength → CanBe Small bytes → (CanBe Sized bytes → ⊥) → Lacks bytes c

-- a header begins with the bytes in front, and none with this byte too
pub record BreaksHeader (front : Bytes) (byte : ℕ) (c : StreamFault) : Type 0 where
  pub begins : Begins front
  pub lacks : Lacks (front ++ byte ∷ []) c
