-- Commands (RFC 23, "Commands" and "The NULL Security Mechanism"): a name, and in READY properties.
use Rattle.std.specs.Prelude.{◌≡◌, ◌<◌, if◌then◌else◌, true, Option, Some, None, List, [], ◌∷◌, ◌++◌}
use Rattle.std.specs.Prelude.{length, codes}
use Rattle.std.specs.Str.{str_eq_ignore_ascii_case}
use Rattle.zmtp_wire.specs.Wire.{Bytes}
use Rattle.zmtp_wire.specs.declared.fault.StreamFault.{StreamFault}
use Rattle.zmtp_wire.specs.declared.fault.StreamFault.TheVariants as fault
use Rattle.zmtp_wire.specs.declared.head.Stage.{Stage}
use Rattle.zmtp_wire.specs.declared.head.Stage.TheVariants.{Handshake, Traffic}
use Rattle.zmtp_wire.specs.declared.role.Role.{Role}
use Rattle.zmtp_wire.specs.Roles.{accepts}
use Rattle.zmtp_wire.specs.Framing.{number_from}

-- a name's length, one byte, the name, which isn't empty, and then the others
pub record IsNamed (bytes name others : Bytes) : Type 0 where
  pub some : 0 < length name
  pub spelled : bytes ≡ length name ∷ (name ++ others)

-- a name, four bytes that are the value's length, the value, and then the others
pub record IsProperty (bytes name value others : Bytes) : Type 0 where
  pub digits : Bytes
  pub named : IsNamed bytes name (digits ++ (value ++ others))
  pub four : length digits ≡ 4
  pub size : number_from 0 digits ≡ length value

-- a name and a value
pub record Property : Type 0 where
  pub name : Bytes
  pub value : Bytes

-- the property of this name and this value
abbrev pub property : Bytes → Bytes → Property
property name value = record { name = name; value = value }

-- nothing but properties
pub data IsProperties : Bytes → List Property → Type 0 where
  NoProperty : (bytes : Bytes) → bytes ≡ [] → IsProperties bytes []
  NextProperty : (bytes name value others : Bytes) (properties : List Property)
      → IsProperty bytes name value others
      → IsProperties others properties → IsProperties bytes (property name value ∷ properties)

-- the value of the first property of this name; upper and lower case of ASCII are one
abbrev pub value_of : Bytes → List Property → Option Bytes
value_of name [] = None
value_of name (p ∷ properties) =
    if str_eq_ignore_ascii_case p.name name then (Some p.value) else value_of name properties

-- the value that was found before, else the next
abbrev pub first_value : Option Bytes → Option Bytes → Option Bytes
first_value (Some value) next = Some value
first_value None next = next

-- nothing but properties, with these values of the two that are used
pub record Finds (bytes : Bytes) (socket_type identity : Option Bytes) : Type 0 where
  pub properties : List Property
  pub are : IsProperties bytes properties
  pub socket_type_is : socket_type ≡ value_of (codes "Socket-Type") properties
  pub identity_is : identity ≡ value_of (codes "Identity") properties

-- a READY with these properties
pub record IsReady (body : Bytes) (properties : List Property) : Type 0 where
  pub others : Bytes
  pub named : IsNamed body (codes "READY") others
  pub properties_are : IsProperties others properties

-- the socket type is present and fits the role
pub record Fits (role : Role) (properties : List Property) : Type 0 where
  pub socket_type : Bytes
  pub given : value_of (codes "Socket-Type") properties ≡ Some socket_type
  pub fits : accepts role socket_type ≡ true

-- a READY that is accepted, and its identity
pub record IsAccepted (role : Role) (body : Bytes) (identity : Option Bytes) : Type 0 where
  pub properties : List Property
  pub ready : IsReady body properties
  pub fits : Fits role properties
  pub identity_is : identity ≡ value_of (codes "Identity") properties

-- a command after READY that is skipped: its name can be read and isn't ERROR
pub record IsSkipped (body : Bytes) : Type 0 where
  pub name : Bytes
  pub others : Bytes
  pub named : IsNamed body name others
  pub harmless : name ≡ codes "ERROR" → ⊥

-- a READY whose socket type is missing or doesn't fit
pub record IsUnfit (role : Role) (body : Bytes) : Type 0 where
  pub properties : List Property
  pub ready : IsReady body properties
  pub unfit : Fits role properties → ⊥

-- why the content of a command is refused: the first command must be a READY with a socket type that fits,
-- and each later one must be skipped
pub data IsRefused (role : Role) (stage : Stage) (body : Bytes) (c : StreamFault) : Type 0 where
  NoReady : stage ≡ Handshake → c ≡ fault.Command
      → ((properties : List Property) → IsReady body properties → ⊥) → IsRefused role stage body c
  Unfit : stage ≡ Handshake → c ≡ fault.SocketType → IsUnfit role body → IsRefused role stage body c
  NotSkipped : stage ≡ Traffic → c ≡ fault.Command → (IsSkipped body → ⊥) → IsRefused role stage body c
