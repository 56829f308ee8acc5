-- Connection files (Jupyter messaging 5.4, "Connection files").
use Rattle.std.specs.Prelude.{
  ◌≡◌,
  ℕ,
  ◌&&◌,
  nat_le,
  if◌then◌else◌,
  Option,
  Some,
  None,
  codes,
  option_and_then,
}
use Rattle.std.specs.Str.{IsUtf8}
use Rattle.std.specs.Net.Grammar.{IsIpv4Text}
use Rattle.std.specs.declared.net.ipv4_addr.Ipv4Addr.{Ipv4Addr}
use Rattle.base_text.specs.Bytes.{Bytes, Text}
use Rattle.serde_json.specs.Data.{Data}
use Rattle.serde_json.specs.Read.{read}
use Rattle.serde_json.specs.Find.{get, as_number, as_u64, as_str}
use Rattle.jup_wire.specs.declared.connection_file.ConnectionFile.{ConnectionFile}
use Rattle.jup_wire.specs.declared.connection_file.FileFault.{FileFault}
use Rattle.jup_wire.specs.declared.connection_file.FileFault.TheVariants.{OutOfMemory, Json, Field}

-- The file is one JSON text (RFC 8259) with this value: in UTF-8, with arrays and objects nested at most 127
-- deep; of a key that comes twice the last value counts.
abbrev pub HasValue : Bytes → Data → Type 0
HasValue file d = IsUtf8 file × (read file ≡ Some d)

-- the file isn't such a text
abbrev pub HasNoValue : Bytes → Type 0
HasNoValue file = IsUtf8 file → read file ≡ None

-- the text that an object has at a key
abbrev pub text_at : Text → Data → Option Text
text_at key d = option_and_then as_str (get key d)

-- JSON's whole numbers are those written without fraction, exponent and minus sign
abbrev pub whole : Data → Option ℕ
whole d = option_and_then as_u64 (as_number d)

abbrev pub a_port : ℕ → Option ℕ
a_port n = if nat_le 1 n && nat_le n 65535 then Some n else None

-- the port that an object has at a key
abbrev pub port_at : Text → Data → Option ℕ
port_at key d = option_and_then a_port (option_and_then whole (get key d))

-- the object has, at `ip`, this address as four decimals without leading zeros
abbrev pub HasAddress : Data → Ipv4Addr → Type 0
HasAddress d ip = (text : Text) × (text_at (codes "ip") d ≡ Some text) × IsIpv4Text text ip

-- a connection file with these values
pub record IsConnectionFile (d : Data) (file : ConnectionFile) : Type 0 where
  pub transport : text_at (codes "transport") d ≡ Some (codes "tcp")
  pub scheme : text_at (codes "signature_scheme") d ≡ Some (codes "hmac-sha256")
  pub ip : HasAddress d file.ip
  pub key : text_at (codes "key") d ≡ Some file.key
  pub shell : port_at (codes "shell_port") d ≡ Some file.shell_port
  pub iopub : port_at (codes "iopub_port") d ≡ Some file.iopub_port
  pub stdin : port_at (codes "stdin_port") d ≡ Some file.stdin_port
  pub control : port_at (codes "control_port") d ≡ Some file.control_port
  pub heartbeat : port_at (codes "hb_port") d ≡ Some file.hb_port

-- the bytes read as a connection file with these values
abbrev pub ReadsAsFile : Bytes → ConnectionFile → Type 0
ReadsAsFile bytes file = (d : Data) × HasValue bytes d × IsConnectionFile d file

-- a value that isn't a connection file
abbrev pub IsNoFile : Data → Type 0
IsNoFile d = (file : ConnectionFile) → ¬ IsConnectionFile d file

-- why bytes aren't a connection file; memory may run out for any bytes
abbrev pub IsRefused : Bytes → FileFault → Type 0
IsRefused bytes OutOfMemory = Unit {0}
IsRefused bytes Json = HasNoValue bytes
IsRefused bytes Field = (d : Data) × HasValue bytes d × IsNoFile d

-- out of memory; or `Field`, and P
abbrev pub FieldFault : FileFault → Type 0 → Type 0
FieldFault OutOfMemory P = Unit {0}
FieldFault Json P = ⊥
FieldFault Field P = P

-- out of memory; or `Json`, and P
abbrev pub JsonFault : FileFault → Type 0 → Type 0
JsonFault OutOfMemory P = Unit {0}
JsonFault Json P = P
JsonFault Field P = ⊥
