-- What the bytes after whole lines of a header say.
use Rattle.std.specs.Prelude.{◌≡◌, ℕ, ◌<◌, ◌≤◌, Option, Some, None, List, [], ◌∷◌, ◌++◌, length, take}
use Rattle.dap_stream.specs.Wire.{Bytes}
use Rattle.dap_stream.specs.Header.{line_end, Field, IsLines, lengths, SaysOnce, IsHeaderOf}
use Rattle.dap_stream.specs.Faults.{Begins, BreaksHeader}
use Rattle.dap_stream.specs.declared.fault.StreamFault.{StreamFault}
use Rattle.dap_stream.specs.Parsing.{Parse, Partial, Field as AField, Last, Broken}
use Rattle.dap_stream.specs.declared.header.Header.{Header}
use Rattle.dap_stream.specs.declared.header.Header.TheVariants as header

-- no Content-Length, or one that says this size
abbrev pub SaysSoFar : List Bytes → Option ℕ → Type 0
SaysSoFar values None = values ≡ []
SaysSoFar values (Some size) = SaysOnce values size

-- whole lines of a header, which may go on
pub record IsFront (lines : Bytes) (size : Option ℕ) : Type 0 where
  pub fields : List Field
  pub are : IsLines lines fields
  pub says : SaysSoFar (lengths fields) size

-- no header can go on with one of the bytes
pub record IsBroken (bytes : Bytes) (c : StreamFault) : Type 0 where
  pub front : Bytes
  pub byte : ℕ
  pub others : Bytes
  pub spelled : bytes ≡ front ++ byte ∷ others
  pub breaks : BreaksHeader front byte c

-- a line, and the others; with the line the lines say this size
pub record Passes (lines bytes others : Bytes) (size : Option ℕ) : Type 0 where
  pub line : Bytes
  pub some : 0 < length line
  pub spelled : bytes ≡ line ++ others
  pub after : IsFront (lines ++ line) size

-- the empty line, and the others; with it the lines are a header
pub record Ends (lines bytes others : Bytes) (size : ℕ) : Type 0 where
  pub spelled : bytes ≡ line_end ++ others
  pub header : IsHeaderOf (lines ++ line_end) size

-- what the bytes are that follow whole lines
abbrev pub LineSays : Bytes → Bytes → Parse → Type 0
LineSays lines bytes Partial = Begins (lines ++ bytes)
LineSays lines bytes (AField others size) = Passes lines bytes others size
LineSays lines bytes (Last others size) = Ends lines bytes others size
LineSays lines bytes (Broken c) = IsBroken (lines ++ bytes) c

-- what bytes say of a header of any size
abbrev pub LinesSay : Bytes → Header → Type 0
LinesSay bytes header.Begun = Begins bytes
LinesSay bytes (header.Whole count size) = (count ≤ length bytes) × IsHeaderOf (take count bytes) size
LinesSay bytes (header.Broken c) = IsBroken bytes c
