-- What is written.
use Rattle.std.specs.Prelude.{ℕ, [], ◌∷◌, ◌++◌, length, codes}
use Rattle.std.specs.Fmt.{decimal}
use Rattle.dap_stream.specs.Wire.{Bytes, Bodies}
use Rattle.dap_stream.specs.Header.{line_end}

-- the header of a body of this size
abbrev pub header_bytes : ℕ → Bytes
header_bytes size = codes "Content-Length: " ++ (decimal size ++ (line_end ++ line_end))

-- a message: the length of its body in bytes, and the body
abbrev pub message_bytes : Bytes → Bytes
message_bytes body = header_bytes (length body) ++ body

-- messages of these bodies
abbrev pub bytes_of_messages : Bodies → Bytes
bytes_of_messages [] = []
bytes_of_messages (body ∷ bodies) = message_bytes body ++ bytes_of_messages bodies
