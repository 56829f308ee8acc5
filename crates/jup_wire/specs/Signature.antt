-- The signature of a message: HMAC (RFC 2104, section 2) with SHA-256, in lower-case hexadecimal.
use Rattle.std.specs.Prelude.{ℕ, ◌-◌, ◌++◌, length, map, replicate, bit_xor, nat_lt, if◌then◌else◌}
use Rattle.std.specs.List.{concat}
use Rattle.base_text.specs.Bytes.{Bytes, Frames}
use Rattle.sha2.specs.Sha256.{sha256}
use Rattle.hex.specs.Hex.{encode_lower}

-- a key and zeros, up to the 64 bytes of a block of SHA-256
abbrev pub zero_filled : Bytes → Bytes
zero_filled key = key ++ replicate (64 - length key) 0

-- the key as a block; a key that is longer than a block is hashed first
abbrev pub block_of : Bytes → Bytes
block_of key = zero_filled (if nat_lt 64 (length key) then sha256 key else key)

-- a block XOR a byte that is repeated
abbrev pub xor_each : ℕ → Bytes → Bytes
xor_each pad block = map (λ byte. bit_xor byte pad) block

-- H(K XOR opad, H(K XOR ipad, text))
abbrev pub hmac : Bytes → Bytes → Bytes
hmac key text = sha256 (xor_each 0x5c (block_of key) ++ sha256 (xor_each 0x36 (block_of key) ++ text))

-- over the frames, one after the other
unfoldable pub signature : Bytes → Frames → Bytes
signature key frames = encode_lower (hmac key (concat frames))
