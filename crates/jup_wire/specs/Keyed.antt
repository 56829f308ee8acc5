-- A keyed hasher, by the text that it has taken in.
use Rattle.std.specs.Prelude.{◌++◌}
use Rattle.base_text.specs.Bytes.{Bytes}
use Rattle.sha2.specs.Hashers.{Holds256}
use Rattle.jup_wire.specs.Signature.{block_of, xor_each}
use Rattle.jup_wire.specs.declared.signature.Hmac.{Hmac}

-- under the key it has taken in the text
pub record HasTaken (h : Hmac) (key text : Bytes) : Type 0 where
  pub inner : Holds256 h.inner (xor_each 0x36 (block_of key) ++ text)
  pub outer : Holds256 h.outer (xor_each 0x5c (block_of key))
