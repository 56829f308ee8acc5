-- Parts of a message, and the texts in them.
use Rattle.std.proofs.Common.{◌≡◌, ℕ, List, false, refl, subst}
use Rattle.serde_json.specs.Data.{Data}
use Rattle.serde_json.specs.Written.{has_float, compact_text}
use Rattle.jup_wire.specs.declared.message.Parts.{Parts}
use Rattle.jup_wire.specs.Json.{IsTextOf}

-- parts are equal where each of the five is
pub same_parts : (p q : Parts) → p.identities ≡ q.identities → p.header ≡ q.header
    → p.parent_header ≡ q.parent_header → p.metadata ≡ q.metadata → p.content ≡ q.content → p ≡ q
same_parts p q i h r m c = rw (i, h, r, m, c) refl

-- what is written for a value without floats is its compact text
pub text_is : (frame : List ℕ) (written d : Data) → IsTextOf frame written → written ≡ d
    → has_float d ≡ false → frame ≡ compact_text d
text_is frame written d t is none = let u = subst (IsTextOf frame) is t in u.compact none
