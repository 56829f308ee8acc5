use Rattle.std.proofs.Common.{◌≡◌, ◌∷◌, take, string_bytes}
use Rattle.dap_answers.specs.Json.{spaced_bytes}
use Rattle.dap_answers.proofs.json.spaced_from.Given as goal

abbrev pub invariant-loop-byte : goal.invariant-loop-byte
invariant-loop-byte l = string_bytes l.text ≡ spaced_bytes (l.fn.first ∷ take l.byte-index l.others)
