use Rattle.std.proofs.Common.{◌≡◌, ◌≤◌, length, string_bytes, take}
use Rattle.dap_scopes.specs.Symbols.{entries_with, text_with}
use Rattle.dap_scopes.proofs.symbols.text_with.Given as goal

abbrev pub invariant-loop-index : goal.invariant-loop-index
invariant-loop-index l =
    (string_bytes l.text ≡ text_with (take l.index l.symbols) l.part)
    × (l.count ≡ length (entries_with (take l.index l.symbols) l.part))
    × (l.count ≤ 256)
