use Rattle.std.proofs.Common.{◌≡◌, map, drop}
use Rattle.std.specs.Char.{to_ascii_uppercase}
use Rattle.std.specs.Map.{lookup}
use Rattle.std.specs.Str.{bytes_eq}
use Rattle.asm_syntax.proofs.keyword.found_in.Given as goal

abbrev pub invariant-loop-text : goal.invariant-loop-text
invariant-loop-text l =
    lookup (bytes_eq (map to_ascii_uppercase l.word)) (map (λ e. (e.0.now, e.1)) (drop l.text-index l.table))
    ≡ lookup (bytes_eq (map to_ascii_uppercase l.word)) (map (λ e. (e.0.now, e.1)) l.table)
