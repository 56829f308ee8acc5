use Rattle.std.proofs.Common.{◌≡◌, drop}
use Rattle.std.specs.Prelude.{fold}
use Rattle.asm_build.specs.Meaning.{with_symbol}
use Rattle.asm_build.proofs.symbols.Symbols.define_all.Given as goal

abbrev pub invariant-loop-index : goal.invariant-loop-index
invariant-loop-index l =
    fold (λ es e. with_symbol es e.0 e.1) l.self (drop l.index l.others)
    ≡ fold (λ es e. with_symbol es e.0 e.1) l.initial.self l.others
