use Rattle.std.proofs.Common.{take}
use Rattle.dap_scopes.specs.Completions.{Completes, symbol_completions}
use Rattle.dap_scopes.proofs.completion.push_symbols.Given as goal

abbrev pub invariant-loop-index : goal.invariant-loop-index
invariant-loop-index l = Completes l.word (symbol_completions (take l.index l.symbols)) l.fn.items l.items
