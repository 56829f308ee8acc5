use Rattle.std.proofs.Common.{◌∷◌, [], List, ℕ, take}
use Rattle.std.proofs.lemmas.List.{map-append}
use Rattle.asm_build.specs.declared.symbols.Symbol.{Symbol}
use Rattle.dap_messages.specs.declared.message.CompletionKind.TheVariants as kind
use Rattle.dap_scopes.specs.Completions.{completion_named, symbol_completions}
use Rattle.dap_scopes.proofs.CompletionLemmas.{completes_both}
use Rattle.dap_scopes.proofs.ListLemmas.{one_taken}
use Rattle.dap_scopes.proofs.completion.push_symbols.Goals as goal

pub loop-index-preserved : goal.loop-index-preserved
loop-index-preserved c =
    let before = take c.loop-index.index c.args.symbols.now in
    let e : List ℕ × Symbol = (c.symbol_at.result.0.now, c.symbol_at.result.1) in
    rw (
      one_taken c.args.symbols.now c.loop-index.index e c.symbol_at.ensures,
      map-append (λ (e : List ℕ × Symbol). completion_named [] kind.Symbol e.0) before (e ∷ []),
    )
    (completes_both c.args.word.now (symbol_completions before) _ _ _ _ c.loop-index.invariant
    c.in_ok-push_name.ensures)
