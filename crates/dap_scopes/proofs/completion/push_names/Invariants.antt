use Rattle.std.proofs.Common.{map, take}
use Rattle.dap_scopes.specs.Completions.{Completes, completion_named}
use Rattle.dap_scopes.proofs.completion.push_names.Given as goal

abbrev pub invariant-loop-name : goal.invariant-loop-name
invariant-loop-name l =
    Completes l.word (map (λ name. completion_named l.front l.kind name.now) (take l.name-index l.names))
    l.fn.items l.items
