use Rattle.std.proofs.Common.{◌∙◌, ◌∷◌, ◌++◌, [], ap, arith}
use Rattle.dap_history.specs.declared.input.Recorded.{Recorded}
use Rattle.dap_history.specs.Logs.{Ascends}
use Rattle.dap_history.proofs.LogLemmas.{ascends-push, log_size-push}
use Rattle.dap_history.proofs.log.Log.append.Goals as goal

pub invariant_of-self-2 : goal.invariant_of-self-2
invariant_of-self-2 c =
    let old = c.self.inside.entries.items in
    let r : Recorded = record { count = c.args.count; input = c.args.input } in
    let inv = c.self.invariant in
    let last = rw (← c.self.view_is) at c.requires in
    let asc : Ascends 0 (old ++ r ∷ []) = ascends-push 0 old r inv.0 last in
    let size = log_size-push old r in
    let kept = inv.1 in
    let most = inv.2 in
    let sum = c.saturating_add-size.ensures in
    let here = c.size_of.ensures in
    let items = c.push_reserved.ensures.items ∙ ap (λ xs. xs ++ r ∷ []) c.in_ok-reserve.ensures.items in
    let within = c.if-size-gt-LOG_LIMIT.false in
    rw items (asc, rw size (omega arith), omega arith)
