use Rattle.std.proofs.Common.{◌≡◌, ◌∙◌, ap, arith}
use Rattle.dap_history.specs.Logs.{up_to, log_size}
use Rattle.dap_history.proofs.LogLemmas.{ascends-up_to, latest-up_to, log_size-up_to}
use Rattle.dap_history.proofs.log.Log.forget_after.Goals as goal

pub size_of_all-self-inside-requires : goal.size_of_all-self-inside-requires
size_of_all-self-inside-requires c =
    let inv = c.self.invariant in
    let size = inv.1 in
    let most = inv.2 in
    let less = log_size-up_to c.args.count c.self.inside.entries.items in
    rw (c.as_slice.ensures.value, c.keep_up_to.ensures) (omega arith)

pub invariant_of-self : goal.invariant_of-self
invariant_of-self c =
    let inv = c.self.invariant in
    let size = inv.1 in
    let most = inv.2 in
    let less = log_size-up_to c.args.count c.self.inside.entries.items in
    let is : c.size_of_all-self-inside.result ≡ log_size (up_to c.args.count c.self.inside.entries.items) =
    c.size_of_all-self-inside.ensures ∙ ap log_size (c.as_slice.ensures.value ∙ c.keep_up_to.ensures) in
    rw c.keep_up_to.ensures (
      ascends-up_to c.args.count 0 c.self.inside.entries.items inv.0,
      is,
      omega arith,
    )

pub returns-clause-kept : goal.returns-clause-kept
returns-clause-kept c = c.keep_up_to.ensures ∙ ap (up_to c.args.count) c.self.view_is

pub returns-clause-latest : goal.returns-clause-latest
returns-clause-latest c =
    let inv = c.self.invariant in
    rw c.keep_up_to.ensures (latest-up_to c.args.count 0 c.self.inside.entries.items inv.0 (omega arith))
