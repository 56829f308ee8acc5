use Rattle.std.proofs.Common.{◌≡◌, ◌++◌, ◌∙◌, ap}
use Rattle.dap_debugger.specs.Sending.{after_messages, sent_bytes, concat_messages}
use Rattle.dap_debugger.specs.Debuggers.{DebuggerState}
use Rattle.dap_debugger.proofs.DebuggerLemmas.{past_sent}
use Rattle.dap_debugger.proofs.debugger.Debugger.send.Goals as goal

pub returns-clause-ok : goal.returns-clause-ok
returns-clause-ok c inputs bytes past =
    let old = c.args.self.now in
    let from = c.self.inside.progress in
    let from_is = ap (λ (d : DebuggerState). d.progress) c.self.view_is in
    let told_is : concat_messages c.deref.result.now ≡ old.told =
    ap concat_messages c.deref.ensures.value ∙ ap (λ (d : DebuggerState). d.told) c.self.view_is in
    past_sent old _ inputs bytes c.from.result past (ap (λ (d : DebuggerState). d.session) c.self.view_is)
    (ap concat_messages c.clear.ensures.items)
    (c.in_ok-self-inside.ensures.progress
    ∙ (ap (after_messages from) told_is ∙ ap (λ p. after_messages p old.told) from_is))
    (c.from.ensures ∙ (c.in_ok-self-inside.ensures.bytes
    ∙ (ap (λ l. l ++ sent_bytes from (concat_messages c.deref.result.now)) c.new-out.ensures.items
    ∙ (ap (sent_bytes from) told_is ∙ ap (λ p. sent_bytes p old.told) from_is))))
