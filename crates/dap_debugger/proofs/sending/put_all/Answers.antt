use Rattle.std.proofs.Common.{◌≡◌, ◌++◌, ◌∙◌, ap, subst}
use Rattle.dap_debugger.specs.Sending.{after_messages, sent_bytes}
use Rattle.dap_debugger.proofs.SendingLemmas.{lists_more}
use Rattle.dap_debugger.proofs.sending.put_all.Goals as goal

pub loop-messages-preserved : goal.loop-messages-preserved
loop-messages-preserved c =
    let messages = c.in-Some.messages.now in
    let bytes : c.put_messages.new.out.items
    ≡ c.loop-messages.out.items ++ sent_bytes c.loop-messages.progress messages =
    subst (λ m. c.put_messages.new.out.items
    ≡ c.loop-messages.out.items ++ sent_bytes c.loop-messages.progress m)
    c.as_slice.ensures c.in_ok-progress.ensures.bytes in
    lists_more c.loop-messages.progress c.args.from c.in_ok-progress.progress messages
    c.loop-messages.rest.now
    c.in-Some.others.now c.args.lists.now c.loop-messages.out.items c.args.out.now.items
    c.put_messages.new.out.items c.in-Some.ensures.cases.0 (c.in_ok-progress.ensures.progress
    ∙ ap (after_messages c.loop-messages.progress) c.as_slice.ensures) bytes
    c.loop-messages.invariant
