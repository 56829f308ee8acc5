use Rattle.dap_debugger.proofs.ConversationLemmas.{answered_body, answered_nothing, ends_without_memory}
use Rattle.dap_debugger.proofs.conversation.answer_next.Goals as goal

pub returns-in-Ok-run_on-clause-ok : goal.returns-in-Ok-run_on-clause-ok
returns-in-Ok-run_on-clause-ok g c = λ start outlet h.
    answered_body _ start _ _ c.answer_body.new.debugger _ _ c.next.result c.in-Body.body _ h c.next.ensures
    c.in-Body.is c.as_slice.ensures c.in-Ok.ensures c.in-Ok-run_on.ensures

pub returns-in-Ok-clause-err : goal.returns-in-Ok-clause-err
returns-in-Ok-clause-err g c = λ start outlet h.
    ends_without_memory _ start _ _ _ c.next.result h c.next.ensures

pub returns-in-Body-clause-err : goal.returns-in-Body-clause-err
returns-in-Body-clause-err g c = λ start outlet h.
    ends_without_memory _ start _ _ _ c.next.result h c.next.ensures

pub returns-in-Ok-run_on-2-clause-ok : goal.returns-in-Ok-run_on-2-clause-ok
returns-in-Ok-run_on-2-clause-ok g c = λ start outlet h.
    answered_nothing _ start _ _ _ _ c.next.result h c.next.ensures c.in-Nothing.is c.in-Ok-run_on-2.ensures

pub returns-in-Nothing-clause-err : goal.returns-in-Nothing-clause-err
returns-in-Nothing-clause-err g c =
    λ start outlet h. ends_without_memory _ start _ _ _ c.next.result h c.next.ensures
