use Rattle.std.proofs.Common.{sym, subst}
use Rattle.dap_record.specs.Represents.{RepresentsRecorded}
use Rattle.dap_debugger.proofs.ConversationLemmas.{goes_on_with, disconnects, fails_with}
use Rattle.dap_debugger.proofs.conversation.round.Goals as goal

pub returns-in-Err-write_messages-clause-err : goal.returns-in-Err-write_messages-clause-err
returns-in-Err-write_messages-clause-err g c = λ start h.
    fails_with _ start _ _ _ _ _ (c.in-Ok.ensures.ok start _ h) c.in-Err-write_messages.ensures.err

pub returns-then-has_ended-clause-err : goal.returns-then-has_ended-clause-err
returns-then-has_ended-clause-err g c = λ start h.
    disconnects _ start _ _ _ _ c.has_ended.result
    (c.in-Ok.ensures.ok start _ h) c.in-Ok-write_messages.ensures.ok
    (λ s r. c.has_ended.ensures s (subst (λ v. RepresentsRecorded v s) (sym c.session.ensures) r))
    c.if-has_ended.true

pub returns-clause-ok : goal.returns-clause-ok
returns-clause-ok g c = λ start h.
    goes_on_with _ start _ _ _ _ c.has_ended.result
    (c.in-Ok.ensures.ok start _ h) c.in-Ok-write_messages.ensures.ok
    (λ s r. c.has_ended.ensures s (subst (λ v. RepresentsRecorded v s) (sym c.session.ensures) r))
    c.if-has_ended.false
