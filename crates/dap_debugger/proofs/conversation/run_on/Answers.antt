use Rattle.std.proofs.Common.{◌∙◌, sym, subst}
use Rattle.dap_record.specs.Recordings.{recorded_before_requests}
use Rattle.dap_record.specs.Represents.{RepresentsRecorded}
use Rattle.dap_record.specs.Slices.{play_all}
use Rattle.dap_debugger.proofs.ConversationLemmas.{past_quiet}
use Rattle.dap_debugger.proofs.conversation.run_on.Goals as goal

pub returns-else-wants_slice : goal.returns-else-wants_slice
returns-else-wants_slice c = λ inputs bytes p.
    let s = (play_all inputs recorded_before_requests).state in
    past_quiet _ inputs bytes p
    (sym (c.wants_slice.ensures s (subst (λ v. RepresentsRecorded v s) (sym c.session.ensures) p.session))
    ∙ c.if-wants_slice.false)
