use Rattle.std.proofs.Common.{◌∙◌, IfOk, sym, subst}
use Rattle.dap_record.specs.Represents.{RepresentsRecordingIf}
use Rattle.dap_record.proofs.RequestLemmas.{kept_so}
use Rattle.dap_record.proofs.note.record_while.Goals as goal

pub returns-then-can_go_back : goal.returns-then-can_go_back
returns-then-can_go_back c = λ r before s represents recording came.
    let can = sym (c.can_go_back.ensures s represents) ∙ c.if-can_go_back.true in
    subst (λ o. IfOk c.record.result (λ after. RepresentsRecordingIf after o s)) (sym (kept_so s _ can))
    (c.record.ensures r before s recording came can)
