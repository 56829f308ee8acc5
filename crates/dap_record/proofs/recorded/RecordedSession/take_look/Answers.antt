use Rattle.std.proofs.Common.{sym, subst}
use Rattle.dap_session.specs.Slices.{caller_of}
use Rattle.dap_record.specs.Represents.{RepresentsRecorded}
use Rattle.dap_record.proofs.RecordedLemmas.{some_looked, told_looking}
use Rattle.dap_record.proofs.recorded.RecordedSession.take_look.Goals as goal

pub invariant_of-self : goal.invariant_of-self
invariant_of-self c =
    some_looked c.args.request.asked c.args.file (caller_of c.args.request) _ c.tell.new.self c.tell.result
    c.requires c.self.invariant c.tell.ensures

pub returns : goal.returns
returns c = λ v represents.
    told_looking c.args.request.asked c.args.file (caller_of c.args.request) v _ c.tell.new.self c.tell.result
    c.requires (subst (λ x. RepresentsRecorded x v) (sym c.self.view_is) represents) c.tell.ensures
