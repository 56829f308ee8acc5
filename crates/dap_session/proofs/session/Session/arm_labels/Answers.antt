use Rattle.std.proofs.Common.{◌≡◌, ap, subst, sym}
use Rattle.dap_breakpoints.specs.Arming.{ProgramLists, lists_in}
use Rattle.dap_session.specs.Breakpoints.{labels_list, labels_wanted}
use Rattle.dap_session.specs.Represents.{SessionFields, RepresentsSession}
use Rattle.dap_session.proofs.ArmLemmas.{armed_found}
use Rattle.dap_session.proofs.session.Session.arm_labels.Goals as goal

pub returns-in_ok-points-in-Some-clause-ok : goal.returns-in_ok-points-in-Some-clause-ok
returns-in_ok-points-in-Some-clause-ok c = λ s represents.
    let functions = c.args.functions.now in
    let program = c.in-Some.program in
    let Q : SessionFields → Type 0 = λ v. RepresentsSession v s in
    let lists : ProgramLists = record (lists_in c.wanted_of.result) { functions = functions } in
    let are : lists ≡ labels_wanted functions c.self.inside.settings.points program =
    ap (λ (w : ProgramLists). record w { functions = functions }) c.wanted_of.ensures.lists in
    armed_found (labels_list functions) (λ o. o) c.in_ok-points-in-Some.points _ c.arm_with.new.lab program
    lists s (subst Q (sym c.self.view_is) represents) c.in-Some.is are c.in_ok-points-in-Some.ensures.ok
