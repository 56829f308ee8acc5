use Rattle.std.proofs.Common.{◌≡◌, ◌∙◌, List, Some, ap, subst, sym}
use Rattle.dap_requests.specs.declared.request.LineBreakpoint.{LineBreakpoint}
use Rattle.dap_breakpoints.specs.Arming.{ProgramLists, lists_in, program_lists}
use Rattle.dap_run.specs.Programs.{program_at}
use Rattle.dap_session.specs.Breakpoints.{lines_list, lines_wanted}
use Rattle.dap_session.specs.Represents.{SessionFields, RepresentsSession}
use Rattle.dap_session.proofs.ArmLemmas.{armed_found}
use Rattle.dap_session.proofs.session.Session.arm_lines.Goals as goal

pub returns-in_ok-points-in-Some-clause-ok : goal.returns-in_ok-points-in-Some-clause-ok
returns-in_ok-points-in-Some-clause-ok c = λ s represents.
    let settings = c.self.inside.settings in
    let l = c.args.source.now in
    let program = c.in-Some.program.now in
    let Q : SessionFields → Type 0 = λ v. RepresentsSession v s in
    let at : program_at l.path settings.program ≡ Some program =
    ap (λ path. program_at path settings.program) (sym c.as_str.ensures) ∙ sym c.in-Some.ensures in
    let lists : ProgramLists = record (lists_in c.wanted_of.result) { lines = c.used.result.now } in
    let are : lists ≡ lines_wanted l settings.points program =
    ap (λ (w : ProgramLists). record w { lines = c.used.result.now }) c.wanted_of.ensures.lists
    ∙ ap (λ (ls : List LineBreakpoint). record (program_lists program settings.points) { lines = ls })
    c.used.ensures.lines in
    armed_found (lines_list l) (program_at l.path) c.in_ok-points-in-Some.points _ c.arm_with.new.lab
    program lists s (subst Q (sym c.self.view_is) represents) at are c.in_ok-points-in-Some.ensures.ok
