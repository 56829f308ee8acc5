use Rattle.std.proofs.Common.{◌≡◌, ap, subst, sym}
use Rattle.dap_breakpoints.specs.Arming.{ProgramLists, lists_in}
use Rattle.dap_session.specs.Breakpoints.{instructions_list, instructions_wanted}
use Rattle.dap_session.specs.Represents.{SessionFields, RepresentsSession}
use Rattle.dap_session.proofs.ArmLemmas.{wanted_found}
use Rattle.dap_session.proofs.session.Session.breaks_with.Goals as goal

pub returns-in_ok-points-in-Some : goal.returns-in_ok-points-in-Some
returns-in_ok-points-in-Some c = λ s represents.
    let instructions = c.args.instructions.now in
    let program = c.in-Some.program in
    let Q : SessionFields → Type 0 = λ v. RepresentsSession v s in
    let viewed = subst Q (sym c.self.view_is) represents in
    let lists : ProgramLists = record (lists_in c.wanted_of.result) { instructions = instructions } in
    let kept = c.self.inside.settings.points in
    let are : lists ≡ instructions_wanted instructions kept program =
    ap (λ (w : ProgramLists). record w { instructions = instructions }) c.wanted_of.ensures.lists in
    wanted_found (instructions_list instructions) c.in_ok-points-in-Some.points _ program lists s viewed
    c.in-Some.is are (c.in_ok-points-in-Some.ensures s.board viewed.board)
