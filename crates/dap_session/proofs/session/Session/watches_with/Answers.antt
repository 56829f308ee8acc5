use Rattle.std.proofs.Common.{◌≡◌, ap, subst, sym}
use Rattle.dap_breakpoints.specs.Arming.{ProgramLists, lists_in}
use Rattle.dap_session.specs.Breakpoints.{data_list, data_wanted}
use Rattle.dap_session.specs.Represents.{SessionFields, RepresentsSession}
use Rattle.dap_session.proofs.ArmLemmas.{wanted_found}
use Rattle.dap_session.proofs.session.Session.watches_with.Goals as goal

pub returns-in_ok-points-in-Some : goal.returns-in_ok-points-in-Some
returns-in_ok-points-in-Some c = λ s represents.
    let on_data = c.args.on_data.now in
    let program = c.in-Some.program in
    let Q : SessionFields → Type 0 = λ v. RepresentsSession v s in
    let viewed = subst Q (sym c.self.view_is) represents in
    let lists : ProgramLists = record (lists_in c.wanted_of.result) { on_data = on_data } in
    let are : lists ≡ data_wanted on_data c.self.inside.settings.points program =
    ap (λ (w : ProgramLists). record w { on_data = on_data }) c.wanted_of.ensures.lists in
    wanted_found (data_list on_data) c.in_ok-points-in-Some.points _ program lists s viewed c.in-Some.is are
    (c.in_ok-points-in-Some.ensures s.board viewed.board)
