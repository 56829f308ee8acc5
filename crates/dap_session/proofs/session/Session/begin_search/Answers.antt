use Rattle.std.proofs.Common.{◌∙◌, ap}
use Rattle.dap_session.specs.Represents.{SessionFields}
use Rattle.dap_session.proofs.SearchLemmas.{board_in, begins_so}
use Rattle.dap_session.proofs.session.Session.begin_search.Goals as goal

pub invariant_of-self-2 : goal.invariant_of-self-2
invariant_of-self-2 c =
    let at = c.requires.2 in
    let board = board_in c.args.self.now at.s c.self.inside.lab
    (ap (λ (v : SessionFields). v.lab) c.self.view_is) at.represents in
    let searched =
    c.in_ok-search.ensures.ok c.requires.0 at.s.board c.requires.1.log board
    (record { machine = at.parts.machine; past = at.parts.past; trace = at.parts.trace }) in
    (_, searched.1)

pub returns : goal.returns
returns c = λ start log s represents parts.
    let view = c.self.view_is in
    let board = board_in c.args.self.now s c.self.inside.lab (ap (λ (v : SessionFields). v.lab) view)
    represents in
    let settings = ap (λ (v : SessionFields). v.settings) view ∙ represents.settings in
    begins_so c.args.goal start log c.args.count s c.in_ok-search.search c.release.new.self c.new.new.lab
    c.self.inside.settings c.release.ensures settings
    (c.in_ok-search.ensures.ok start s.board log board
    (record { machine = parts.machine; past = parts.past; trace = parts.trace }))
