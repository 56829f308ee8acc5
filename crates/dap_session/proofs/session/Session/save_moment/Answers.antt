use Rattle.std.proofs.Common.{ap}
use Rattle.dap_session.specs.Represents.{SessionFields}
use Rattle.dap_session.proofs.SearchLemmas.{history_kept}
use Rattle.dap_session.proofs.session.Session.save_moment.Goals as goal

pub returns : goal.returns
returns c = λ start history at.
    history_kept start c.args.count c.args.self.now c.self.inside.lab c.args.history.now _
    c.save_if_due-saved.result (ap (λ (v : SessionFields). v.lab) c.self.view_is) history at
    (c.save_if_due-saved.ensures.history start history)
    c.save_if_due-saved.ensures.ok c.save_if_due-saved.ensures.err
