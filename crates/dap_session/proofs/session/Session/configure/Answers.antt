use Rattle.std.proofs.Common.{true, ap}
use Rattle.dap_session.specs.Represents.{SessionFields}
use Rattle.dap_session.proofs.SessionLemmas.{replies_configured}
use Rattle.dap_session.proofs.session.Session.configure.Goals as goal

pub returns : goal.returns
returns c = (
  λ s represents.
      replies_configured s _ _ _ (c.in_ok-reply.ensures.0 s represents)
      (ap (λ (v : SessionFields). record v { settings = record v.settings { is_configured = true } })
      c.self.view_is),
  tt,
)
