use Rattle.std.proofs.Common.{refl, subst}
use Rattle.dap_session.specs.States.{SessionState}
use Rattle.dap_session.specs.Represents.{SessionFields, RepresentsSession}
use Rattle.dap_session.proofs.session.Session.represents_some.Goals as goal

pub returns : goal.returns
returns c =
    let s : SessionState = record { board = c.self.invariant.0; settings = c.self.inside.settings } in (
      s,
      subst (λ (v : SessionFields). RepresentsSession v s) c.self.view_is
          (record { board = c.self.invariant.1; settings = refl }),
    )
