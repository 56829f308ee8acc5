use Rattle.dap_debugger.specs.Conversations.{ports, HasConversed}
use Rattle.dap_debugger.proofs.conversation.converse.Given as goal

abbrev pub invariant-loop : goal.invariant-loop
invariant-loop g l = record {
  conversed : HasConversed (g.F.ProgramFiles.known l.files)
      (ports (g.S.BodySource.given l.fn.source) (g.W.Outlet.state l.fn.outlet))
      (ports (g.S.BodySource.given l.source) (g.W.Outlet.state l.outlet)) l.debugger;
}
