use Rattle.std.proofs.Common.{◌∙◌, ◌+◌, ap, arith}
use Rattle.dap_history.specs.Logs.{Ascends, later_than}
use Rattle.dap_history.proofs.LogLemmas.{ascends_from}
use Rattle.dap_history.proofs.ReplayLemmas.{in_turn}
use Rattle.dap_search.proofs.FindLemmas.{ascends-later_than, later_later}
use Rattle.dap_search.proofs.scan.Scan.go_to.Goals as goal

pub turn-requires-clause-later : goal.turn-requires-clause-later
turn-requires-clause-later c =
    rw c.loop-self.invariant.rest
    (ascends-later_than c.loop-self.self.at 0 c.args.log.now c.requires.ascends)

pub later-rest-requires-in-loop-self : goal.later-rest-requires-in-loop-self
later-rest-requires-in-loop-self c =
    let at = c.loop-self.self.at in
    let later : Ascends (at + 1) c.loop-self.rest.now =
    rw c.loop-self.invariant.rest (ascends-later_than at 0 c.args.log.now c.requires.ascends) in
    ascends_from 0 (at + 1) c.loop-self.rest.now (omega arith) later

pub loop-self-preserved : goal.loop-self-preserved
loop-self-preserved c =
    let inv = c.loop-self.invariant in
    let log = c.args.log.now in
    let on = c.in_ok-turn.ensures.at.0 in
    record {
      rest = c.later-rest-in-loop-self.ensures ∙ ap (later_than c.turn.new.self.at) inv.rest
          ∙ later_later c.turn.new.self.at c.loop-self.self.at log (omega (arith, on));
      within = c.in_ok-turn.ensures.at.1;
      scans = λ start now target low points scan.
          c.in_ok-turn.ensures.ok start now log target low c.requires.ascends inv.rest points
          (inv.scans start now target low points scan);
      kind = c.turn.ensures.kind ∙ inv.kind;
      changes = in_turn _ _ _ inv.changes c.turn.ensures.rest;
    }
