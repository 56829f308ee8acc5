use Rattle.std.proofs.Common.{◌≡◌, ◌∙◌, ◌≤◌, ◌+◌, ap, sym, subst, arith}
use Rattle.lab_core.specs.Slices.{after_steps}
use Rattle.dap_history.specs.Logs.{Ascends}
use Rattle.dap_history.specs.Runs.{board_at, at_from, detached_run, RunsDetached}
use Rattle.dap_search.specs.Scans.{after_test, CountsStep, stride_of}
use Rattle.dap_history.proofs.LogLemmas.{ascends_from}
use Rattle.dap_search.proofs.FindLemmas.{board_then}
use Rattle.dap_search.proofs.ScanLemmas.{seen_more}
use Rattle.dap_search.proofs.scan.Scan.turn.Goals as goal

pub returns-clause-ok : goal.returns-clause-ok
returns-clause-ok c = λ start now log target low asc is points scan.
    let m = c.args.self.now.at in
    let phase = c.args.self.now.phase in
    let rest = c.args.rest.now in
    let n = c.reach-n.result in
    let k = c.in_ok-k.k in
    let was = board_at start log m in
    let b = detached_run scan.runs.0 was now in
    let made = c.in_ok-k.ensures.ok scan.runs.0 was now scan.runs.1 in
    let most = c.in_ok-k.ensures.few.1 in
    let within = c.reach-n.ensures.some.1 in
    let stride_is = c.stride.ensures in
    let stride : n ≤ stride_of phase = omega (arith, within, stride_is) in
    let ahead : Ascends (m + k) rest =
    ascends_from (m + k) (m + n) rest (omega (arith, most)) c.reach-n.ensures.later in
    let from = c.from.ensures in
    let end : m + c.from.result ≡ m + k = omega (arith, from) in
    let tested =
    c.test.ensures.test b scan.runs.1 ∙ ap (λ ps. after_test ps b m phase) (sym points) in
    let counted =
    subst (λ ps. CountsStep ps c.advance.new.marks c.advance.new.lab c.test.new.self c.count.new.self)
    (sym points) c.count.ensures.step in
    let there = board_then start log rest m k asc is ahead in
    let reached : RunsDetached (at_from (m + k) (after_steps k was) rest (m + k)) now c.replay.new.lab =
    rw end at (c.in_ok-replay.ensures.ok (after_steps k was) now made.runs) in
    record {
      runs = rw end (subst (λ x. RunsDetached x now c.replay.new.lab) (sym there) reached);
      seen = rw end (seen_more start now log rest target low m n k phase c.test.new.self c.count.new.self
          c.args.self.now.marks c.advance.new.marks scan.runs.0 c.advance.new.lab asc is ahead
          c.in_ok-k.ensures.few.0 most stride made tested counted scan.seen);
    }
