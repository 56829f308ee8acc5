use Rattle.std.proofs.Common.{sym, subst}
use Rattle.dap_search.specs.Scans.{HasRecounted}
use Rattle.dap_search.proofs.ScanLemmas.{none_counted}
use Rattle.dap_search.proofs.scan.Scan.to_recount.Goals as goal

pub returns-clause-seen : goal.returns-clause-seen
returns-clause-seen c = λ start now log target points.
    let at = c.args.at in
    subst (λ ps. HasRecounted start log now ps at at c.in_ok-tally.tally c.in_ok-marks.marks) (sym points)
    (none_counted start now log c.args.points.now at c.in_ok-tally.tally c.in_ok-marks.marks
    c.in_ok-tally.ensures c.in_ok-marks.ensures)
