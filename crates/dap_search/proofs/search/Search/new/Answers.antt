use Rattle.std.proofs.Common.{refl, subst}
use Rattle.lab_core.specs.Labs.{RepresentsBoard}
use Rattle.dap_history.specs.Runs.{board_at}
use Rattle.dap_history.proofs.HistoryLemmas.{same_moment}
use Rattle.dap_search.proofs.SearchLemmas.{held_there}
use Rattle.dap_search.proofs.search.Search.new.Goals as goal

pub returns-clause-ok : goal.returns-clause-ok
returns-clause-ok c = λ start now log represents run.
    let begun = c.in_ok-scan.ensures.seen start now log represents in (
      record {
        scan = begun.seen;
        window = begun.window;
        within = c.in_ok-scan.ensures.within;
        count = refl;
        here = tt;
        home = same_moment c.in_ok-home.home now (board_at start log c.args.count)
            (c.in_ok-home.ensures now represents) run.machine run.past run.trace;
      },
      subst (λ b. RepresentsBoard c.hold.new.self b) (held_there (board_at start log c.args.count) now run)
          (c.hold.ensures now represents),
    )
