use Rattle.std.proofs.Common.{◌≡◌, ◌∙◌, ◌<◌, refl, sym, ap, subst, arith}
use Rattle.std.proofs.lemmas.Bool.Decides.{nat_tests}
use Rattle.dap_search.specs.declared.goal.Goal.{Goal}
use Rattle.dap_search.specs.Goals.{Target, goal_below}
use Rattle.dap_search.specs.Scans.{HasScanned}
use Rattle.dap_search.specs.Searches.{IsWindowOf}
use Rattle.dap_search.proofs.SearchLemmas.{last_count, recount_window}
use Rattle.dap_search.proofs.search.first_scan.Goals as goal
use Rattle.dap_search.proofs.search.first_scan.Goals.{in_default-via-in-Statement-1}
use Rattle.dap_search.proofs.search.first_scan.Goals.{in_default-via-in-Count+else-from-count}

pub returns-clause-seen : goal.returns-clause-seen
returns-clause-seen c = λ start now log represents.
    let ps = c.args.points.now in
    let n = c.args.count in
    let from = c.in-Count.from in
    let scan = c.in_ok-recount.recount in
    let begun = c.in_ok-recount.ensures in
    let test = c.if-from-count.true in
    let below : from < n = grind (arith, nat_tests) in
    let target : Target = record { goal = c.args.goal; points = ps } in
    let leads : goal_below target start log now n ≡ from =
    ap (λ (g : Goal). goal_below (record { goal = g; points = ps }) start log now n) c.in-Count.is
    ∙ last_count from n below in
    record {
      seen = subst (λ i. HasScanned start log now target i scan) (sym begun.phase.0)
          (begun.seen start now log target refl);
      window = recount_window start now log target n scan.at n scan.phase begun.phase.1
          (begun.phase.0 ∙ sym leads) refl;
    }

pub returns-2-clause-seen : goal.returns-2-clause-seen
returns-2-clause-seen c = λ start now log represents.
    let ps = c.args.points.now in
    let n = c.args.count in
    let scan = c.in_ok-scan.scan in
    let begun = c.in_ok-scan.ensures in
    let target : Target = record { goal = c.args.goal; points = ps } in
    let is : c.in_default.goal ≡ c.args.goal = elim c.in_default.branch [
      | in_default-via-in-Statement-1 w ↦ w.goal-is
      | in_default-via-in-Count+else-from-count w ↦ w.goal-is ∙ sym w.in-Count.is
    ] in
    let seen = subst (λ (g : Goal). HasScanned start log now (record { goal = g; points = ps })
    c.saturating_sub.result scan) is (begun.seen start now log represents) in
    record {
      seen = subst (λ i. HasScanned start log now target i scan) (sym begun.phase.0) seen;
      window = subst (λ p. IsWindowOf start log now target n p scan.at n) (sym begun.phase.1) refl;
    }
