use Rattle.std.proofs.Common.{◌∙◌, ap, sym, subst}
use Rattle.dap_history.specs.Logs.{Ascends, later_than}
use Rattle.dap_history.proofs.LogLemmas.{ascends_from, all_later_than, skipped}
use Rattle.dap_history.proofs.log.later.Goals as goal

pub loop-first-preserved : goal.loop-first-preserved
loop-first-preserved c =
    let inv = c.loop-first.invariant in
    let is = c.in-Some.ensures.cases.0 in
    let asc = subst (λ xs. Ascends 0 xs) is inv.ascends in
    record {
      same = sym (skipped c.args.count c.in-Some.first.now c.in-Some.later.now c.if-first-count.false)
          ∙ ap (later_than c.args.count) (sym is) ∙ inv.same;
      ascends = ascends_from 0 c.in-Some.first.now.count c.in-Some.later.now asc.0 asc.1;
    }

pub returns-then-first-count : goal.returns-then-first-count
returns-then-first-count c =
    let inv = c.loop-first.invariant in
    let is = c.in-Some.ensures.cases.0 in
    let asc = subst (λ xs. Ascends 0 xs) is inv.ascends in
    let all =
    all_later_than c.args.count c.in-Some.first.now c.in-Some.later.now asc c.if-first-count.true in
    is ∙ sym all ∙ ap (later_than c.args.count) (sym is) ∙ inv.same
