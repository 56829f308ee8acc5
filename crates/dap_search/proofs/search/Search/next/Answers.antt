use Rattle.std.proofs.Common.{◌≡◌, ◌∙◌, true, ◌||◌, not, sym, ap}
use Rattle.dap_search.specs.Scans.{is_recount}
use Rattle.dap_search.specs.Searches.{counts_hits}
use Rattle.dap_search.proofs.SearchLemmas.{kept, found_is, all_found}
use Rattle.dap_search.proofs.search.Search.next.Goals as goal

pub returns-then-self-clause-ok : goal.returns-then-self-clause-ok
returns-then-self-clause-ok c = λ start now target n points way.
    let w = rw (← c.self.view_is) at way in
    kept start now c.args.history.now.log target n _ _ c.in_ok-here.here w (c.in_ok-here.ensures _ w.runs.1)

pub returns-then-is_last-clause-ok : goal.returns-then-is_last-clause-ok
returns-then-is_last-clause-ok c = λ start now target n points way.
    let w = rw (← c.self.view_is) at way in
    let recounts = is_recount c.self.inside.scan.phase in
    let last : (recounts || not (counts_hits target.points)) ≡ true =
    ap (λ ps. recounts || not (counts_hits ps)) points ∙ sym c.is_last.ensures ∙ c.if-is_last.true in
    rw (← c.self.view_is)
    (all_found start now c.args.history.now.log target n c.in-Some.found _ w.search c.if-self.false
    (sym c.found.ensures ∙ c.in-Some.is) last)

pub returns-clause-ok : goal.returns-clause-ok
returns-clause-ok c = λ start now target n points way.
    let w = rw (← c.self.view_is) at way in
    let log = c.args.history.now.log in
    let found = found_is start now log target n c.in-Some.found _ w.search c.if-self.false
    (sym c.found.ensures ∙ c.in-Some.is) in
    c.in_ok-begin_recount.ensures start now log target n points way.entered found way.search
