use Rattle.dap_search.proofs.SearchLemmas.{recounts}
use Rattle.dap_search.proofs.search.Search.begin_recount.Goals as goal

pub returns : goal.returns
returns c = λ start now log target n points entered found search.
    recounts start now log target n c.args.found _ c.in_ok-scan.scan (rw (← c.self.view_is) at entered)
    found c.in_ok-scan.ensures.phase.0 c.in_ok-scan.ensures.phase.1
    (c.in_ok-scan.ensures.seen start now log target points) (rw (← c.self.view_is) at search)
