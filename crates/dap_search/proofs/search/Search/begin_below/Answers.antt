use Rattle.dap_search.proofs.SearchLemmas.{below}
use Rattle.dap_search.proofs.search.Search.begin_below.Goals as goal

pub returns : goal.returns
returns c = λ start now log target n entered end none search.
    below start now log target n c.low_end-low.result _ (rw (← c.self.view_is) at entered)
    (rw (← c.self.view_is) at end) (rw (← c.self.view_is) at none) c.low_end-low.ensures
    (rw (← c.self.view_is) at search)
