use Rattle.dap_search.proofs.search.Search.enter.Goals as goal

pub returns-in_err-run_to-clause-rest : goal.returns-in_err-run_to-clause-rest
returns-in_err-run_to-clause-rest c = λ start now target n history search represents.
    c.run_to.ensures.rest start now history represents

pub returns-in_default-clause-rest : goal.returns-in_default-clause-rest
returns-in_default-clause-rest c = λ start now target n history search represents.
    c.run_to.ensures.rest start now history represents
