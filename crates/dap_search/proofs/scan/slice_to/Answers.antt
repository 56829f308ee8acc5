use Rattle.dap_search.proofs.FindLemmas.{slice_to_changes}
use Rattle.dap_search.proofs.scan.slice_to.Goals as goal

pub returns-clause-rest : goal.returns-clause-rest
returns-clause-rest c =
    slice_to_changes c.args.marks.now _ c.args.lab.now c.slice_to-answer.new.self c.args.n
    c.slice_to-answer.result c.slice_to-answer.ensures.applied c.slice_to-answer.ensures.err
