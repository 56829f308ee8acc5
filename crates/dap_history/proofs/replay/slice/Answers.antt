use Rattle.dap_history.proofs.ReplayLemmas.{slice_changes}
use Rattle.dap_history.proofs.replay.slice.Goals as goal

pub returns-clause-rest : goal.returns-clause-rest
returns-clause-rest c =
    slice_changes c.args.lab.now c.apply-answer.new.self c.args.n c.apply-answer.result
    c.apply-answer.ensures.applied c.apply-answer.ensures.err
