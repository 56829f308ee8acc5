use Rattle.std.proofs.Common.{◌∙◌, sym}
use Rattle.std.proofs.lemmas.Bool.{false≢true}
use Rattle.dap_history.proofs.ReplayLemmas.{event_left}
use Rattle.dap_history.proofs.replay.apply.Goals as goal

pub returns-clause-ok : goal.returns-clause-ok
returns-clause-ok c =
    event_left c.args.event c.args.lab.now c.apply-answer.new.self c.apply-answer.result
    c.apply-answer.ensures.given
    (λ out. false≢true (sym c.if-is_out_of_memory.false ∙ c.is_out_of_memory.ensures.1 out))
