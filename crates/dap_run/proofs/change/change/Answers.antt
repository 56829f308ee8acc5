use Rattle.std.proofs.Common.{◌∙◌, sym}
use Rattle.std.proofs.lemmas.Bool.{false≢true}
use Rattle.dap_run.proofs.ChangeLemmas.{changed_so}
use Rattle.dap_run.proofs.change.change.Goals as goal

pub returns-clause-ok : goal.returns-clause-ok
returns-clause-ok c =
    changed_so c.args.event c.args.lab.now c.apply-answer.new.self c.apply-answer.result
    c.apply-answer.ensures.given
    (λ want. false≢true (sym c.if-is_out_of_memory.false ∙ c.is_out_of_memory.ensures.lack want))
