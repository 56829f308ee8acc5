use Rattle.std.proofs.Common.{◌≡◌}
use Rattle.dap_board.proofs.EventLemmas.{does_with, unchanged_with}
use Rattle.dap_board.proofs.event.apply_for.Goals as goal

pub returns : goal.returns
returns c = rw c.body_if.ensures (
  does_with (λ _. c.args.body) c.args.event c.args.lab.now c.apply-answer.new.self c.apply-answer.result
      c.apply-answer.ensures.given,
  unchanged_with (λ _. c.args.body) (c.apply-answer.new.self ≡ c.args.lab.now) c.apply-answer.result
      c.apply-answer.ensures.err,
)
