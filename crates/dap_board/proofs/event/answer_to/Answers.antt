use Rattle.std.proofs.Common.{◌≡◌}
use Rattle.dap_board.specs.Bodies.{body_of}
use Rattle.dap_board.proofs.EventLemmas.{does_with, unchanged_with}
use Rattle.dap_board.proofs.event.answer_to.Goals as goal

pub returns : goal.returns
returns c = rw c.body_in.ensures (
  does_with body_of c.args.event c.args.lab.now c.apply-answer.new.self c.apply-answer.result
      c.apply-answer.ensures.given,
  unchanged_with body_of (c.apply-answer.new.self ≡ c.args.lab.now) c.apply-answer.result
      c.apply-answer.ensures.err,
)
