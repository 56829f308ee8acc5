use Rattle.lab_core.proofs.GivenLemmas.{does_given, few_operations}
use Rattle.lab_core.proofs.lab.Lab.apply.Goals as goal

pub returns : goal.returns
returns c = record {
  applied = c.apply_one.ensures.applied;
  given =
      does_given c.args.self.now c.apply_one.new.self c.args.event.now c.apply_one.result
      c.apply_one.ensures.applied;
  few =
      few_operations c.args.self.now c.apply_one.new.self c.args.event.now c.apply_one.result
      c.apply_one.ensures.applied;
  err = c.apply_one.ensures.err;
  memory = c.apply_one.ensures.memory;
}
