use Rattle.std.proofs.Common.{◌≡◌, length, take}
use Rattle.lab_core.specs.Labs.{RunsOn}
use Rattle.lab_core.proofs.lab.Lab.run.Given as goal

abbrev pub invariant-loop-event : goal.invariant-loop-event
invariant-loop-event l = record {
  runs : RunsOn l.fn.self (take l.event-index l.events) l.answers.items l.self;
  count : length l.answers.items ≡ l.event-index;
}
