use Rattle.cli_run.specs.Computer.{Computer}
use Rattle.cli_run.specs.Runner.{RepresentsComputer}
use Rattle.cli_run.proofs.RunLemmas.{IsAt}
use Rattle.cli_run.proofs.runner.Runner.run.Given as goal

-- whatever board the runner represented, so many steps of it were done
abbrev pub invariant-loop-done : goal.invariant-loop-done
invariant-loop-done l = (start : Computer) → RepresentsComputer l.fn.self start
    → IsAt l.limit start l._done l.self
