use Rattle.std.proofs.Common.{string_bytes}
use Rattle.cli_run.specs.Computer.{Computer}
use Rattle.cli_run.specs.Runner.{RepresentsComputer}
use Rattle.cli_run.proofs.RunLemmas.{HasPrinted}
use Rattle.cli_run.proofs.runner.Runner.print_run.Given as goal

-- whatever board the runner represented, so many steps of it were done and printed
abbrev pub invariant-loop : goal.invariant-loop
invariant-loop l =
    (start : Computer) → RepresentsComputer l.fn.self start
    → HasPrinted l.limit start l.counter l.self (string_bytes l.fn.text) (string_bytes l.text)
