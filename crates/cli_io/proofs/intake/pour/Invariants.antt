use Rattle.std.proofs.Common.{◌≡◌}
use Rattle.cli_io.proofs.StreamLemmas.{HasRead}
use Rattle.cli_io.proofs.intake.pour.Given as goal

abbrev pub invariant-loop-reads : goal.invariant-loop-reads
invariant-loop-reads g l = record {
  good : (g.R.Inlet.state l.reader).failed ≡ (g.R.Inlet.state l.fn.reader).failed;
  limit : g.I.Intake.limit l.input ≡ g.I.Intake.limit l.fn.input;
  read : HasRead g.I.Intake.represents l.reads (g.R.Inlet.state l.fn.reader)
      (g.R.Inlet.state l.reader) l.input;
}
