use Rattle.std.specs.Io.KnownBytes.{Keeps}
use Rattle.base_streams.proofs.std_io.read_some.Given as goal

-- what is left is as it was
abbrev pub invariant-loop : goal.invariant-loop
invariant-loop g l = Keeps (g.R.Read.remaining l.fn.reader) (g.R.Read.remaining l.reader)
