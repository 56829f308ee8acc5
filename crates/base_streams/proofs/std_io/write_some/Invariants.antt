use Rattle.std.specs.Io.KnownBytes.{Keeps}
use Rattle.base_streams.proofs.std_io.write_some.Given as goal

-- what was taken is as it was
abbrev pub invariant-loop : goal.invariant-loop
invariant-loop g l = Keeps (g.W.Write.contents l.fn.writer) (g.W.Write.contents l.writer)
