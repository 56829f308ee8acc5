use Rattle.base_streams.specs.States.{IsReadable, IsWritable}
use Rattle.lab80_web.proofs.ServeLemmas.{Reached, served}
use Rattle.lab80_web.proofs.serve.serve.Given as goal

abbrev pub invariant-loop : goal.invariant-loop
invariant-loop g l = record {
  readable : IsReadable (g.I.Inlet.state l.from);
  writable : IsWritable (g.W.Outlet.state l.to);
  reached : Reached (g.I.Inlet.state l.fn.from) (g.I.Inlet.state l.from) (g.W.Outlet.state l.fn.to)
      (served l.decoder l.kernel (g.W.Outlet.state l.to)) l.counter;
}
