use Rattle.base_streams.specs.States.{IsWritable}
use Rattle.kern_core.specs.States.{KernelState}
use Rattle.kern_core.specs.Represents.{RepresentsKernel}
use Rattle.lab80_web.proofs.SessionLemmas.{UnderWay}
use Rattle.lab80_web.proofs.performing.run.Given as goal

abbrev pub invariant-loop : goal.invariant-loop
invariant-loop g l = record {
  writable : IsWritable (g.W.Outlet.state l.to);
  run : (s : KernelState) → RepresentsKernel l.fn.kernel s
      → UnderWay l.unix_seconds l.count l.counter s (g.W.Outlet.state l.fn.to) l.kernel
      (g.W.Outlet.state l.to);
}
