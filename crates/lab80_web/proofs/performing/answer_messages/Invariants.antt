use Rattle.base_streams.specs.States.{IsWritable}
use Rattle.kern_core.specs.States.{KernelState}
use Rattle.kern_core.specs.Represents.{RepresentsKernel}
use Rattle.lab80_web.proofs.SessionLemmas.{Answering}
use Rattle.lab80_web.proofs.performing.answer_messages.Given as goal

abbrev pub invariant-loop-frames : goal.invariant-loop-frames
invariant-loop-frames g l = record {
  next : (goal.iterator-loop-frames g).can_next l.frames-iterator;
  writable : IsWritable (g.W.Outlet.state l.to);
  answering : (s : KernelState) → RepresentsKernel l.fn.kernel s
      → Answering s l.fn.messages l.frames-iterator.rest.items (g.W.Outlet.state l.fn.to) l.kernel
      (g.W.Outlet.state l.to);
}
