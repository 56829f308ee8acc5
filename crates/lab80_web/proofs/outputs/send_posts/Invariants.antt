use Rattle.base_streams.specs.States.{IsWritable}
use Rattle.lab80_web.proofs.PostingLemmas.{Posting}
use Rattle.lab80_web.proofs.outputs.send_posts.Given as goal

abbrev pub invariant-loop-number : goal.invariant-loop-number
invariant-loop-number g l = record {
  writable : IsWritable (g.W.Outlet.state l.to);
  posting : Posting l.kernel l.after l.number (g.W.Outlet.state l.fn.to) (g.W.Outlet.state l.to);
}
