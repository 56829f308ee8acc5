use Rattle.std.proofs.Common.{take}
use Rattle.kern_net.specs.Streams.{IsStreamOf}
use Rattle.kern_net.proofs.stream.stream_of.Given as goal

abbrev pub invariant-loop-post : goal.invariant-loop-post
invariant-loop-post l = IsStreamOf l.key l.session (take l.post-index l.posts) l.out.items
