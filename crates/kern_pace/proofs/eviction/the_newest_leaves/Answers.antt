use Rattle.kern_pace.proofs.EvictionLemmas.{is_next}
use Rattle.kern_pace.proofs.eviction.the_newest_leaves.Goals as goal

pub returns : goal.returns
returns c = is_next
