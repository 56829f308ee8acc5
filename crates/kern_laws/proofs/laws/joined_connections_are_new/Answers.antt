use Rattle.kern_laws.proofs.NewLemmas.{new_connections}
use Rattle.kern_laws.proofs.laws.joined_connections_are_new.Goals as goal

pub returns : goal.returns
returns c = new_connections
