use Rattle.dap_laws.proofs.RecordingLemmas.{same_place}
use Rattle.dap_laws.proofs.recorded.same_place_same_board.Goals as goal

pub returns : goal.returns
returns c = same_place
