use Rattle.dap_laws.proofs.RecordingLemmas.{recording_is}
use Rattle.dap_laws.proofs.recorded.board_is_run.Goals as goal

pub returns : goal.returns
returns c = recording_is
