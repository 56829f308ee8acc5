use Rattle.dap_record.specs.Recordings.{recorded_before_requests}
use Rattle.dap_record.proofs.recorded.RecordedSession.new.Goals as goal

pub invariant_of-result : goal.invariant_of-result
invariant_of-result c = (
  recorded_before_requests,
  record { session = c.in_ok-session.ensures; recording = tt; search = tt },
)
