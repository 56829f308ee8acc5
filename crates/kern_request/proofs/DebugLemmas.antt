-- Refused debug requests.
use Rattle.std.proofs.Common.{◌≡◌, ◌≢◌, Err, refl}
use Rattle.dap_talk.specs.declared.fault.DapFault.{DapFault}
use Rattle.dap_talk.specs.declared.fault.DapFault.TheVariants as fault
use Rattle.dap_answers.specs.Refusals.{response_to}
use Rattle.dap_talk.specs.Reading.{Reading, Answers}
use Rattle.kern_request.specs.declared.request.RequestBody.TheVariants.{BadDebug}
use Rattle.kern_request.specs.Requests.{debug_body}

pub bad_debug : (reading : Reading) (f : DapFault) → f ≢ fault.OutOfMemory → Answers reading (Err f)
    → debug_body reading ≡ BadDebug (response_to f)
bad_debug reading fault.OutOfMemory other answers = absurd (other refl)
bad_debug reading _ other answers = rw answers refl
