use Rattle.dap_laws.proofs.SessionStopLemmas.{run_begun, quiet_told, end_told}
use Rattle.dap_laws.proofs.session.end_is_told.Goals as goal

pub returns : goal.returns
returns c = λ inputs. record { run = run_begun inputs; quiet = quiet_told inputs; end = end_told inputs }
