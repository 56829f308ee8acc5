-- A program that was loaded is installed.
use Rattle.std.proofs.Common.{ℕ, Result, Ok, Err, IfOk, subst}
use Rattle.std.specs.declared.alloc.AllocError.{AllocError}
use Rattle.base_text.specs.Bytes.{Text}
use Rattle.lab_core.specs.Board.{Board}
use Rattle.lab_core.specs.Labs.{RepresentsBoard}
use Rattle.dap_requests.specs.declared.request.Launch.{Launch as LaunchOf}
use Rattle.dap_run.specs.Programs.{program_of}
use Rattle.dap_launch.specs.declared.load.Loaded.{Loaded}
use Rattle.dap_launch.specs.declared.load.LoadFault.{LoadFault}
use Rattle.dap_run.specs.declared.messages.RequestId.{RequestId}
use Rattle.dap_launch.specs.declared.opening.LoadReason.{LoadReason}
use Rattle.dap_launch.specs.Loading.{Loads}
use Rattle.dap_session.specs.Launches.{installing, loading_as}
use Rattle.dap_prompt.specs.declared.outcome.Effect.TheVariants as effect
use Rattle.dap_prompt.specs.declared.outcome.RequestOutcome.{RequestOutcome}
use Rattle.dap_session.specs.Effects.{outcome_told}
use Rattle.dap_session.specs.Represents.{SessionFields, Takes}
use Rattle.dap_session.specs.States.{SessionState}

pub loaded_told : (r : Result (Board × ℕ) LoadFault) (loaded : Loaded) (cause : LoadReason) (l : LaunchOf)
    (text : Text) (caller : RequestId) (s : SessionState) (reply : Result RequestOutcome AllocError)
    (new : SessionFields)
    → Loads r (Ok loaded)
    → ((b : Board) → RepresentsBoard loaded.lab b
    → IfOk reply (λ outcome. Takes
    (outcome_told caller (installing cause (program_of l loaded.start) b s) effect.Loaded) outcome new))
    → IfOk reply (λ outcome. Takes (outcome_told caller (loading_as r cause l text s) effect.Loaded) outcome
    new)
loaded_told (Ok (b, start)) loaded cause l text caller s reply new loads installs =
    subst (λ n. IfOk reply (λ outcome. Takes
    (outcome_told caller (installing cause (program_of l n) b s) effect.Loaded) outcome new)) loads.1
    (installs b loads.0)
loaded_told (Err fault) loaded cause l text caller s reply new loads installs = absurd loads
