-- What a step asks for, and what can be out of memory.
use Rattle.std.proofs.Common.{◌≡◌, [], ◌∷◌, Option, Some, None, IsSome, option_map, codes, refl}
use Rattle.serde_json.specs.Data.{Data}
use Rattle.dap_talk.specs.declared.command.CommandName.{CommandName}
use Rattle.dap_talk.specs.declared.command.DapCommand.{DapCommand}
use Rattle.dap_talk.specs.declared.command.DapCommand.TheVariants.{Step}
use Rattle.lab_shown.specs.declared.step.StepKind.{StepKind}
use Rattle.lab_shown.specs.declared.step.StepKind.TheVariants.{Over, In, Out}
use Rattle.dap_talk.specs.Argument.{all_found}
use Rattle.dap_talk.specs.Table.{granularity_or_line, granularity_in, nth, step_name, command_named}
use Rattle.dap_talk.specs.Table.{command_asked}
use Rattle.dap_talk.specs.Reading.{Envelope, envelope_of, reading, reading_of_command, IsOfRequest}

pub asked_step : (kind : StepKind) (d : Data) → command_asked (step_name kind) d
    ≡ option_map (λ vs. Step kind (granularity_in (nth 0 vs)))
    (all_found (granularity_or_line (codes "granularity") ∷ []) d)
asked_step Over d = refl
asked_step In d = refl
asked_step Out d = refl

of_command : (e : Envelope) (o : Option DapCommand) → IsSome o
    → IsOfRequest (reading_of_command e o)
of_command e (Some c) is = tt
of_command e None is = absurd (cc)

pub of_request : (d : Data) (e : Envelope) (name : CommandName) → envelope_of d ≡ Some e
    → command_named e.command ≡ Some name
    → IsSome (command_asked name d) → IsOfRequest (reading d)
unfolding reading
of_request d e name is_envelope is_named is = rw (is_envelope, is_named) (of_command e
    (command_asked name d) is)
