-- Responses that refuse a request (Debug Adapter Protocol, ErrorResponse).
use Rattle.std.specs.Prelude.{ℕ, [], codes}
use Rattle.base_text.specs.Bytes.{Text}
use Rattle.dap_talk.specs.declared.fault.DapFault.{DapFault}
use Rattle.dap_talk.specs.declared.fault.DapFault.TheVariants.{OutOfMemory, NotRequest, Command, Arguments}
use Rattle.dap_answers.specs.declared.answer.Response.{Response}
use Rattle.dap_answers.specs.declared.answer.Outcome.TheVariants.{Refused}

abbrev pub refusal : ℕ → Text → Text → Response
refusal seq command message =
    record { request_seq = seq; command = command; outcome = Refused message }

-- it repeats the request's number and command if they are known
abbrev pub response_to : DapFault → Response
response_to OutOfMemory = refusal 0 [] (codes "OutOfMemory")
response_to NotRequest = refusal 0 [] (codes "NotRequest")
response_to (Command seq command) = refusal seq command.now (codes "Command")
response_to (Arguments seq command) = refusal seq command.now (codes "Arguments")
