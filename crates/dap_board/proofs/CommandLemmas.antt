-- What commands make of a board.
use Rattle.std.proofs.Common.{◌≡◌, ℕ, List, Result, subst}
use Rattle.lab_core.specs.declared.event.Event.TheVariants as event
use Rattle.lab_core.specs.declared.fault.EventFault.{EventFault}
use Rattle.lab_core.specs.Labs.{LabState, CarriesOut}
use Rattle.dap_answers.specs.declared.answer.Body.{Body}
use Rattle.dap_answers.specs.declared.answer.Body.TheVariants as body
use Rattle.dap_answers.specs.Murmur.{cell_path}
use Rattle.dap_talk.specs.declared.command.DapCommand.{DapCommand}
use Rattle.dap_board.specs.Commands.{command_result, event_with_body, cell_dump, Performs}

-- each arm of a match knows its command
pub arms : (command known : DapCommand) (old new : LabState) (reply : Result Body EventFault)
    → command ≡ known → Performs (command_result known) old reply new
    → Performs (command_result command) old reply new
arms command known old new reply is performs = rw is performs

-- a cell's text is kept under its path, and the path is answered: done with copies of both
pub does_dump : (old new : LabState) (path text answer code : List ℕ) (reply : Result Body EventFault)
    → path ≡ cell_path code → text ≡ code → answer ≡ path
    → CarriesOut (event_with_body (event.Dump path text) (body.SourcePath answer)) old reply new
    → CarriesOut (cell_dump code) old reply new
does_dump old new path text answer code reply path-is text-is answer-is does =
    let Done : List ℕ → List ℕ → List ℕ → Type 0 =
    λ p t a. CarriesOut (event_with_body (event.Dump p t) (body.SourcePath a)) old reply new in
    subst (λ p. Done p code p) path-is
    (subst (λ t. Done path t path) text-is (subst (λ a. Done path text a) answer-is does))
