-- An event is answered with a body in place of its answer.
use Rattle.std.proofs.Common.{Result, Ok, Err, OnErr, ap}
use Rattle.lab_core.specs.declared.answer.Answer.{Answer}
use Rattle.lab_core.specs.declared.event.Event.{Event}
use Rattle.lab_core.specs.declared.fault.EventFault.{EventFault}
use Rattle.lab_core.specs.Board.{Board}
use Rattle.lab_core.specs.Events.{EventResult, result_of}
use Rattle.lab_core.specs.Labs.{LabState, MatchesResult, CarriesOut}
use Rattle.dap_answers.specs.declared.answer.Body.{Body}
use Rattle.dap_board.specs.Commands.{with_body, reply_with}

did_with : (to_body : Answer → Body) (b : Board) (g : EventResult) (reply : Result Answer EventFault)
    (lab : LabState)
    → MatchesResult b g reply lab → MatchesResult b (with_body to_body g) (reply_with to_body reply) lab
did_with to_body b (Ok (answer, b')) reply lab did = (ap (reply_with to_body) did.0, did.1)
did_with to_body b (Err fault) reply lab did = (ap (reply_with to_body) did.0, did.1)

pub does_with : (to_body : Answer → Body) (e : Event) (old new : LabState) (reply : Result Answer EventFault)
    → CarriesOut (result_of e) old reply new
    → CarriesOut (λ b. with_body to_body (result_of e b)) old (reply_with to_body reply) new
does_with to_body e old new reply does = λ b represents no_want.
    did_with to_body b (result_of e b) reply new (does b represents (λ want. no_want (ap (reply_with to_body)
    want)))

pub unchanged_with : (to_body : Answer → Body) (P : Type 0) (reply : Result Answer EventFault)
    → OnErr reply P → OnErr (reply_with to_body reply) P
unchanged_with to_body P (Ok answer) unchanged = tt
unchanged_with to_body P (Err fault) unchanged = unchanged
