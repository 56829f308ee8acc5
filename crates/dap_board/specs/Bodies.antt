-- The body of a response that carries the answer of a board.
use Rattle.lab_shown.specs.declared.shown.Shown.{Shown}
use Rattle.lab_shown.specs.declared.shown.Shown.TheVariants as shown
use Rattle.lab_core.specs.declared.answer.Answer.{Answer}
use Rattle.lab_core.specs.declared.answer.Answer.TheVariants as answer
use Rattle.dap_answers.specs.declared.answer.Body.{Body}
use Rattle.dap_answers.specs.declared.answer.Body.TheVariants as body

abbrev pub shown_body : Shown → Body
shown_body (shown.Frames frames total) = body.StackTrace frames total
shown_body shown.Scopes = body.Scopes
shown_body (shown.Variables variables) = body.Variables variables
shown_body (shown.Code lines) = body.Instructions lines
shown_body (shown.Source text) = body.Content text
shown_body (shown.Info is_attached is_stopped breakpoints) = body.DebugState (record {
  is_attached = is_attached;
  is_stopped = is_stopped;
  breakpoints = breakpoints;
})

-- empty if the answer only says that the event was done
abbrev pub body_of : Answer → Body
body_of (answer.Breakpoints breakpoints) = body.Breakpoints breakpoints
body_of (answer.Shown shown) = shown_body shown
body_of (answer.Poked text) = body.Value text
body_of other = body.Empty
