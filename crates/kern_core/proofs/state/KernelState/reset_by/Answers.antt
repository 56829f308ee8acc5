use Rattle.std.proofs.Common.{◌≡◌, ◌∙◌, ℕ, List, [], ◌∷◌, ◌++◌, Ok, refl, sym, ap, subst, rules}
use Rattle.lab_core.specs.Events.{reset}
use Rattle.dap_answers.specs.declared.answer.Body.TheVariants.{Empty}
use Rattle.dap_answers.specs.declared.answer.Outcome.TheVariants.{Success}
use Rattle.dap_talk.specs.Table.{spelling_of}
use Rattle.kern_post.specs.declared.post.Letter.{Letter}
use Rattle.kern_post.specs.declared.content.Cause.TheVariants as cause
use Rattle.kern_post.specs.declared.content.Content.TheVariants as content
use Rattle.kern_exec.specs.Letters.{between_busy_and_idle}
use Rattle.kern_calls.specs.declared.call.Reply.TheVariants.{Arrived}
use Rattle.kern_core.specs.States.{Turn, after, posting}
use Rattle.kern_core.specs.Requests.{reply_to, cut_letters, cut_work, with_board}
use Rattle.kern_core.specs.Represents.{RepresentsKernel}
use Rattle.kern_core.proofs.DebugLemmas.{by_reset}
use Rattle.kern_core.proofs.state.KernelState.reset_by.Goals as goal

pub returns : goal.returns
returns c = (
  λ s represents ne.
      let n = c.args.connection in
      let r = c.args.request.now in
      let d = c.args.debug.now in
      let new = c.reset_board.new.self in
      let named : c.in_ok-command.command ≡ spelling_of c.name.result =
      c.in_ok-command.ensures ∙ c.as_str.ensures in
      let told : List ℕ → List Letter =
      λ text. between_busy_and_idle s.connections r.header (cut_letters cause.Reset s
      ++ reply_to n r (content.DebugReply (record {
        request_seq = d.seq;
        command = text;
        outcome = Success Empty;
      })) ∷ []) in
      let letters = c.in_ok-letters.ensures s represents ∙ ap told (named ∙ ap spelling_of c.name.ensures) in
      let Q : List Letter → Type 0 =
      λ ls. RepresentsKernel new (after (posting Arrived c.args.unix_seconds ls
      (with_board (reset s.board) (cut_work s) s))) in
      let P : Turn → Type 0 = λ t. (Ok Arrived ≡ t.answer) × RepresentsKernel new (after t) in
      subst P (sym (by_reset n r d c.args.unix_seconds s c.requires.reset))
      (refl, subst Q letters (c.in_ok-reset_board.ensures.ok s represents)),
  search rules,
)
