use Rattle.std.proofs.Common.{◌∙◌, ℕ, List, [], ◌∷◌, codes, sym, ap, subst, rules}
use Rattle.dap_answers.specs.declared.answer.Outcome.TheVariants.{Refused}
use Rattle.kern_post.specs.declared.post.Letter.{Letter}
use Rattle.kern_peers.specs.Connections.{Connections}
use Rattle.kern_exec.specs.Letters.{between_busy_and_idle}
use Rattle.kern_core.specs.Requests.{debug_reply}
use Rattle.kern_core.specs.Debugging.{IsPreparedDebugReply}
use Rattle.kern_core.specs.Represents.{RepresentsKernel}
use Rattle.kern_core.proofs.DebugLemmas.{refused_stands}
use Rattle.kern_core.proofs.state.KernelState.refuse.Goals as goal

pub returns : goal.returns
returns c = (
  λ s represents ne.
      let viewed : RepresentsKernel _ s = subst (λ v. RepresentsKernel v s) (sym c.self.view_is) represents in
      let n = c.args.connection in
      let r = c.args.request.now in
      let d = c.args.debug.now in
      let K : Connections → Type 0 = λ w. IsPreparedDebugReply w n r d c.in_ok-prepared.prepared in
      let prepared = subst K represents.connections c.in_ok-prepared.ensures in
      let L : List ℕ → List Letter =
      λ text. between_busy_and_idle s.connections r.header (debug_reply n r d (Refused text) ∷ []) in
      let told =
      c.debug_letters-letters.ensures s.connections n r d prepared ∙ ap L c.in_ok-message.ensures in
      refused_stands n r d c.args.unix_seconds s _ c.push_all.new.self (codes "Arguments")
      c.debug_letters-letters.result viewed told (c.push_all.ensures.keeps s.posts viewed.posts),
  search rules,
)
