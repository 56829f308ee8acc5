use Rattle.std.proofs.Common.{◌∙◌, List, Option, sym, ap, subst, rules}
use Rattle.std.proofs.lemmas.Bool.{false≢true}
use Rattle.kern_peers.specs.Connections.{Connections}
use Rattle.kern_post.specs.declared.post.Letter.{Letter}
use Rattle.kern_exec.specs.Letters.{between_busy_and_idle}
use Rattle.kern_core.specs.Requests.{performed_letters}
use Rattle.kern_core.specs.Debugging.{IsPreparedDebugReply}
use Rattle.kern_core.specs.Represents.{RepresentsKernel}
use Rattle.kern_core.proofs.DebugLemmas.{performed_stands}
use Rattle.kern_core.proofs.state.KernelState.perform.Goals as goal

pub returns : goal.returns
returns c = (
  λ s represents ne.
      let viewed : RepresentsKernel _ s = subst (λ v. RepresentsKernel v s) (sym c.self.view_is) represents in
      let n = c.args.connection in
      let r = c.args.request.now in
      let d = c.args.debug.now in
      let K : Connections → Type 0 = λ w. IsPreparedDebugReply w n r d c.in_ok-prepared.prepared in
      let prepared = subst K represents.connections c.in_ok-prepared.ensures.prepared in
      let letter = c.in_ok-prepared.ensures.after s represents in
      let L : Option Letter → List Letter =
      λ after. between_busy_and_idle s.connections r.header
      (performed_letters c.perform-result.result after n r d) in
      let told = c.in_ok-letters.ensures.letters s.connections n r d prepared ∙ ap L letter in
      performed_stands n r d c.args.unix_seconds s _ c.perform-result.new.lab c.push_all.new.self
      c.perform-result.result c.in_ok-letters.letters
      viewed c.requires.other c.perform-result.ensures.0
      (λ e. absurd (false≢true (c.in_ok-letters.ensures.memory e))) told
      (c.push_all.ensures.keeps s.posts viewed.posts),
  search rules,
)
