use Rattle.std.proofs.Common.{◌∙◌, ℕ, sym, ap, subst, drop}
use Rattle.kern_exec.specs.declared.execution.Current.{Current}
use Rattle.kern_exec.specs.Executions.{count_with}
use Rattle.kern_core.specs.Represents.{KernelFields, RepresentsKernel, Grows}
use Rattle.kern_core.proofs.LoadLemmas.{load_grows, load_stands}
use Rattle.kern_core.proofs.state.KernelState.load.Goals as goal

pub returns-in-Ok : goal.returns-in-Ok
returns-in-Ok c =
    let new = c.post_loading.new.self in
    let lab = c.load.new.lab in
    let x = c.in-Some.execution.now in
    let rest = drop 1 c.self.inside.executions.queue in
    let loaded = c.post_loading.ensures.rest in
    let work = c.post_loading.ensures.work x rest c.in-Some.ensures in
    let current : Current = record { execution = x; count = c.count_with-count.result } in
    let numbered : ℕ → Current = λ k. record { execution = x; count = k } in
    let is_current = ap numbered (c.count_with-count.ensures ∙ ap (count_with x) c.count.ensures) in
    let P : KernelFields → Type 0 = λ v. Grows v new in (
      λ s represents ne.
          let viewed : RepresentsKernel _ s =
          subst (λ v. RepresentsKernel v s) (sym c.self.view_is) represents.0 in
          let cell = c.in-Ok.ensures.loaded s.board viewed.board in
          let prepared = c.in_ok-prepared.ensures.prepared in
          let posts = c.post_loading.ensures.posts current prepared s.posts viewed.posts in
          load_stands c.args.unix_seconds s _ new lab x rest current c.in-Ok.loading viewed c.in-Some.ensures
          is_current cell.0 cell.1 loaded work posts,
      (
        subst P c.self.view_is (load_grows _ new lab x rest c.in-Ok.loading loaded work
            c.post_loading.ensures.made),
        tt,
      ),
    )
