use Rattle.std.proofs.Common.{◌≡◌, ◌∙◌, ◌++◌, ◌∷◌, [], ap, List, rules}
use Rattle.kern_post.specs.declared.content.Cause.TheVariants.{QueueFull}
use Rattle.kern_post.specs.declared.content.Content.TheVariants.{Status}
use Rattle.kern_post.specs.declared.content.Ending.TheVariants.{Failed}
use Rattle.kern_post.specs.declared.content.ExecutionState.TheVariants.{Busy}
use Rattle.kern_post.specs.declared.post.Letter.{Letter}
use Rattle.kern_exec.specs.declared.execution.Current.{Current}
use Rattle.kern_exec.specs.Letters.{publication}
use Rattle.kern_exec.specs.Ends.{end_letters}
use Rattle.kern_exec.specs.Prepared.{prepared_end}
use Rattle.kern_core.proofs.state.KernelState.queue_full.Goals as goal

pub returns : goal.returns
returns c =
    let connections = c.args.self.now.connections in
    let k : Current = record { execution = c.args.execution; count = c.args.self.now.work.count } in
    let prepared : c.in_ok-end.end ≡ prepared_end connections k = search
    (rules, c.in_ok-end.ensures, c.count.ensures) in
    let busy = publication connections c.args.execution.header (Status Busy) in
    let first : c.push.new.self ≡ busy ∷ [] = search
    (rules, c.push.ensures, c.in_ok-publish.ensures, c.in_ok-letters.ensures) in
    c.push_end.ensures.letters connections k prepared
    ∙ ap (λ (letters : List Letter). letters ++ end_letters connections k (Failed QueueFull)) first
