use Rattle.std.proofs.lemmas.List.Elements.{All-from_recursion}
use Rattle.kern_core.specs.Turns.{state_after}
use Rattle.kern_laws.specs.Laws.{IsAddressed}
use Rattle.kern_laws.proofs.AddressLemmas.{call_addressed}
use Rattle.kern_laws.proofs.SubscriberLemmas.{subscribers_are}
use Rattle.kern_laws.proofs.HistoryLemmas.{call_letters}
use Rattle.kern_laws.proofs.laws.posts_reach_subscribers.Goals as goal

pub returns-clause-posts : goal.returns-clause-posts
returns-clause-posts c = λ calls call.
    let s = state_after calls in
    All-from_recursion (IsAddressed call s) (call_letters call s) (call_addressed call s)

pub returns-clause-subscribers : goal.returns-clause-subscribers
returns-clause-subscribers c = subscribers_are
