use Rattle.std.proofs.Common.{subst, sym, ap, filter_map, List, arith}
use Rattle.kern_post.specs.declared.content.Content.{Content}
use Rattle.kern_core.specs.States.{kernel_before_calls}
use Rattle.kern_core.specs.Turns.{state_after}
use Rattle.kern_laws.specs.Laws.{content_about, is_under_way, IsConversation}
use Rattle.kern_laws.proofs.HistoryLemmas.{letters_along}
use Rattle.kern_laws.proofs.ConversationLemmas.{calls_talk, has_request}
use Rattle.kern_laws.proofs.laws.posts_lie_between_busy_and_idle.Goals as goal

pub returns : goal.returns
returns c = λ calls header other few.
    let P : List Content → Type 0 = IsConversation (is_under_way header (state_after calls).work.current) in
    let spoken = calls_talk header calls kernel_before_calls (has_request header other) tt in
    subst P (sym (ap (filter_map (content_about header)) (letters_along calls))) (spoken.1 (omega arith))
