use Rattle.std.proofs.Common.{sym, string_bytes}
use Rattle.dap_run.proofs.WordLemmas.{goes_on}
use Rattle.dap_run.proofs.words.push_word.Goals as goal

pub loop-b-preserved : goal.loop-b-preserved
loop-b-preserved c =
    goes_on (string_bytes c.loop-b.word) _ c.in-Some.b.now c.in-Some.later.now _
    (sym c.if-not-is_word_part.ensures.value) c.in_ok-push_ascii.ensures
    (rw c.in-Some.ensures.cases.0 at c.loop-b.invariant)
