use Rattle.std.proofs.Common.{◌∙◌, ◌++◌, ap, filter_map, map}
use Rattle.kern_core.specs.States.{kernel_before_calls}
use Rattle.kern_core.specs.Turns.{state_after}
use Rattle.kern_laws.specs.Laws.{execution_reply, reply_due, not_ended, input_in, input_due, waiting}
use Rattle.kern_laws.proofs.InvariantLemmas.{calls_agree}
use Rattle.kern_laws.proofs.HistoryLemmas.{letters_along}
use Rattle.kern_laws.proofs.ExecutionLemmas.{call_ends, calls_reply, calls_have_inputs}
use Rattle.kern_laws.proofs.laws.executions_are_answered.Goals as goal

pub returns : goal.returns
returns c = λ calls.
    let s = state_after calls in
    record {
      replies = ap (λ letters. filter_map execution_reply letters ++ map reply_due (not_ended s.work))
          (letters_along calls)
          ∙ calls_reply calls kernel_before_calls tt;
      inputs = ap (λ letters. filter_map input_in letters ++ filter_map input_due (waiting s.work))
          (letters_along calls)
          ∙ calls_have_inputs calls kernel_before_calls tt;
      end = λ call. call_ends call s (calls_agree calls kernel_before_calls tt);
    }
