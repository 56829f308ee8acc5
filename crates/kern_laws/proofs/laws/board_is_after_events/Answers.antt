use Rattle.std.proofs.Common.{◌∙◌, subst, sym}
use Rattle.lab_core.specs.Board.{Board, opening}
use Rattle.lab_core.specs.Events.{Runs}
use Rattle.kern_core.specs.States.{kernel_before_calls}
use Rattle.kern_laws.specs.Events.{events_of, stop_in, view_in, call_views}
use Rattle.kern_laws.proofs.BoardLemmas.{replies_to, runs_after, calls_act, calls_fit}
use Rattle.kern_laws.proofs.HistoryLemmas.{found_in_posts}
use Rattle.kern_laws.proofs.ToldLemmas.{call_stops, call_tells_stops, stops_along, call_shows}
use Rattle.kern_laws.proofs.laws.board_is_after_events.Goals as goal

pub returns-clause-board : goal.returns-clause-board
returns-clause-board c = λ calls.
    let P : Board → Type 0 = λ b. Runs opening (events_of calls) (replies_to (events_of calls) opening) b in
    record {
      replies = replies_to (events_of calls) opening;
      runs = subst P (sym (calls_act calls kernel_before_calls)) (runs_after (events_of calls) opening);
      stops = found_in_posts stop_in call_stops call_tells_stops calls ∙ stops_along calls
          kernel_before_calls;
      views = found_in_posts view_in call_views (λ call s h. call_shows call s) calls;
    }

pub returns-clause-fits : goal.returns-clause-fits
returns-clause-fits c = λ calls. calls_fit calls kernel_before_calls
