-- Going back (Debug Adapter Protocol, `stepBack` and `reverseContinue`), and the prompt's `back`.
use Rattle.std.specs.Prelude.{ℕ, zero, suc, ◌+◌, ◌-◌, ◌*◌, List, [], ◌∷◌, min, length, Bool, true, false}
use Rattle.std.specs.Prelude.{Option, Some, None, codes, nat_lt, if◌then◌else◌}
use Rattle.std.specs.Str.{bytes_eq}
use Rattle.base_text.specs.Bytes.{Text}
use Rattle.lab_frames.specs.Live.{live}
use Rattle.lab_core.specs.declared.fault.EventFault.TheVariants.{NotStopped}
use Rattle.dap_answers.specs.declared.answer.Body.TheVariants.{Empty}
use Rattle.dap_answers.specs.declared.answer.StopReason.TheVariants as reason
use Rattle.dap_messages.specs.declared.message.EditorBody.{EditorBody}
use Rattle.dap_messages.specs.declared.message.EditorBody.TheVariants as body
use Rattle.dap_messages.specs.declared.message.EditorEvent.{EditorEvent}
use Rattle.dap_messages.specs.declared.message.EditorEvent.TheVariants as event
use Rattle.dap_messages.specs.declared.message.EditorStop.{EditorStop}
use Rattle.dap_messages.specs.declared.message.EditorStop.TheVariants.{Entry, Board as AtBoard}
use Rattle.dap_requests.specs.declared.request.EvaluateContext.TheVariants.{Repl}
use Rattle.dap_requests.specs.declared.request.EditorCommand.TheVariants as editor
use Rattle.dap_requests.specs.declared.request.RequestContent.{RequestContent}
use Rattle.dap_requests.specs.declared.request.RequestContent.TheVariants as asked
use Rattle.lab_shown.specs.declared.step.Granularity.TheVariants as granularity
use Rattle.dap_search.specs.declared.goal.Goal.{Goal}
use Rattle.dap_search.specs.declared.goal.Goal.TheVariants.{Statement, Breakpoint, Count}
use Rattle.dap_history.specs.Runs.{board_at}
use Rattle.dap_search.specs.Goals.{is_goal, goal_below}
use Rattle.dap_search.specs.Searches.{counts_hits}
use Rattle.dap_slice.specs.Stops.{back_ids}
use Rattle.dap_run.specs.Slices.{met_event}
use Rattle.dap_prompt.specs.Answers.{done_value}
use Rattle.dap_run.specs.declared.messages.FollowUp.TheVariants.{Nothing, Stopped}
use Rattle.dap_run.specs.Refusals.{board_refusal}
use Rattle.dap_session.specs.States.{SessionState}
use Rattle.dap_session.specs.Turns.{Replied, refusing, succeeding}
use Rattle.dap_prompt.specs.Prompt.{behind}
use Rattle.dap_session.specs.Memory.{is_stopped}
use Rattle.dap_session.specs.Rewinds.{can_go_back, held_at, rewound, target_for}
use Rattle.dap_record.specs.declared.back.Back.{Back}
use Rattle.dap_record.specs.declared.back.Back.TheVariants as back
use Rattle.dap_record.specs.Recordings.{Recording, RecordedState}

-- ---- lines of the prompt

abbrev pub most_steps : ℕ
most_steps = 18446744073709551615

abbrev pub is_digit : ℕ → Bool
is_digit c = if nat_lt c 48 then false else nat_lt c 58

-- a number in decimal digits, after others that write n; one above 2^64 - 1 counts as that
abbrev pub number_from : ℕ → Text → Option ℕ
number_from n [] = Some n
number_from n (c ∷ text) =
    if is_digit c then number_from (min most_steps (10 * n + (c - 48))) text else None

abbrev pub positive : Option ℕ → Back
positive None = back.Unclear
positive (Some zero) = back.Unclear
positive (Some (suc n)) = back.Steps (suc n)

abbrev pub back_by : Text → Back
back_by [] = back.Unclear
back_by text = if bytes_eq text (codes "start") then back.Start else positive (number_from 0 text)

-- `back`, `back N` and `back start`
abbrev pub back_line : Text → Option Text → Option Back
back_line line (Some rest) = Some (back_by rest)
back_line line None = if bytes_eq line (codes "back") then Some (back.Steps 1) else None

-- ---- the requests that go back

abbrev pub back_of : RequestContent → Option Back
back_of (asked.Editor (editor.StepBack by)) = Some (back.Step by)
back_of (asked.Editor editor.ReverseContinue) = Some back.Continue
back_of (asked.Editor (editor.Evaluate line Repl format)) = back_line line (behind (codes "back ") line)
back_of other = None

-- ---- where they lead

abbrev pub count_to : Back → ℕ → ℕ
count_to (back.Step by) n = n - 1
count_to (back.Steps k) n = n - k
count_to back.Start n = 0
count_to other n = n

-- a search, only for the hits of the steps between
abbrev pub goal_if : Bool → ℕ → Option Goal
goal_if is_counted count = if is_counted then Some (Count count) else None

-- What must be searched for, from n steps: the statement before this one, at which no more frames are live,
-- or the last breakpoint. Of the others the count is known, and if breakpoints count their hits those of the
-- steps between are searched for; at the start of a run there were none.
abbrev pub goal_of : Back → ℕ → SessionState → Option Goal
goal_of (back.Step granularity.Instruction) n s = goal_if (counts_hits s.settings.conditional) (n - 1)
goal_of (back.Step other) n s = Some (Statement (length (live s.board.trace)))
goal_of back.Continue n s = Some Breakpoint
goal_of (back.Steps k) n s = goal_if (counts_hits s.settings.conditional) (n - k)
goal_of other n s = None

abbrev pub stop_at_count : Back → EditorStop
stop_at_count back.Start = Entry
stop_at_count other = AtBoard reason.Step

-- where a search leads
abbrev pub found_by : Goal → Recording → SessionState → ℕ
found_by goal r s = goal_below (target_for goal s) r.start r.log s.board r.count

-- the run is at these breakpoints there, or at its start
abbrev pub met_or_entry : Bool → List ℕ → EditorEvent
met_or_entry true ids = met_event None ids
met_or_entry false ids = event.Stopped Entry

-- what is told of a session whose run was put to where a search led
abbrev pub found_event : Goal → SessionState → EditorEvent
found_event (Statement depth) s = event.Stopped (AtBoard reason.Step)
found_event (Count count) s = event.Stopped (AtBoard reason.Step)
found_event Breakpoint s =
    let points = s.settings.conditional in
    met_or_entry (is_goal points Breakpoint s.board) (back_ids points s.board)

-- ---- the reply

-- a line of the prompt is answered by a text
abbrev pub body_for : Back → EditorBody
body_for (back.Steps n) = body.Evaluation done_value
body_for back.Start = body.Evaluation done_value
body_for other = body.Board Empty

pub record RecordedReply : Type 0 where
  pub reply : Replied
  pub recording : Option Recording
  pub search : Option Goal

-- nothing changes
abbrev pub refusing_back : Text → Option Recording → SessionState → RecordedReply
refusing_back text recording s = record { reply = refusing text s; recording = recording; search = None }

-- the run is put to this count
abbrev pub arriving : Back → Recording → SessionState → ℕ → RecordedReply
arriving c r s count = record {
  reply = succeeding (body_for c) (Stopped (stop_at_count c)) (rewound (board_at r.start r.log count) s);
  recording = Some (record r { count = count });
  search = None;
}

-- a search begins, and the run is held where it is until that has found its goal
abbrev pub searching_for : Goal → Back → Recording → SessionState → RecordedReply
searching_for goal c r s = record {
  reply = succeeding (body_for c) Nothing (held_at (board_at r.start r.log r.count) s);
  recording = Some r;
  search = Some goal;
}

abbrev pub leaving : Option Goal → Back → Recording → SessionState → RecordedReply
leaving None c r s = arriving c r s (count_to c r.count)
leaving (Some goal) c r s = searching_for goal c r s

abbrev pub going_back_from : Option Recording → Back → SessionState → RecordedReply
going_back_from None c s = refusing_back (codes "too much was typed or changed for going back") None s
going_back_from (Some r) c s =
    if nat_lt 0 r.count then leaving (goal_of c r.count s) c r s
    else refusing_back (codes "the run begins here") (Some r) s

abbrev pub unclear_text : Text
unclear_text = codes "a number of steps must follow, or the word start"

abbrev pub going_back_if : Back → RecordedState → RecordedReply
going_back_if c v =
    if can_go_back v.session then
    (if is_stopped v.session.board.run then going_back_from v.recording c v.session
    else refusing_back (board_refusal NotStopped) v.recording v.session)
    else refusing_back (board_refusal NotStopped) v.recording v.session

-- only a stopped run of a program that is debugged goes back
abbrev pub going_back : Back → RecordedState → RecordedReply
going_back back.Unclear v = refusing_back unclear_text v.recording v.session
going_back c v = going_back_if c v
