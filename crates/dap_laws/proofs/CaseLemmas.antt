-- What an input to a recorded session may be.
use Rattle.std.proofs.Common.{◌≡◌, ◌≤◌, ℕ, [], Bool, true, false, Option, Some, None, nat_lt}
use Rattle.std.proofs.Common.{if◌then◌else◌, codes, refl, subst, arith}
use Rattle.base_text.specs.Bytes.{Text}
use Rattle.lab_core.specs.declared.fault.EventFault.TheVariants.{NotStopped}
use Rattle.dap_requests.specs.declared.request.RequestContent.{RequestContent}
use Rattle.dap_search.specs.declared.goal.Goal.{Goal}
use Rattle.dap_launch.specs.declared.file.FileText.{FileText}
use Rattle.dap_run.specs.Refusals.{board_refusal}
use Rattle.dap_session.specs.Slices.{slice_end_in}
use Rattle.dap_session.specs.States.{wants_slice}
use Rattle.dap_session.specs.Turns.{Turn}
use Rattle.dap_session.specs.Memory.{is_stopped}
use Rattle.dap_session.specs.Requests as session
use Rattle.dap_session.specs.Rewinds.{can_go_back}
use Rattle.dap_record.specs.declared.back.Back.{Back}
use Rattle.dap_record.specs.declared.back.Back.TheVariants as back
use Rattle.dap_requests.specs.declared.traits.MidSearch.{MidSearch}
use Rattle.dap_requests.specs.declared.traits.MidSearch.TheVariants as mid
use Rattle.dap_record.specs.Recordings.{Recording, RecordedState}
use Rattle.dap_record.specs.Backward.{RecordedReply, goal_of, count_to, refusing_back, arriving}
use Rattle.dap_record.specs.Backward.{searching_for, leaving, going_back_from, unclear_text}
use Rattle.dap_record.specs.Backward.{going_back_if, going_back}
use Rattle.dap_requests.specs.Traits.{mid_search}
use Rattle.dap_record.specs.Turns.{RecordedTurn, recorded_turn, turn_of, back_in, turn_by, pausing}
use Rattle.dap_record.specs.Turns.{refusing_now, looking, turn_searching, turn_in, turn}
use Rattle.dap_record.specs.Slices.{RecordedTold, slice_of, recorded_slice, slice_limit, found_from}
use Rattle.dap_record.specs.Slices.{finding, search_told, slice_in, slice_told}

-- ---- requests

-- the plain session's answer
abbrev pub turn_for : RequestContent → Option FileText → RecordedState → Turn
turn_for a found v = session.turn a found v.session

-- what is so of each of these turns is so of every request's
pub record OfTurns (Q : RecordedTurn → Type 0) (a : RequestContent) (found : Option FileText)
    (v : RecordedState) : Type 0 where
  pub onward : v.search ≡ None → back_in a v.session ≡ None → Q (recorded_turn a v (turn_for a found v))
  pub back : (c : Back) → v.search ≡ None → back_in a v.session ≡ Some c → Q (turn_of (going_back c v))
  pub look : (goal : Goal) → v.search ≡ Some goal → mid_search a ≡ mid.Look
      → Q (looking v (turn_for a found v))
  pub pause : (goal : Goal) → v.search ≡ Some goal → mid_search a ≡ mid.Pause → Q (turn_of (pausing v))
  pub ends : (goal : Goal) → v.search ≡ Some goal → mid_search a ≡ mid.End
      → Q (recorded_turn a v (turn_for a found v))
  pub other : (goal : Goal) → v.search ≡ Some goal → mid_search a ≡ mid.Other → Q (turn_of (refusing_now v))

amid : (Q : RecordedTurn → Type 0) (a : RequestContent) (found : Option FileText) (v : RecordedState)
    (m : MidSearch) (goal : Goal) → v.search ≡ Some goal → mid_search a ≡ m → OfTurns Q a found v
    → Q (turn_searching m a found v)
amid Q a found v mid.Look goal on is of = of.look goal on is
amid Q a found v mid.Pause goal on is of = of.pause goal on is
amid Q a found v mid.End goal on is of = of.ends goal on is
amid Q a found v mid.Other goal on is of = of.other goal on is

idle : (Q : RecordedTurn → Type 0) (a : RequestContent) (found : Option FileText) (v : RecordedState)
    (o : Option Back) → v.search ≡ None → back_in a v.session ≡ o → OfTurns Q a found v
    → Q (turn_by o a found v)
idle Q a found v None none is of = of.onward none is
idle Q a found v (Some c) none is of = of.back c none is

either : (Q : RecordedTurn → Type 0) (a : RequestContent) (found : Option FileText) (v : RecordedState)
    (o : Option Goal) → v.search ≡ o → OfTurns Q a found v → Q (turn_in o a found v)
either Q a found v None is of = idle Q a found v (back_in a v.session) is refl of
either Q a found v (Some goal) is of = amid Q a found v (mid_search a) goal is refl of

pub of_turn : (Q : RecordedTurn → Type 0) (a : RequestContent) (found : Option FileText) (v : RecordedState)
    → OfTurns Q a found v → Q (turn a found v)
unfolding turn
of_turn Q a found v of = either Q a found v v.search refl of

-- ---- requests that go back

-- what is so of each of these replies is so of every one to a request that goes back
pub record OfReplies (Q : RecordedReply → Type 0) (v : RecordedState) : Type 0 where
  pub refused : (text : Text) → Q (refusing_back text v.recording v.session)
  pub arrives : (c : Back) (r : Recording) (count : ℕ) → v.recording ≡ Some r
      → can_go_back v.session ≡ true → count ≤ r.count → Q (arriving c r v.session count)
  pub searches : (goal : Goal) (c : Back) (r : Recording) → v.recording ≡ Some r
      → can_go_back v.session ≡ true → is_stopped v.session.board.run ≡ true
      → Q (searching_for goal c r v.session)

count_within : (c : Back) (n : ℕ) → count_to c n ≤ n
count_within (back.Step by) n = omega arith
count_within (back.Steps k) n = omega arith
count_within back.Start n = omega arith
count_within back.Continue n = omega arith
count_within back.Unclear n = omega arith

left : (Q : RecordedReply → Type 0) (c : Back) (r : Recording) (v : RecordedState) (o : Option Goal)
    → v.recording ≡ Some r → can_go_back v.session ≡ true → is_stopped v.session.board.run ≡ true
    → OfReplies Q v → Q (leaving o c r v.session)
left Q c r v None is can stopped of =
    of.arrives c r (count_to c r.count) is can (count_within c r.count)
left Q c r v (Some goal) is can stopped of = of.searches goal c r is can stopped

by_count : (Q : RecordedReply → Type 0) (c : Back) (r : Recording) (v : RecordedState) (b : Bool)
    → v.recording ≡ Some r → can_go_back v.session ≡ true → is_stopped v.session.board.run ≡ true
    → OfReplies Q v
    → Q (if b then leaving (goal_of c r.count v.session) c r v.session
    else refusing_back (codes "the run begins here") (Some r) v.session)
by_count Q c r v true is can stopped of = left Q c r v (goal_of c r.count v.session) is can stopped of
by_count Q c r v false is can stopped of =
    subst (λ o. Q (refusing_back (codes "the run begins here") o v.session)) is
    (of.refused (codes "the run begins here"))

by_recording : (Q : RecordedReply → Type 0) (c : Back) (v : RecordedState) (o : Option Recording)
    → v.recording ≡ o → can_go_back v.session ≡ true → is_stopped v.session.board.run ≡ true
    → OfReplies Q v → Q (going_back_from o c v.session)
by_recording Q c v None is can stopped of =
    subst (λ o. Q (refusing_back (codes "too much was typed or changed for going back") o v.session)) is
    (of.refused (codes "too much was typed or changed for going back"))
by_recording Q c v (Some r) is can stopped of = by_count Q c r v (nat_lt 0 r.count) is can stopped of

by_run : (Q : RecordedReply → Type 0) (c : Back) (v : RecordedState) (can stopped : Bool)
    → can_go_back v.session ≡ can → is_stopped v.session.board.run ≡ stopped → OfReplies Q v
    → Q (if can then
    (if stopped then going_back_from v.recording c v.session
    else refusing_back (board_refusal NotStopped) v.recording v.session)
    else refusing_back (board_refusal NotStopped) v.recording v.session)
by_run Q c v true true can stopped of = by_recording Q c v v.recording refl can stopped of
by_run Q c v true false can stopped of = of.refused (board_refusal NotStopped)
by_run Q c v false stopped_is can stopped of = of.refused (board_refusal NotStopped)

of_back_if : (Q : RecordedReply → Type 0) (c : Back) (v : RecordedState) → OfReplies Q v
    → Q (going_back_if c v)
of_back_if Q c v of =
    by_run Q c v (can_go_back v.session) (is_stopped v.session.board.run) refl refl of

pub of_back : (Q : RecordedReply → Type 0) (c : Back) (v : RecordedState) → OfReplies Q v
    → Q (going_back c v)
of_back Q back.Unclear v of = of.refused unclear_text
of_back Q (back.Step by) v of = of_back_if Q (back.Step by) v of
of_back Q back.Continue v of = of_back_if Q back.Continue v of
of_back Q (back.Steps n) v of = of_back_if Q (back.Steps n) v of
of_back Q back.Start v of = of_back_if Q back.Start v of

-- ---- slices

-- what is so of each of these is so of every slice
pub record OfSlices (Q : RecordedTold → Type 0) (v : RecordedState) : Type 0 where
  pub idles : v.search ≡ None → wants_slice v.session ≡ false → Q (record { messages = []; state = v })
  pub plain : v.search ≡ None → v.recording ≡ None → wants_slice v.session ≡ true
      → Q (slice_of None v.session)
  pub recorded : (r : Recording) → v.search ≡ None → v.recording ≡ Some r → wants_slice v.session ≡ true
      → Q (recorded_slice (slice_end_in (slice_limit r) v.session) r v.session)
  pub searches : (goal : Goal) → v.search ≡ Some goal → Q (record { messages = []; state = v })
  pub finds : (goal : Goal) (r : Recording) → v.search ≡ Some goal → v.recording ≡ Some r
      → Q (found_from r goal v.session)

made : (Q : RecordedTold → Type 0) (v : RecordedState) (o : Option Recording) → v.search ≡ None
    → v.recording ≡ o → wants_slice v.session ≡ true → OfSlices Q v → Q (slice_of o v.session)
made Q v None none is wants of = of.plain none is wants
made Q v (Some r) none is wants of = of.recorded r none is wants

ran : (Q : RecordedTold → Type 0) (v : RecordedState) (wants : Bool) → v.search ≡ None
    → wants_slice v.session ≡ wants → OfSlices Q v
    → Q (if wants then slice_of v.recording v.session else record { messages = []; state = v })
ran Q v true none is of = made Q v v.recording none refl is of
ran Q v false none is of = of.idles none is

found : (Q : RecordedTold → Type 0) (v : RecordedState) (goal : Goal) (o : Option Recording)
    → v.search ≡ Some goal → v.recording ≡ o → OfSlices Q v → Q (finding o goal v)
found Q v goal None on is of = of.searches goal on
found Q v goal (Some r) on is of = of.finds goal r on is

searched : (Q : RecordedTold → Type 0) (finds : Bool) (v : RecordedState) (goal : Goal)
    → v.search ≡ Some goal → OfSlices Q v → Q (search_told finds goal v)
searched Q true v goal on of = found Q v goal v.recording on refl of
searched Q false v goal on of = of.searches goal on

sliced : (Q : RecordedTold → Type 0) (finds : Bool) (v : RecordedState) (o : Option Goal) → v.search ≡ o
    → OfSlices Q v → Q (slice_in o finds v)
sliced Q finds v None is of = ran Q v (wants_slice v.session) is refl of
sliced Q finds v (Some goal) is of = searched Q finds v goal is of

pub of_slice : (Q : RecordedTold → Type 0) (finds : Bool) (v : RecordedState) → OfSlices Q v
    → Q (slice_told finds v)
unfolding slice_told
of_slice Q finds v of = sliced Q finds v v.search refl of
