-- The history of a run: its inputs, and saved moments of it.
use Rattle.std.specs.Prelude.{◌≡◌, ℕ, List, [], ◌∷◌, ◌++◌, reverse, slice_get, Option, Some, None, Bool}
use Rattle.std.specs.Prelude.{true, false, length, nat_le, nat_lt, ◌&&◌, if◌then◌else◌, Result, OnOk}
use Rattle.std.specs.declared.alloc.AllocError.{AllocError}
use Rattle.std.specs.List.{All, filter}
use Rattle.std.specs.Option.{IfSome}
use Rattle.i80_devs.specs.Past.{panel_after}
use Rattle.lab_core.specs.Board.{Board}
use Rattle.lab_core.specs.Labs.{LabState, RepresentsBoard}
use Rattle.lab_core.specs.Moments.{MomentState, IsMomentOf}
use Rattle.dap_history.specs.declared.input.Recorded.{Recorded}
use Rattle.dap_history.specs.declared.saved.SavedMoment.{SavedMoment}
use Rattle.dap_history.specs.Logs.{Ascends, up_to}
use Rattle.dap_history.specs.Spacing.{unit_of, stays}
use Rattle.dap_history.specs.Runs.{board_at, KeepsRest}

-- what a contract sees of a history: beside the moments it may have one that is near where the run went
pub record HistoryState : Type 0 where
  pub start : MomentState
  pub log : List Recorded
  pub moments : List SavedMoment
  pub near : Option SavedMoment

-- the moment is the one that the run with this start and these inputs had after its count of steps
abbrev pub IsSavedOf : Board → List Recorded → SavedMoment → Type 0
IsSavedOf start log saved = IsMomentOf saved.moment (board_at start log saved.count)

-- It is the history of a run with this start, and its moments are those that the run had.
pub record IsHistoryOf (start : Board) (h : HistoryState) : Type 0 where
  pub begins : IsMomentOf h.start start
  pub ascends : Ascends 0 h.log
  pub moments : All (IsSavedOf start h.log) h.moments
  pub near : IfSome h.near (IsSavedOf start h.log)

-- the lab's run is that of this board: machine, operations on the devices, and trace
pub record HasRunOf (was : Board) (lab : LabState) : Type 0 where
  pub now : Board
  pub represents : RepresentsBoard lab now
  pub machine : now.machine ≡ was.machine
  pub past : now.past ≡ was.past
  pub trace : now.trace ≡ was.trace

-- a board's run is that of another board
pub record HasRun (was now : Board) : Type 0 where
  pub machine : now.machine ≡ was.machine
  pub past : now.past ≡ was.past
  pub trace : now.trace ≡ was.trace

-- ---- what the calls do to it

-- a moment that is kept only if it passes the test
abbrev pub only_if : (SavedMoment → Bool) → Option SavedMoment → Option SavedMoment
only_if test None = None
only_if test (Some saved) = if test saved then Some saved else None

-- Inputs and moments after more than n steps are forgotten.
abbrev pub cut_after : ℕ → HistoryState → HistoryState
cut_after n h = record h {
  log = up_to n h.log;
  moments = filter (λ saved. nat_le saved.count n) h.moments;
  near = only_if (λ saved. nat_le saved.count n) h.near;
}

-- One more input is recorded. Moments saved after its count of steps didn't have it, so they are dropped.
abbrev pub with_input : Recorded → HistoryState → HistoryState
with_input r h = record h {
  log = h.log ++ r ∷ [];
  moments = filter (λ saved. nat_lt saved.count r.count) h.moments;
  near = only_if (λ saved. nat_lt saved.count r.count) h.near;
}

abbrev pub count_of : Option SavedMoment → ℕ
count_of None = 0
count_of (Some saved) = saved.count

-- how many typed bytes the board's program hasn't read
abbrev pub unread : Board → ℕ
unread b = length (panel_after b.past).waiting

-- A moment is due if the last one was saved in an earlier unit, and not too many bytes are unread: a moment
-- keeps a copy of them.
abbrev pub is_due : List SavedMoment → ℕ → ℕ → Bool
is_due moments count bytes =
    nat_le bytes 32768 && nat_lt (unit_of (count_of (slice_get (reverse moments) 0))) (unit_of count)

-- If one is due, those that stay are kept, with a new one; otherwise nothing changes.
abbrev pub SavesIf : Bool → ℕ → HistoryState → HistoryState → Type 0
SavesIf true count old new = (moment : MomentState) × (new ≡ record old {
  moments = filter (λ saved. stays saved.count count) old.moments
      ++ record { count = count; moment = moment } ∷ [];
})
SavesIf false count old new = new ≡ old

-- the same of the lab's moment, if there is memory
abbrev pub Saves : ℕ → LabState → Result (Unit {0}) AllocError → HistoryState → HistoryState → Type 0
Saves count lab result old new = (b : Board) → RepresentsBoard lab b
    → OnOk result (SavesIf (is_due old.moments count (unread b)) count old new)

-- ---- what going to a count of steps does

-- so it is for every run with this history, and every board that the lab represents
abbrev pub ForEachRun : HistoryState → LabState → (Board → Board → Type 0) → Type 0
ForEachRun h lab P = (start now : Board) → IsHistoryOf start h → RepresentsBoard lab now → P start now

-- it is still the history of the run from this board on, and its inputs are the same
pub record KeepsHistory (start : Board) (old new : HistoryState) : Type 0 where
  pub history : IsHistoryOf start new
  pub log : new.log ≡ old.log

-- The lab has all of the board `now` but its run, and the history stays.
abbrev pub KeepsRestAndHistory : HistoryState → HistoryState → LabState → Board → Board → Type 0
KeepsRestAndHistory old new lab start now = KeepsRest now lab × KeepsHistory start old new
