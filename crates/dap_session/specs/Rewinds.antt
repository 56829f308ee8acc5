-- A session whose run goes back.
use Rattle.std.specs.Prelude.{◌≡◌, ℕ, List, Bool, true, false, ◌&&◌, Option, Some, None, option_map}
use Rattle.lab_core.specs.Board.{Board}
use Rattle.dap_search.specs.declared.goal.Goal.{Goal}
use Rattle.dap_history.specs.declared.input.Recorded.{Recorded}
use Rattle.dap_history.specs.Histories.{HistoryState, IsHistoryOf, KeepsHistory}
use Rattle.dap_search.specs.Goals.{Target, goal_below}
use Rattle.dap_search.specs.Searches.{SearchState, IsSearchOf}
use Rattle.dap_history.specs.Runs.{board_at, after_rewind}
use Rattle.dap_run.specs.declared.program.Program.{Program}
use Rattle.dap_slice.specs.declared.conditions.ConditionalBreakpoint.{ConditionalBreakpoint}
use Rattle.dap_slice.specs.Counts.{without_hits}
use Rattle.dap_search.specs.Recounts.{without_hits_between}
use Rattle.dap_run.specs.Lives.{released_program}
use Rattle.dap_session.specs.States.{SessionState, with_board}
use Rattle.dap_session.specs.Turns.{Turn}
use Rattle.dap_session.specs.declared.settings.SessionSettings.{SessionSettings}
use Rattle.dap_prompt.specs.Inputs.{is_success}
use Rattle.dap_session.specs.Laws.{SameParts, has_run, has_begun}
use Rattle.dap_session.specs.Represents.{SessionFields, RepresentsSession}

abbrev pub is_debugged : Option Program → Bool
is_debugged None = false
is_debugged (Some p) = p.launch.is_debugged

-- a run is there, of a program that has begun and is debugged: it can go back
abbrev pub can_go_back : SessionState → Bool
can_go_back s = has_run s.board.run && (has_begun s.settings.program && is_debugged s.settings.program)

-- a request was carried out, and the run lasts through it
pub record RunLasts (s : SessionState) (t : Turn) : Type 0 where
  pub before : can_go_back s ≡ true
  pub after : can_go_back t.state ≡ true
  pub done : is_success t.outcome ≡ true

-- a run that was held at its end, or waited, can go on
abbrev pub after_release : SessionSettings → SessionSettings
after_release t = record t { program = option_map released_program t.program; waits = false }

-- the run is that of this board, and held there
abbrev pub held_at : Board → SessionState → SessionState
held_at was s = record { board = after_rewind was s.board; settings = after_release s.settings }

-- the breakpoints have counted so many hits
abbrev pub counting : List ConditionalBreakpoint → SessionSettings → SessionSettings
counting points t = record t { conditional = points }

-- the run is put to this board, where the breakpoints have counted so many hits
abbrev pub put_to : Board → List ConditionalBreakpoint → SessionState → SessionState
put_to was points s = record {
  board = after_rewind was s.board;
  settings = after_release (counting points s.settings);
}

-- where they have no hits yet
abbrev pub rewound : Board → SessionState → SessionState
rewound was s = put_to was (without_hits s.settings.conditional) s

-- the run is put back from n to m steps, and the hits of those between are taken away
abbrev pub after_search : Board → List Recorded → ℕ → ℕ → SessionState → SessionState
after_search start log n m s =
    put_to (board_at start log m) (without_hits_between s.settings.conditional start log s.board m n) s

-- The session's run is the one of this history after so many steps: machine, devices and trace are the same.
pub record IsRunAt (start : Board) (h : HistoryState) (count : ℕ) (v : SessionFields) : Type 0 where
  pub s : SessionState
  pub represents : RepresentsSession v s
  pub parts : SameParts (board_at start h.log count) s.board

-- the history of a run stays that, and its inputs are the same
abbrev pub KeepsHistories : HistoryState → HistoryState → Type 0
KeepsHistories old new = (start : Board) → IsHistoryOf start old → KeepsHistory start old new

-- so it is for each run of a session with this history
abbrev pub ForEachRun : HistoryState → SessionFields → (Board → SessionState → Type 0) → Type 0
ForEachRun h v P = (start : Board) (s : SessionState) → IsHistoryOf start h → RepresentsSession v s → P
    start s

-- what a search of the session's run looks for: a breakpoint may be one of its own with a condition
abbrev pub target_for : Goal → SessionState → Target
target_for goal s = record { goal = goal; points = s.settings.conditional }

-- the search is of a session's run with this history
pub record IsSearched (h : HistoryState) (search : SearchState) (v : SessionFields) : Type 0 where
  pub start : Board
  pub s : SessionState
  pub goal : Goal
  pub n : ℕ
  pub history : IsHistoryOf start h
  pub represents : RepresentsSession v s
  pub is : IsSearchOf start h.log s.board (target_for goal s) n search

-- a search began where such a run is, and holds it there
pub record BeginsSearch (goal : Goal) (start : Board) (log : List Recorded) (count : ℕ) (s : SessionState)
    (v : SearchState) (new : SessionFields) : Type 0 where
  pub search : IsSearchOf start log s.board (target_for goal s) count v
  pub represents : RepresentsSession new (held_at (board_at start log count) s)

-- A search went on: the run is held where it began, or it is put to the count that was found.
abbrev pub SearchedFurther : Goal → Board → List Recorded → ℕ → SessionState → Option ℕ → SearchState
    → SessionFields → Type 0
SearchedFurther goal start log n s None search new =
    IsSearchOf start log s.board (target_for goal s) n search
    × RepresentsSession new (with_board (after_rewind (board_at start log n) s.board) s)
SearchedFurther goal start log n s (Some m) search new =
    (m ≡ goal_below (target_for goal s) start log s.board n)
    × RepresentsSession new (after_search start log n m s)

-- so it is for each search of a session's run that goes on
abbrev pub ForEachSearch : HistoryState → SearchState → SessionFields
    → (Board → SessionState → Goal → ℕ → Type 0)
    → Type 0
ForEachSearch h search v P =
    (start : Board) (s : SessionState) (goal : Goal) (n : ℕ) → IsHistoryOf start h → RepresentsSession v s
    → IsSearchOf start h.log s.board (target_for goal s) n search → P start s goal n
