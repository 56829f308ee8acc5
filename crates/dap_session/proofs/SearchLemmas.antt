-- Searches of a session's run, and moments that are saved.
use Rattle.std.proofs.Common.{◌≡◌, ℕ, List, Bool, true, false, Some, None, Result, Ok, Err}
use Rattle.std.proofs.Common.{sym, ap, subst}
use Rattle.std.specs.Result.{OnOk, OnErr}
use Rattle.lab_core.specs.Board.{Board}
use Rattle.lab_core.specs.Labs.{LabState, RepresentsBoard}
use Rattle.dap_search.specs.declared.goal.Goal.{Goal}
use Rattle.dap_history.specs.declared.input.Recorded.{Recorded}
use Rattle.dap_history.specs.Runs.{board_at, after_rewind}
use Rattle.dap_history.specs.Histories.{HistoryState, IsHistoryOf, HasRunOf, KeepsHistory, SavesIf}
use Rattle.dap_history.specs.Histories.{is_due, unread}
use Rattle.dap_search.specs.Goals.{Target}
use Rattle.dap_search.specs.Searches.{SearchState, IsSearchOf, SearchedOn}
use Rattle.dap_session.specs.States.{SessionState, with_board}
use Rattle.dap_session.specs.Represents.{SessionFields, RepresentsSession}
use Rattle.dap_slice.specs.declared.conditions.ConditionalBreakpoint.{ConditionalBreakpoint}
use Rattle.dap_search.specs.Recounts.{without_hits_between}
use Rattle.dap_session.specs.Rewinds.{IsRunAt, BeginsSearch, SearchedFurther, after_release, put_to}
use Rattle.dap_session.specs.Rewinds.{target_for, held_at, counting}
use Rattle.dap_session.specs.declared.settings.SessionSettings.{SessionSettings}

-- ---- moments that are saved

saved_log : (b : Bool) (count : ℕ) (old new : HistoryState) → SavesIf b count old new → new.log ≡ old.log
saved_log true count old new saves = ap (λ (h : HistoryState). h.log) saves.1
saved_log false count old new saves = ap (λ (h : HistoryState). h.log) saves

kept_log : {E : Type 0} (b : Bool) (count : ℕ) (old new : HistoryState) (r : Result (Unit {0}) E)
    → OnOk r (SavesIf b count old new) → OnErr r (new ≡ old) → new.log ≡ old.log
kept_log b count old new (Ok done) saves same = saved_log b count old new saves
kept_log b count old new (Err lack) saves same = ap (λ (h : HistoryState). h.log) same

pub history_kept : {E : Type 0} (start : Board) (count : ℕ) (v : SessionFields) (lab : LabState)
    (old new : HistoryState)
    (r : Result (Unit {0}) E) → lab ≡ v.lab → IsHistoryOf start old
    → IsRunAt start old count v
    → (HasRunOf (board_at start old.log count) lab → IsHistoryOf start new)
    → ((b : Board) → RepresentsBoard lab b
    → OnOk r (SavesIf (is_due old.moments count (unread b)) count old new))
    → OnErr r (new ≡ old) → KeepsHistory start old new
history_kept start count v lab old new r view history at keeps saves same =
    let now = at.s.board in
    let represents : RepresentsBoard lab now =
    subst (λ (l : LabState). RepresentsBoard l now) (sym view) at.represents.board in
    record {
      history = keeps (record {
        now = now;
        represents = represents;
        machine = at.parts.machine;
        past = at.parts.past;
        trace = at.parts.trace;
      });
      log = kept_log (is_due old.moments count (unread now)) count old new r (saves now represents) same;
    }

-- ---- searches

pub board_in : (v : SessionFields) (s : SessionState) (lab : LabState) → lab ≡ v.lab → RepresentsSession v s
    → RepresentsBoard lab s.board
board_in v s lab same represents =
    subst (λ (l : LabState). RepresentsBoard l s.board) (sym same) represents.board

released_at : (was : Board) (s : SessionState) (new : SessionFields) (lab : LabState)
    (settings : SessionSettings) → new ≡ record { lab = lab; settings = after_release settings }
    → settings ≡ s.settings → RepresentsBoard lab (after_rewind was s.board)
    → RepresentsSession new (held_at was s)
released_at was s new lab settings is same board =
    subst (λ (v : SessionFields). RepresentsSession v (held_at was s)) (sym is)
    (record { board = board; settings = ap after_release same })

-- with these counts of hits
pub put_to_at : (was : Board) (points : List ConditionalBreakpoint) (s : SessionState) (new : SessionFields)
    (lab : LabState) (settings : SessionSettings)
    → new ≡ record { lab = lab; settings = after_release settings } → settings ≡ counting points s.settings
    → RepresentsBoard lab (after_rewind was s.board) → RepresentsSession new (put_to was points s)
put_to_at was points s new lab settings is same board =
    subst (λ (v : SessionFields). RepresentsSession v (put_to was points s)) (sym is)
    (record { board = board; settings = ap after_release same })

-- what it looks for with these settings
abbrev pub target_in : Goal → SessionSettings → Target
target_in goal settings = record { goal = goal; points = settings.conditional }

pub begins_so : (goal : Goal) (start : Board) (log : List Recorded) (count : ℕ) (s : SessionState)
    (search : SearchState) (new : SessionFields) (lab : LabState) (settings : SessionSettings)
    → new ≡ record { lab = lab; settings = after_release settings } → settings ≡ s.settings
    → SearchedOn start log s.board (target_in goal settings) count None search lab
    → BeginsSearch goal start log count s search new
begins_so goal start log count s search new lab settings is same searched = record {
  search =
      subst (λ (t : SessionSettings). IsSearchOf start log s.board (target_in goal t) count search) same
      searched.0;
  represents = released_at (board_at start log count) s new lab settings is same searched.1;
}

pub found_so : (goal : Goal) (start : Board) (log : List Recorded) (n m : ℕ) (s : SessionState)
    (search : SearchState) (new : SessionFields) (lab : LabState) (settings : SessionSettings)
    → new ≡ record { lab = lab; settings = after_release settings }
    → settings ≡ counting (without_hits_between s.settings.conditional start log s.board m n) s.settings
    → SearchedOn start log s.board (target_for goal s) n (Some m) search lab
    → SearchedFurther goal start log n s (Some m) search new
found_so goal start log n m s search new lab settings is same searched = (
  searched.0,
  put_to_at (board_at start log m)
      (without_hits_between s.settings.conditional start log s.board m n) s new lab
      settings is same searched.1,
)

pub goes_on_so : (goal : Goal) (start : Board) (log : List Recorded) (n : ℕ) (s : SessionState)
    (search : SearchState) (new : SessionFields) (lab : LabState) (settings : SessionSettings)
    → new ≡ record { lab = lab; settings = settings } → settings ≡ s.settings
    → SearchedOn start log s.board (target_for goal s) n None search lab
    → SearchedFurther goal start log n s None search new
goes_on_so goal start log n s search new lab settings is same searched = (
  searched.0,
  subst (λ (v : SessionFields). RepresentsSession v (with_board (after_rewind (board_at start log n)
      s.board) s))
      (sym is)
      (record { board = searched.1; settings = same }),
)
