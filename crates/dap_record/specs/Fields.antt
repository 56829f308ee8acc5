-- What contracts see of a recording, a search and a recorded session.
use Rattle.std.specs.Prelude.{ℕ, Option}
use Rattle.dap_history.specs.Histories.{HistoryState}
use Rattle.dap_search.specs.declared.goal.Goal.{Goal}
use Rattle.dap_search.specs.Searches.{SearchState}
use Rattle.dap_session.specs.Represents.{SessionFields}

pub record RecordingFields : Type 0 where
  pub history : HistoryState
  pub count : ℕ
  pub told : ℕ

pub record GoalSearchFields : Type 0 where
  pub goal : Goal
  pub search : SearchState

pub record RecordedFields : Type 0 where
  pub session : SessionFields
  pub recording : Option RecordingFields
  pub search : Option GoalSearchFields
