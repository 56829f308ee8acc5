-- Parts of a search backward.
use Rattle.std.proofs.Common.{◌≡◌, ◌∙◌, ℕ, List, [], ◌∷◌, true, false, Bool, Some, None, sym, ap, subst}
use Rattle.dap_messages.specs.declared.message.Message.{Message}
use Rattle.dap_search.specs.declared.goal.Goal.{Goal}
use Rattle.dap_history.specs.Histories.{KeepsHistory}
use Rattle.dap_history.specs.Runs.{board_at, after_rewind}
use Rattle.dap_search.specs.Goals.{goal_below}
use Rattle.dap_search.specs.Searches.{SearchState, IsSearchOf}
use Rattle.dap_run.specs.Messages.{as_messages}
use Rattle.dap_session.specs.States.{SessionState, with_board}
use Rattle.dap_session.specs.Represents.{SessionFields, RepresentsSession}
use Rattle.dap_session.specs.Rewinds.{after_search, SearchedFurther, target_for}
use Rattle.dap_record.specs.Fields.{RecordingFields, GoalSearchFields, RecordedFields}
use Rattle.dap_record.specs.Recordings.{Recording, RecordedState}
use Rattle.dap_record.specs.Backward.{found_by, found_event}
use Rattle.dap_record.specs.Slices.{search_told}
use Rattle.dap_record.specs.Represents.{RepresentsRecording, IsSearchFor, Tells}
use Rattle.dap_record.proofs.TravelLemmas.{recorded_at}

-- the recorded session with this search
abbrev pub searching : Goal → Recording → SessionState → RecordedState
searching goal r s = record { session = s; recording = Some r; search = Some goal }

abbrev pub TellsPart : Goal → Recording → SessionState → List Message → RecordedFields → Type 0
TellsPart goal r s messages new = (finds : Bool) × Tells (search_told finds goal (searching goal r s))
    messages new

pub not_found : (goal : Goal) (r : Recording) (s : SessionState) (v v' : RecordingFields) (u :
    GoalSearchFields)
    (search : SearchState) (session : SessionFields) (messages : List Message)
    → RepresentsRecording v r s → IsSearchFor goal r s u → KeepsHistory r.start v.history v'.history
    → v'.count ≡ v.count → v'.told ≡ v.told → messages ≡ []
    → SearchedFurther goal r.start v.history.log r.count s None search session
    → TellsPart goal r s messages
    (record {
      session = session;
      recording = Some v';
      search = Some (record {
        goal = u.goal;
        search =
            search;
      });
    })
not_found goal r s v v' u search session messages recording is keeps count_is told_is none searched =
    let held : RepresentsSession session s =
    subst (λ b. RepresentsSession session (with_board b s)) (sym is.rewound)
    (subst (λ l. RepresentsSession session (with_board (after_rewind (board_at r.start l r.count) s.board) s))
    recording.log searched.1) in (
      false,
      record {
        messages_are = none;
        represents =
            record {
              session = held;
              recording =
                  record {
                    history = keeps.history;
                    log = keeps.log ∙ recording.log;
                    count = count_is ∙ recording.count;
                    told = told_is ∙ recording.told;
                    parts = recording.parts;
                    can = recording.can;
                  };
              search =
                  record {
                    goal_is = is.goal_is;
                    search =
                        subst (λ l. IsSearchOf r.start l s.board (target_for goal s) r.count search)
                        recording.log searched.0;
                    rewound = is.rewound;
                  };
            };
      },
    )

-- the run is put to the count that was found
pub at_found : (goal : Goal) (r : Recording) (s : SessionState) (v : RecordingFields) (m : ℕ)
    (search : SearchState) (session : SessionFields) → RepresentsRecording v r s
    → SearchedFurther goal r.start v.history.log r.count s (Some m) search session
    → RepresentsSession session (after_search r.start r.log r.count m s)
at_found goal r s v m search session recording searched =
    subst (λ l. RepresentsSession session (after_search r.start l r.count m s)) recording.log searched.1

pub was_found : (goal : Goal) (r : Recording) (s : SessionState) (v v' : RecordingFields) (m : ℕ)
    (search : SearchState) (session : SessionFields) (messages : List Message)
    → RepresentsRecording v r s → KeepsHistory r.start v.history v'.history → v'.count ≡ m → v'.told ≡ v.told
    → messages ≡ as_messages (found_event goal (after_search r.start r.log r.count m s) ∷ [])
    → SearchedFurther goal r.start v.history.log r.count s (Some m) search session
    → TellsPart goal r s messages (record { session = session; recording = Some v'; search = None })
was_found goal r s v v' m search session messages recording keeps count_is told_is says searched =
    let found : m ≡ found_by goal r s =
    searched.0 ∙ ap (λ l. goal_below (target_for goal s) r.start l s.board r.count) recording.log in (
      true,
      record {
        messages_are =
            says
            ∙ ap (λ n. as_messages (found_event goal (after_search r.start r.log r.count n s) ∷ [])) found;
        represents =
            record {
              session =
                  subst (λ n. RepresentsSession session (after_search r.start r.log r.count n s)) found
                  (at_found goal r s v m search session recording searched);
              recording =
                  recorded_at v v' r s (found_by goal r s) _ recording keeps (count_is ∙ found) told_is;
              search = tt;
            };
      },
    )
