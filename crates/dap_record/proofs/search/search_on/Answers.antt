use Rattle.std.proofs.Common.{◌∙◌, [], ◌∷◌, refl, sym, ap, subst}
use Rattle.dap_search.specs.Searches.{IsSearchOf}
use Rattle.dap_run.specs.Messages.{as_messages}
use Rattle.dap_session.specs.Rewinds.{after_search, SearchedFurther, target_for}
use Rattle.dap_record.specs.Backward.{found_event}
use Rattle.dap_record.specs.Represents.{RepresentsRecording, IsSearchFor}
use Rattle.dap_record.proofs.SearchLemmas.{not_found, was_found, at_found}
use Rattle.dap_record.proofs.search.search_on.Goals as goal

pub returns-in-None : goal.returns-in-None
returns-in-None c = λ goal r s represents recording is.
    let viewed = subst (λ v. RepresentsRecording v r s) (sym c.recording.view_is) recording in
    let u = subst (λ u. IsSearchFor goal r s u) (sym c.ongoing.view_is) is in
    let begun = subst (λ l. IsSearchOf r.start l s.board (target_for goal s) r.count c.ongoing.inside.search)
    (sym viewed.log) u.search in
    let on = c.in_ok-search_on.ensures r.start s goal r.count viewed.history represents begun in
    not_found goal r s _ _ _ c.search_on.new.search c.search_on.new.self c.new.result viewed u on.0 refl refl
    c.new.ensures
    (subst (λ o. SearchedFurther goal r.start c.recording.inside.history.log r.count s o
    c.search_on.new.search
    c.search_on.new.self) c.in-None.is on.1)

pub returns-in_ok-found_messages-in-Some : goal.returns-in_ok-found_messages-in-Some
returns-in_ok-found_messages-in-Some c = λ goal r s represents recording is.
    let viewed = subst (λ v. RepresentsRecording v r s) (sym c.recording.view_is) recording in
    let u = subst (λ u. IsSearchFor goal r s u) (sym c.ongoing.view_is) is in
    let begun = subst (λ l. IsSearchOf r.start l s.board (target_for goal s) r.count c.ongoing.inside.search)
    (sym viewed.log) u.search in
    let on = c.in_ok-search_on.ensures r.start s goal r.count viewed.history represents begun in
    let found = subst (λ o. SearchedFurther goal r.start c.recording.inside.history.log r.count s o
    c.search_on.new.search c.search_on.new.self) c.in-Some.is on.1 in
    let there = at_found goal r s _ c.in-Some.count c.search_on.new.search c.search_on.new.self viewed
    found in
    let after = after_search r.start r.log r.count c.in-Some.count s in
    was_found goal r s _ _ c.in-Some.count c.search_on.new.search c.search_on.new.self _ viewed on.0
    refl refl
    (c.in_ok-found_messages-in-Some.ensures after there
    ∙ ap (λ g. as_messages (found_event g after ∷ [])) u.goal_is) found
