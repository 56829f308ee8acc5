use Rattle.std.proofs.Common.{◌≡◌, ◌∙◌, refl, sym, ap, subst}
use Rattle.dap_search.specs.Recounts.{without_hits_between}
use Rattle.dap_search.specs.Searches.{SearchedOn, points_then}
use Rattle.dap_session.specs.Represents.{SessionFields}
use Rattle.dap_session.specs.Rewinds.{target_for, counting}
use Rattle.dap_session.specs.declared.settings.SessionSettings.{SessionSettings}
use Rattle.dap_session.proofs.SearchLemmas.{board_in, found_so, goes_on_so}
use Rattle.dap_session.proofs.session.Session.search_on.Goals as goal

pub invariant_of-self : goal.invariant_of-self
invariant_of-self c =
    let at = c.requires in
    let board = board_in c.args.self.now at.s c.self.inside.lab
    (ap (λ (v : SessionFields). v.lab) c.self.view_is) at.represents in
    let settings = ap (λ (v : SessionFields). v.settings) c.self.view_is ∙ at.represents.settings in
    let points = sym (ap (λ (t : SessionSettings). t.conditional) settings) in
    let kept =
    c.go_on.ensures.rest at.start at.s.board (target_for at.goal at.s) at.n at.history at.is board points in
    (kept.0.now, kept.0.represents)

pub invariant_of-self-in-Ok-None : goal.invariant_of-self-in-Ok-None
invariant_of-self-in-Ok-None c =
    let at = c.requires in
    let board = board_in c.args.self.now at.s c.self.inside.lab
    (ap (λ (v : SessionFields). v.lab) c.self.view_is) at.represents in
    let settings = ap (λ (v : SessionFields). v.settings) c.self.view_is ∙ at.represents.settings in
    let points = sym (ap (λ (t : SessionSettings). t.conditional) settings) in
    let kept =
    c.go_on.ensures.rest at.start at.s.board (target_for at.goal at.s) at.n at.history at.is board points in
    (kept.0.now, kept.0.represents)

pub invariant_of-self-in-Err : goal.invariant_of-self-in-Err
invariant_of-self-in-Err c =
    let at = c.requires in
    let board = board_in c.args.self.now at.s c.self.inside.lab
    (ap (λ (v : SessionFields). v.lab) c.self.view_is) at.represents in
    let settings = ap (λ (v : SessionFields). v.settings) c.self.view_is ∙ at.represents.settings in
    let points = sym (ap (λ (t : SessionSettings). t.conditional) settings) in
    let kept =
    c.go_on.ensures.rest at.start at.s.board (target_for at.goal at.s) at.n at.history at.is board points in
    (kept.0.now, kept.0.represents)

pub returns-in-Ok-Some : goal.returns-in-Ok-Some
returns-in-Ok-Some c = λ start s goal n history represents search.
    let log = c.args.history.now.log in
    let m = c.in-Ok-Some.found in
    let inside = c.self.inside.settings in
    let target = target_for goal s in
    let lab = ap (λ (v : SessionFields). v.lab) c.self.view_is in
    let board = board_in c.args.self.now s c.self.inside.lab lab represents in
    let settings = ap (λ (v : SessionFields). v.settings) c.self.view_is ∙ represents.settings in
    let points = sym (ap (λ (t : SessionSettings). t.conditional) settings) in
    let on = c.in-Ok-Some.ensures.ok start s.board target n history search board points in
    let kept = c.go_on.ensures.rest start s.board target n history search board points in
    let at = subst (λ o. SearchedOn start log s.board target n o c.go_on.new.self c.go_on.new.lab
    × (c.go_on.new.points ≡ points_then start log s.board inside.conditional n o))
    c.in-Ok-Some.field-0-is on in
    let same = ap (λ ps. counting ps inside) at.1
    ∙ ap (λ (t : SessionSettings). counting (without_hits_between t.conditional start log s.board m n) t)
    settings in (
      kept.1,
      found_so goal start log n m s c.go_on.new.self c.release.new.self c.go_on.new.lab
          (counting c.go_on.new.points inside) c.release.ensures same at.0,
    )

pub returns-in-Ok-None : goal.returns-in-Ok-None
returns-in-Ok-None c = λ start s goal n history represents search.
    let log = c.args.history.now.log in
    let inside = c.self.inside.settings in
    let target = target_for goal s in
    let lab = ap (λ (v : SessionFields). v.lab) c.self.view_is in
    let board = board_in c.args.self.now s c.self.inside.lab lab represents in
    let settings = ap (λ (v : SessionFields). v.settings) c.self.view_is ∙ represents.settings in
    let points = sym (ap (λ (t : SessionSettings). t.conditional) settings) in
    let on = c.in-Ok-None.ensures.ok start s.board target n history search board points in
    let kept = c.go_on.ensures.rest start s.board target n history search board points in
    let at = subst (λ o. SearchedOn start log s.board target n o c.go_on.new.self c.go_on.new.lab
    × (c.go_on.new.points ≡ points_then start log s.board inside.conditional n o))
    c.in-Ok-None.field-0-is on in (
      kept.1,
      goes_on_so goal start log n s c.go_on.new.self _ c.go_on.new.lab
          (counting c.go_on.new.points inside) refl
          (ap (λ ps. counting ps inside) at.1 ∙ settings) at.0,
    )
