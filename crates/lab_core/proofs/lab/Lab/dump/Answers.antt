use Rattle.std.proofs.Common.{◌≡◌, ◌∙◌, ◌++◌, ◌∷◌, [], None, Ok, refl, sym, subst}
use Rattle.lab_image.specs.declared.sources.Source.{Source}
use Rattle.lab_image.specs.Sources.{place_of}
use Rattle.lab_core.specs.Labs.{LabState, RepresentsBoard}
use Rattle.lab_core.proofs.LabLemmas.{gives_dumped, stands_dumped}
use Rattle.lab_core.proofs.lab.Lab.dump.Goals as goal

pub returns-in_ok-dumped-in-None-clause-applied : goal.returns-in_ok-dumped-in-None-clause-applied
returns-in_ok-dumped-in-None-clause-applied c = λ b s-now ne.
    let P : LabState → Type 0 = λ lab. RepresentsBoard lab b in
    let s = subst P (sym c.self.view_is) s-now in
    let source : Source = record { path = c.args.path.now; text = c.args.text.now } in
    let place : place_of source b.sources ≡ Ok None =
    rw (← s.sources, ← c.in-None.is) (sym c.in_ok-place.ensures.place) in
    let all : c.add.new.self ≡ b.sources ++ source ∷ [] =
    c.add.ensures ∙ rw (c.in_ok-dumped-in-None.ensures, s.sources) refl in (
      record b { sources = b.sources ++ source ∷ [] },
      gives_dumped source b None place,
      stands_dumped _ b _ _ s all,
    )
