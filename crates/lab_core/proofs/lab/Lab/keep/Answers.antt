use Rattle.std.proofs.Common.{◌≡◌, ◌∙◌, List, [], ◌∷◌, ◌++◌, length, sym, ap, subst}
use Rattle.lab_image.specs.declared.sources.Source.{Source}
use Rattle.asm_build.specs.Meaning.{meaning_in}
use Rattle.lab_core.specs.Events.{with_cell}
use Rattle.lab_core.specs.Labs.{LabState, RepresentsBoard}
use Rattle.lab_core.proofs.LabLemmas.{stands_kept}
use Rattle.lab_core.proofs.lab.Lab.keep.Goals as goal

pub returns-in-Some-clause-ok : goal.returns-in-Some-clause-ok
returns-in-Some-clause-ok c = rw c.in-Some.is c.put.ensures.ok

pub returns-in_ok-put-in-None-clause-ok : goal.returns-in_ok-put-in-None-clause-ok
returns-in_ok-put-in-None-clause-ok c = λ b s.
    let source : Source = record { path = c.args.path.now; text = c.args.text.now } in
    let m = meaning_in c.args.built in
    let P : LabState → Type 0 = λ lab.
    RepresentsBoard (record lab { sources = c.add.new.self }) (with_cell source c.args.place m b) in
    let old : c.self.inside.sources ≡ b.sources =
    ap (λ (l : LabState). l.sources) c.self.view_is ∙ s.sources in
    let number : c.len-number.result ≡ length b.sources = c.len-number.ensures ∙ ap length old in
    let put = c.in_ok-put-in-None.ensures in
    let before : c.self-in-None.inside.sources ≡ b.sources =
    ap (λ (l : LabState). l.sources) c.self-in-None.view_is ∙ put.sources ∙ s.sources in
    let all : c.add.new.self ≡ b.sources ++ source ∷ [] = c.add.ensures
    ∙ ap (λ (ss : List Source). ss ++ c.in_ok-source-in-None.source ∷ []) before
    ∙ ap (λ (x : Source). b.sources ++ x ∷ []) c.in_ok-source-in-None.ensures in
    subst P (sym c.self-in-None.view_is)
    (stands_kept c.put-in-None.new.self b source c.args.place c.len-number.result m c.add.new.self
    c.in-None.is
    number (put.ok b s) all)
