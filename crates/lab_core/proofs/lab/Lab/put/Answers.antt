use Rattle.std.proofs.Common.{List, [], ◌∷◌, ◌++◌, refl, sym, subst}
use Rattle.asm_build.specs.Meaning.{meaning_in}
use Rattle.lab_image.specs.Loads.{Load, load_of}
use Rattle.lab_core.specs.Labs.{LabState, RepresentsBoard}
use Rattle.lab_core.proofs.LabLemmas.{stands_built}
use Rattle.lab_core.proofs.lab.Lab.put.Goals as goal

pub returns-clause-ok : goal.returns-clause-ok
returns-clause-ok c = λ b s-now.
    let P : LabState → Type 0 = λ lab. RepresentsBoard lab b in
    let s = subst P (sym c.self.view_is) s-now in
    let loads : List Load = b.loads ++ load_of c.args.number c.args.built ∷ [] in
    let put = c.in_ok-load.ensures.past b.loads s.origins in
    stands_built _ b c.args.number (meaning_in c.args.built) _ _ _ _ s c.in_ok-load.ensures.machine put
    c.refresh.ensures.lists (c.refresh.ensures.represents loads put) refl
