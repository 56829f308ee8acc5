use Rattle.std.proofs.Common.{sym, subst}
use Rattle.lab_core.specs.Labs.{LabState, RepresentsBoard}
use Rattle.lab_core.proofs.StandsLemmas.{stands_on}
use Rattle.lab_core.proofs.lab.Lab.go_on.Goals as goal

pub returns : goal.returns
returns c = λ b s-now.
    let P : LabState → Type 0 = λ lab. RepresentsBoard lab b in
    let s = subst P (sym c.self.view_is) s-now in
    stands_on _ b c.args.request c.len-self-inside.result c.newest-self-inside.result
    c.len-self-inside.ensures.len c.newest-self-inside.ensures s
