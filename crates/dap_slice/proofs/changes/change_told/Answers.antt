use Rattle.std.proofs.Common.{◌∙◌, refl, subst}
use Rattle.lab_core.specs.declared.answer.SliceOutcome.TheVariants as outcome
use Rattle.lab_core.specs.Labs.{RepresentsBoard}
use Rattle.lab_core.specs.Slices.{left_by}
use Rattle.dap_slice.proofs.ChangeLemmas.{first_same}
use Rattle.dap_slice.proofs.changes.change_told.Goals as goal

pub returns-in-Stop : goal.returns-in-Stop
returns-in-Stop c = λ was b represents after.
    let left = left_by (outcome.Stop c.in-Stop.field-0) b in
    let here = subst (λ end. RepresentsBoard c.args.lab.now (left_by end b)) c.in-Stop.is represents in
    let told = c.first_change.ensures was left here
    (record { watches = after.watches; stepped_from = after.stepped_from }) in
    rw c.in-Stop.is (told ∙ first_same c.args.points.now was left b
    (record { machine = refl; symbols = refl }))
