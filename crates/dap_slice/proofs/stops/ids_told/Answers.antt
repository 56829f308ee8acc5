use Rattle.std.proofs.Common.{◌∙◌, refl, sym, subst}
use Rattle.lab_core.specs.declared.answer.SliceOutcome.TheVariants as outcome
use Rattle.lab_core.specs.Labs.{RepresentsBoard}
use Rattle.lab_core.specs.Slices.{left_by}
use Rattle.dap_slice.proofs.StopLemmas.{ids_same}
use Rattle.dap_slice.proofs.ValueLemmas.{SameMachine}
use Rattle.dap_slice.proofs.stops.ids_told.Goals as goal

pub returns-in-Stop : goal.returns-in-Stop
returns-in-Stop c = λ was b represents watches.
    let left = left_by (outcome.Stop c.in-Stop.field-0) b in
    let here = subst (λ end. RepresentsBoard c.args.lab.now (left_by end b)) c.in-Stop.is represents in
    let same : SameMachine b left = record { machine = refl; symbols = refl } in
    let told = c.stop_ids.ensures was left here watches in
    rw c.in-Stop.is (told ∙ sym (ids_same c.args.points.now was b left same refl))
