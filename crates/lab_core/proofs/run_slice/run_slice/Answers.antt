use Rattle.std.proofs.Common.{◌≤◌, length, refl, subst}
use Rattle.lab_core.specs.declared.answer.Answer.{Answer}
use Rattle.lab_core.specs.SliceEnds.{traffic_in}
use Rattle.lab_core.proofs.run_slice.run_slice.Goals as goal

pub returns-in-Ok-Sliced-clause-few : goal.returns-in-Ok-Sliced-clause-few
returns-in-Ok-Sliced-clause-few c = λ b represents.
    let P : Answer → Type 0 = λ a. length (traffic_in a) ≤ 4096 in
    subst P c.in-Ok-Sliced.field-0-is (c.in-Ok-Sliced.ensures.few 4096 b refl represents)
