use Rattle.std.proofs.Common.{◌≡◌, ◌∙◌, Some, None, refl, sym}
use Rattle.lab_core.specs.Slices.{reason_after_step}
use Rattle.lab_core.proofs.lab.Context.reason_before.Goals as goal

pub returns-in-Some : goal.returns-in-Some
returns-in-Some c = λ lab b traffic s.
    let found : reason_after_step b ≡ Some c.in-Some.outcome =
    sym (c.reason_after.ensures lab b traffic s) ∙ c.in-Some.is in
    rw found refl

pub returns-in-None : goal.returns-in-None
returns-in-None c = λ lab b traffic s.
    let found : reason_after_step b ≡ None =
    sym (c.reason_after.ensures lab b traffic s) ∙ c.in-None.is in
    rw found (c.find_wait.ensures lab b traffic s)
