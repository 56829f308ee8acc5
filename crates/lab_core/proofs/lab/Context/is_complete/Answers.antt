use Rattle.std.proofs.Common.{◌≡◌, ◌∙◌, Option, true, false, refl, sym, subst}
use Rattle.lab_core.specs.declared.event.StepRequest.{StepRequest}
use Rattle.lab_core.specs.Stops.{has_step, since, completes}
use Rattle.lab_core.proofs.lab.Context.is_complete.Goals as goal

pub returns-then-self : goal.returns-then-self
returns-then-self c = λ lab b traffic s.
    let P : Option StepRequest → Type 0 = λ request. c.is_reached.result ≡ completes request b in
    let moved : has_step (since b) ≡ true = sym s.has_moved ∙ c.if-self.true in
    subst P (sym (sym s.request ∙ c.in-Some.is)) (rw moved (c.is_reached.ensures lab b traffic s))

pub returns-else-self : goal.returns-else-self
returns-else-self c = λ lab b traffic s.
    let P : Option StepRequest → Type 0 = λ request. false ≡ completes request b in
    let still : has_step (since b) ≡ false = sym s.has_moved ∙ c.if-self.false in
    c.if-self.false ∙ subst P (sym (sym s.request ∙ c.in-Some.is)) (rw still refl)
