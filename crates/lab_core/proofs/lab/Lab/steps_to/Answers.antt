use Rattle.std.proofs.Common.{◌≡◌, refl, sym, subst}
use Rattle.lab_core.specs.Slices.{after_steps, traffic_of}
use Rattle.lab_core.specs.Labs.{LabState, RepresentsBoard, RepresentsDuringSlice, in_slice}
use Rattle.lab_core.proofs.lab.Lab.steps_to.Goals as goal

-- a lab is `amid` of its own machine and context
pub returns-clause-slice : goal.returns-clause-slice
returns-clause-slice c = λ b s.
    let P : LabState → Type 0 = λ lab. in_slice lab c.self.inside.machine c.self.inside.context ≡ lab in
    let S : LabState → Type 0 = λ lab. RepresentsBoard lab b in
    c.steps_to.ensures.slice c.args.self.now b (subst S (sym (subst P c.self.view_is refl)) s)

pub returns-clause-represents : goal.returns-clause-represents
returns-clause-represents c = λ b s.
    let executed = c.steps_to.result.0 in
    let P : LabState → Type 0 = λ lab. in_slice lab c.self.inside.machine c.self.inside.context ≡ lab in
    let S : LabState → Type 0 = λ lab. RepresentsBoard lab b in
    let Q : LabState → Type 0 =
    λ lab. RepresentsDuringSlice (in_slice lab c.steps_to.new.machine c.steps_to.new.self) (after_steps
    executed b)
    (traffic_of executed b) in
    subst Q (sym c.self.view_is)
    (c.steps_to.ensures.represents c.args.self.now b (subst S (sym (subst P c.self.view_is refl)) s))

pub returns-clause-kept : goal.returns-clause-kept
returns-clause-kept c = λ b s.
    let P : LabState → Type 0 = λ lab. in_slice lab c.self.inside.machine c.self.inside.context ≡ lab in
    let S : LabState → Type 0 = λ lab. RepresentsBoard lab b in
    c.steps_to.ensures.kept c.args.self.now b (subst S (sym (subst P c.self.view_is refl)) s)

pub returns-clause-site : goal.returns-clause-site
returns-clause-site c = λ b s.
    let P : LabState → Type 0 = λ lab. in_slice lab c.self.inside.machine c.self.inside.context ≡ lab in
    let S : LabState → Type 0 = λ lab. RepresentsBoard lab b in
    c.steps_to.ensures.site c.args.self.now b (subst S (sym (subst P c.self.view_is refl)) s)
