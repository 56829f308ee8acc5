use Rattle.std.proofs.Common.{◌≡◌, ◌∙◌, ◌-◌, ℕ, ap, sym, subst}
use Rattle.i80_exec.specs.State.{MachineState}
use Rattle.lab_core.specs.Slices.{IsSlice, after_steps, traffic_of}
use Rattle.lab_core.specs.Labs.{LabState}
use Rattle.lab_core.specs.Marks.{MarksState, first_mark, with_end, with_values, IsKept}
use Rattle.lab_core.proofs.MarkLemmas.{kept-watch, first-values, end-values, site_of}
use Rattle.lab_core.proofs.lab.Lab.run_to.Goals as goal

pub steps_to-executed-requires-clause-kept : goal.steps_to-executed-requires-clause-kept
steps_to-executed-requires-clause-kept c =
    let M : MachineState → Type 0 = λ m. IsKept m (with_values c.self.inside.machine c.args.marks.now) in
    let K : MarksState → Type 0 = λ marks. IsKept c.args.self.now.machine marks in
    subst K (sym c.begin.ensures) (subst M (ap (λ (lab : LabState). lab.machine) c.self.view_is)
    (kept-watch c.self.inside.machine c.args.marks.now.watches))

pub returns-clause-slice : goal.returns-clause-slice
returns-clause-slice c = λ b s.
    let n = c.args.n in
    let S : ℕ → Type 0 = λ limit. IsSlice limit b c.steps_to-executed.result.0 c.steps_to-executed.result.1 in
    subst S (ap (λ (marks : MarksState). first_mark marks n b) c.begin.ensures
    ∙ first-values c.self.inside.machine c.args.marks.now n b) (c.steps_to-executed.ensures.slice b s)

pub returns-clause-represents : goal.returns-clause-represents
returns-clause-represents c = λ b s.
    c.leave.ensures (after_steps c.steps_to-executed.result.0 b) (traffic_of c.steps_to-executed.result.0 b)
    (c.steps_to-executed.ensures.represents b s)

pub returns-clause-marks : goal.returns-clause-marks
returns-clause-marks c = λ b s.
    let k = c.steps_to-executed.result.0 in
    let m = c.self-2.inside.machine in
    let represents = c.steps_to-executed.ensures.represents b s in
    let is : m ≡ (after_steps k b).machine =
    ap (λ (lab : LabState). lab.machine) c.self-2.view_is ∙ represents.machine in
    let K : MarksState → Type 0 = λ marks. IsKept (after_steps (k - 1) b).machine marks in
    let begun : c.self.inside.machine ≡ b.machine =
    ap (λ (lab : LabState). lab.machine) c.self.view_is ∙ s.machine in
    let site = c.steps_to-executed.new.site in
    let at = site_of b k c.pc-site.result site _ begun c.pc-site.ensures
    (c.steps_to-executed.ensures.site b s) in
    c.finish.ensures
    ∙ ap (λ (marks : MarksState). with_end k site m marks) c.begin.ensures
    ∙ end-values c.self.inside.machine m c.args.marks.now k site b is
    (subst K c.begin.ensures (c.steps_to-executed.ensures.kept b s)) at
