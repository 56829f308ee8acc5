use Rattle.std.proofs.Common.{◌∙◌, ◌<◌, ◌≤◌, ap, rules, arith}
use Rattle.std.specs.Option.{IsSome}
use Rattle.i80_devs.specs.Past.{RepresentsPast as DevicesStandFor, panel_after, Press}
use Rattle.lab_core.specs.declared.answer.Answer.TheVariants.{Accepted}
use Rattle.lab_core.specs.Events.{press_result, with_operation}
use Rattle.lab_core.specs.Labs.{LabState}
use Rattle.lab_core.proofs.EventLemmas.{pressed_is, gives}
use Rattle.lab_core.proofs.lab.Lab.press.Goals as goal

pub returns-clause-applied : goal.returns-clause-applied
returns-clause-applied c = λ b s ne.
    let represents : DevicesStandFor c.self.inside.context.devices b.past =
    ap (λ (l : LabState). l.devices.panel) c.self.view_is ∙ s.devices in
    let answer = c.in_ok-press.ensures in
    let few : c.args.n < 8 = let small : 8 ≤ c.args.n → ⊥ = λ big. (let e = answer.vector.1 big in cc) in
    omega arith in
    let free : IsSome (panel_after b.past).latched → ⊥ =
    λ some. (let e = (answer.latched b.past represents).1 (few, some) in cc) in
    let new = with_operation (Press c.args.n) b in
    (new, gives b new (press_result c.args.n b) Accepted (pressed_is c.args.n b few free), search rules)
