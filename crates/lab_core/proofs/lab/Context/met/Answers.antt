use Rattle.std.proofs.Common.{◌≡◌, ◌∙◌, true, false, refl, sym}
use Rattle.lab_core.specs.Stops.{meets_breakpoint}
use Rattle.lab_core.proofs.QuietLemmas.{only_breakpoint_stops}
use Rattle.lab_core.proofs.lab.Context.met.Goals as goal

pub returns-then-is_met : goal.returns-then-is_met
returns-then-is_met c = λ lab b traffic s.
    let met : meets_breakpoint b ≡ true = sym (c.is_met.ensures lab b traffic s) ∙ c.if-is_met.true in
    rw (only_breakpoint_stops lab c.args.machine.now c.args.self.now b traffic s c.requires.only_fetch, met)
    refl

pub returns-else-is_met : goal.returns-else-is_met
returns-else-is_met c = λ lab b traffic s.
    let passed : meets_breakpoint b ≡ false = sym (c.is_met.ensures lab b traffic s) ∙ c.if-is_met.false in
    rw (
      only_breakpoint_stops lab c.args.machine.now c.args.self.now b traffic s c.requires.only_fetch,
      passed,
    ) refl
