use Rattle.std.proofs.Common.{◌≡◌, ◌∙◌, false, ap, sym}
use Rattle.dap_slice.specs.Conditions.{is_any_looked_for}
use Rattle.dap_slice.proofs.SliceLemmas.{plain_counted}
use Rattle.dap_slice.proofs.conditions.ConditionalBreakpoints.slice.Goals as goal

pub returns-else-is_any_looked_for-clause-hits : goal.returns-else-is_any_looked_for-clause-hits
returns-else-is_any_looked_for-clause-hits c = λ b represents running.
    let none : is_any_looked_for c.args.self.now ≡ false =
    ap is_any_looked_for (sym c.self.view_is ∙ sym c.deref.ensures.value)
    ∙ (sym c.is_any_looked_for.ensures ∙ c.if-is_any_looked_for.false) in
    plain_counted c.args.self.now b c.plain_slice.result _ none
    (c.plain_slice.ensures.made b represents running)
