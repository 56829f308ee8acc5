use Rattle.std.proofs.Common.{All, sym, subst}
use Rattle.std.proofs.lemmas.List.Elements.{All-push}
use Rattle.kern_host.specs.Guests.{IsComing}
use Rattle.refusal_tests.proofs.host.guests_of.Goals as goal

pub loop-script-preserved : goal.loop-script-preserved
loop-script-preserved c =
    subst (λ xs. All IsComing xs) (sym c.in_ok-push.ensures.items)
    (All-push IsComing c.loop-script.guests.items c.in_ok-guest_of.field-0 c.loop-script.invariant
    c.in_ok-guest_of.ensures)
