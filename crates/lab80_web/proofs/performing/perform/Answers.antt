use Rattle.lab80_web.proofs.PerformLemmas.{call_effect, refusal_effect}
use Rattle.lab80_web.proofs.performing.perform.Goals as goal

pub returns-in-Call-clause-effect : goal.returns-in-Call-clause-effect
returns-in-Call-clause-effect g c =
    call_effect c.args.item c.in-Call.call _ _ c.make.result c.in-Call.is c.make.ensures.effect

pub returns-in-Refused-clause-effect : goal.returns-in-Refused-clause-effect
returns-in-Refused-clause-effect g c =
    refusal_effect c.args.item c.in-Refused.refusal _ _ c.in-Refused.is c.requires
