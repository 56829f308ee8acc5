use Rattle.lab80_web.specs.Outputs.{OfAnswer}
use Rattle.lab80_web.proofs.OutputLemmas.{writes_one, began_none}
use Rattle.lab80_web.proofs.outputs.send_answer.Goals as goal

pub returns-in-Ok : goal.returns-in-Ok
returns-in-Ok g c =
    writes_one (OfAnswer c.args.answer) c.in-Ok.frames _ _ c.send.result c.in-Ok.ensures c.send.ensures

pub returns-in-Err : goal.returns-in-Err
returns-in-Err g c = (began_none _ _, c.requires)
