use Rattle.lab80_web.proofs.PerformLemmas.{call_made, call_cut, call_unmade}
use Rattle.lab80_web.proofs.performing.make.Goals as goal

pub returns-in_default-clause-effect : goal.returns-in_default-clause-effect
returns-in_default-clause-effect g c =
    call_unmade c.args.call.now c.args.kernel.now c.act.new.kernel _ c.requires

pub returns-in-Ok-send_posts-clause-effect : goal.returns-in-Ok-send_posts-clause-effect
returns-in-Ok-send_posts-clause-effect g c =
    call_made c.args.call.now c.args.kernel.now c.act.new.kernel _ _ c.post_count-before.result c.in-Ok.answer
    c.post_count-before.ensures c.in-Ok.ensures c.in-Ok-send_posts.ensures.writes

pub returns-in-Err-clause-effect : goal.returns-in-Err-clause-effect
returns-in-Err-clause-effect g c =
    call_cut c.args.call.now c.args.kernel.now c.act.new.kernel _ _ c.post_count-before.result c.in-Ok.answer
    c.in-Err.fault c.post_count-before.ensures c.in-Ok.ensures c.in-Err.ensures.writes
