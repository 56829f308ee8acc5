use Rattle.lab80_web.proofs.PerformLemmas.{acts, had_memory}
use Rattle.std.proofs.Common.{◌∙◌, sym}
use Rattle.lab80_web.proofs.performing.act.Goals as goal

pub returns : goal.returns
returns c = λ s r.
    let e = acts c.args.call.now _ _ c.act-reply.result c.act-reply.ensures
    (had_memory c.act-reply.result (sym c.lacks_memory.ensures ∙ c.if-lacks_memory.false)) s r in
    (c.answer_of.ensures ∙ e.0, e.1, e.2)
