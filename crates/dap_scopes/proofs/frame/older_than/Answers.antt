use Rattle.std.proofs.Common.{◌∙◌, Some, reverse, sym, ap}
use Rattle.dap_scopes.proofs.FrameLemmas.{older_here, older_later}
use Rattle.dap_scopes.proofs.frame.older_than.Goals as goal

pub returns-then-frame_at-address : goal.returns-then-frame_at-address
returns-then-frame_at-address c =
    ap Some c.get.ensures
    ∙ sym (older_here c.args.address (reverse c.args.frames.now) c.loop-age.age c.frame_at.result
    c.frame_at.ensures c.if-frame_at-address.true)
    ∙ c.loop-age.invariant

pub loop-age-preserved : goal.loop-age-preserved
loop-age-preserved c =
    sym (older_later c.args.address (reverse c.args.frames.now) c.loop-age.age c.frame_at.result
    c.frame_at.ensures c.if-frame_at-address.false)
    ∙ c.loop-age.invariant
