use Rattle.std.proofs.Common.{ℕ, ◌<◌, List, ◌++◌, length, take, arith, ap, ◌∙◌, subst}
use Rattle.std.specs.List.{concat}
use Rattle.jup_wire.specs.Keyed.{HasTaken}
use Rattle.jup_wire.proofs.SignatureLemmas.{concat_more}
use Rattle.jup_wire.proofs.signature.code_of.Goals as goal

pub loop-frame-preserved : goal.loop-frame-preserved
loop-frame-preserved c =
    let inside : c.loop-frame.frame-index < length c.args.frames.now = omega arith in
    let more =
    ap (λ (x : List ℕ). concat (take c.loop-frame.frame-index c.args.frames.now) ++ x) c.as_slice.ensures
    ∙ concat_more c.args.frames.now c.loop-frame.frame-index c.frame-item.result inside c.frame-item.is in
    subst (λ (text : List ℕ). HasTaken c.update.new.self c.args.key.now text) more
    (c.update.ensures c.args.key.now _ c.loop-frame.invariant)
