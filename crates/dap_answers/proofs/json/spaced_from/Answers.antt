use Rattle.std.proofs.Common.{◌++◌, ◌∷◌, sym, ap, ◌∙◌, get_or, arith}
use Rattle.base_text.specs.Hexadecimal.{upper_byte}
use Rattle.dap_answers.specs.Json.{space}
use Rattle.dap_answers.proofs.SpacedLemmas.{one_more_byte}
use Rattle.dap_answers.proofs.json.spaced_from.Goals as goal

pub loop-byte-preserved : goal.loop-byte-preserved
loop-byte-preserved c =
    let others = c.args.others.now in
    let i = c.loop-byte.byte-index in
    c.in_ok-push_spaced_byte.ensures
    ∙ ap (λ text. text ++ space ∷ upper_byte (get_or others i 0)) c.loop-byte.invariant
    ∙ sym (one_more_byte c.args.first others i (omega arith))
