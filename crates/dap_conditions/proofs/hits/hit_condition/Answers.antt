use Rattle.std.proofs.Common.{sym, ◌∙◌, ap}
use Rattle.dap_conditions.specs.HitConditions.{by_sign}
use Rattle.dap_conditions.proofs.HitLemmas.{no_sign, without_sign}
use Rattle.dap_conditions.proofs.hits.hit_condition.Goals as goal

pub returns : goal.returns
unfolding lib.Utf8.encode
returns c =
    let text = c.trim-text.result.now in
    c.exactly.ensures
    ∙ sym (without_sign text (no_sign 62 text c.in_default.ensures.cases)
    (no_sign 60 text c.in_default-strip_prefix.ensures.cases)
    (no_sign 37 text c.in_default-strip_prefix-2.ensures.cases)
    (no_sign 61 text c.in_default-strip_prefix-3.ensures.cases))
    ∙ ap by_sign c.trim-text.ensures.trim
