use Rattle.std.proofs.Common.{sym, ◌∙◌}
use Rattle.cli_io.proofs.Utf8Lemmas.{few_left, never_text, splits_valid}
use Rattle.cli_io.proofs.text_input.whole_characters.Goals as goal

pub returns-in-None-clause-some : goal.returns-in-None-clause-some
returns-in-None-clause-some c =
    rw c.valid_up_to.ensures
    (splits_valid _ _ c.in-Err.ensures.cases.1
    (few_left _ _ _ c.in-Err.ensures.error_len (sym c.error_len.ensures ∙ c.in-None.is)))

pub returns-in-Some-clause-none : goal.returns-in-Some-clause-none
returns-in-Some-clause-none c =
    never_text _ _ _ c.in-Err.ensures.cases.1 (sym c.in-Err.ensures.fault ∙ (sym c.error_len.ensures
    ∙ c.in-Some.is))
