use Rattle.std.proofs.Common.{◌≡◌, ◌||◌, true, nat_lt, length, sym, ◌∙◌, subst}
use Rattle.cli_io.specs.TextState.{TextState}
use Rattle.cli_io.proofs.TextLemmas.{takes_cut, bad_kept}
use Rattle.cli_io.proofs.text_input.TextInput.feed.Goals as goal

pub returns-in-Ok-cut-clause-ok : goal.returns-in-Ok-cut-clause-ok
returns-in-Ok-cut-clause-ok c =
    let cut = c.in-Ok-cut.ensures.ok in
    let past = subst (λ (t : TextState). (t.is_long || nat_lt t.limit (length t.kept)) ≡ true)
    (sym c.self.view_is)
    (sym c.is_past_limit.ensures ∙ c.if-not-is_past_limit.false) in
    takes_cut c.args.self.now _ c.cut.new.self c.args.piece.now cut.0 (c.self.view_is
    ∙ c.in-Ok.ensures.ok) past cut.1 cut.2

pub returns-in-Err-clause-bad : goal.returns-in-Err-clause-bad
returns-in-Err-clause-bad c is_bad =
    bad_kept c.args.self.now _ c.args.piece.now (c.self.view_is ∙ c.in-Ok.ensures.ok)
    (c.in-Err.ensures.bad is_bad)
