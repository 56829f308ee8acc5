use Rattle.std.proofs.Common.{◌∙◌, ap, sym}
use Rattle.std.proofs.lemmas.Result.{on_ok_weaker}
use Rattle.asm_build.specs.Reading.{symbol_at}
use Rattle.asm_build.specs.Meaning.{with_symbol}
use Rattle.asm_build.proofs.ValueLemmas.{not_false, set_noted}
use Rattle.asm_build.proofs.values.note_set.Goals as goal

pub returns : goal.returns
returns c =
    let label = c.in-Some.label.now in
    let sets = c.args.sets.now in
    on_ok_weaker c.define.result
    (λ e x.
    ap (λ es. symbol_at es x)
    (e ∙ ap (λ n. with_symbol sets n c.given_as.result) c.as_str.ensures
    ∙ ap (with_symbol sets label.name) c.given_as.ensures)
    ∙ set_noted c.in-Some.kind c.args.line.statement.now c.args.line.row label sets x
    (sym c.if-not-is_set.ensures)
    (not_false _ c.if-not-row.false) c.in-Some.ensures)
    c.define.ensures.ok
