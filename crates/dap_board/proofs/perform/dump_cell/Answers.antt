use Rattle.std.proofs.Common.{◌≡◌, ◌∙◌, ap, rules}
use Rattle.dap_answers.specs.Murmur.{cell_path}
use Rattle.dap_board.proofs.CommandLemmas.{does_dump}
use Rattle.dap_board.proofs.perform.dump_cell.Goals as goal

pub returns : goal.returns
returns c =
    let path : c.in_ok-path.path ≡ cell_path c.args.code.now =
    c.in_ok-path.ensures ∙ ap cell_path c.as_str.ensures in
    let text : c.in_ok-text.text ≡ c.args.code.now = search rules in
    let answer : c.in_ok-answer.answer ≡ c.in_ok-path.path = search rules in
    (does_dump _ _ _ _ _ c.args.code.now _ path text answer c.apply_for.ensures.0, search rules)
