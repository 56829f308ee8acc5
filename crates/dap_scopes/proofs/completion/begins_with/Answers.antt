use Rattle.std.proofs.Common.{◌≡◌, ◌∙◌, ap, map, take, length}
use Rattle.std.specs.Char.{to_ascii_lowercase}
use Rattle.std.specs.Str.{str_eq_ignore_ascii_case}
use Rattle.std.proofs.lemmas.Bool.Decides.{same_from_decides}
use Rattle.std.proofs.lemmas.List.{take_min}
use Rattle.std.proofs.lemmas.Slice.Eq.{bytes_eq-Decides}
use Rattle.dap_scopes.proofs.completion.begins_with.Goals as goal

pub returns : goal.returns
returns c =
    let name = c.args.name.now in
    let word = c.args.word.now in
    let front = c.split_at.result.0.now in
    let is_front : front ≡ take (length word) name =
    c.split_at.ensures.front ∙ ap (λ n. take n name) c.min.ensures ∙ take_min (length word) name in
    same_from_decides _ _ c.eq_ignore_ascii_case.ensures.test
    (bytes_eq-Decides (map to_ascii_lowercase front) (map to_ascii_lowercase word))
    ∙ ap (λ f. str_eq_ignore_ascii_case f word) is_front
