use Rattle.std.proofs.Common.{◌≡◌, List, ◌∙◌, ◌++◌, ◌∷◌, [], Some, cond, length, ap, rules, vec_len}
use Rattle.std.specs.HashMap.{get_by_text}
use Rattle.std.specs.Str.{bytes_eq}
use Rattle.std.specs.String.{string_bytes}
use Rattle.std.proofs.lemmas.Map.Text.{hash_map_updates_text}
use Rattle.asm_build.specs.Texts.{place_in}
use Rattle.asm_build.proofs.PlaceLemmas.{Entry, added_place}
use Rattle.asm_build.proofs.symbols.Symbols.add.Goals as goal

pub invariant_of-self-2 : goal.invariant_of-self-2
invariant_of-self-2 c = λ y.
    let x = c.args.name.now in
    let old = c.self.inside in
    let index = c.len.result in
    let text = c.in_ok-text.text in
    let whole : vec_len old.entries ≡ length old.entries.items = search rules in
    added_place old.entries.items c.push.new.self.items text x y c.args.symbol index
    (get_by_text old.places y) (get_by_text c.insert.new.self y)
    (ap (λ es. place_in es x) c.self.view_is ∙ c.requires) c.in_ok-text.ensures.ok
    (c.in_ok-push.ensures.items
    ∙ ap (λ (es : List Entry). es ++ (text, c.args.symbol) ∷ []) c.in_ok-reserve.ensures.items)
    (c.len.ensures ∙ c.in_ok-reserve.ensures.len ∙ whole) (c.self.invariant y)
    (hash_map_updates_text (string_bytes c.in_ok-key.key) old.places c.insert.new.self (Some index)
    c.in_ok-insert.ensures.updates y
    ∙ ap (λ k. cond (bytes_eq k y) (Some index) (get_by_text old.places y)) c.in_ok-key.ensures.ok)
