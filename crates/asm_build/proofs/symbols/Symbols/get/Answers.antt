use Rattle.std.proofs.Common.{◌≡◌, ◌∙◌, Some, length, ap, sym, arith, rules, vec_len}
use Rattle.asm_build.specs.Reading.{symbol_at}
use Rattle.asm_build.specs.Texts.{entries_in}
use Rattle.asm_build.proofs.PlaceLemmas.{Entry, placed, place_within, unplaced}
use Rattle.asm_build.proofs.symbols.Symbols.get.Goals as goal

pub index-requires : goal.index-requires
index-requires c =
    let entries = c.self.inside.entries in
    let whole : vec_len entries ≡ length entries.items = search rules in
    let within =
    place_within entries.items c.args.name.now c.in-Some.place.now
    (sym (c.in-Some.ensures.value ∙ c.self.invariant c.args.name.now)) in
    omega (arith, whole, within)

pub returns-in-None : goal.returns-in-None
returns-in-None c =
    let x = c.args.name.now in
    sym (unplaced (entries_in c.self.inside.entries.items) x
    (sym (c.in-None.ensures.value ∙ c.self.invariant x)))
    ∙ ap (λ m. symbol_at m x) c.self.view_is

pub returns-in-Some : goal.returns-in-Some
returns-in-Some c =
    let x = c.args.name.now in
    let there =
    placed c.self.inside.entries.items x c.in-Some.place.now c.index.result.now
    (sym (c.in-Some.ensures.value ∙ c.self.invariant x)) in
    ap (λ (e : Entry). Some e.1) c.index.ensures ∙ sym there.1 ∙ ap (λ m. symbol_at m x) c.self.view_is
