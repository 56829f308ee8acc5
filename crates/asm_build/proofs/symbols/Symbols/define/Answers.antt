use Rattle.std.proofs.Common.{◌≡◌, ◌∙◌, length, ap, sym, arith, rules, vec_len}
use Rattle.std.proofs.lemmas.Result.{on_ok_weaker}
use Rattle.asm_build.specs.Meaning.{with_symbol}
use Rattle.asm_build.specs.Texts.{entries_in, place_in}
use Rattle.asm_build.proofs.PlaceLemmas.{place_within, new_symbol, replaced_at, same_place}
use Rattle.asm_build.proofs.symbols.Symbols.define.Goals as goal

pub index_mut-requires : goal.index_mut-requires
index_mut-requires c =
    let entries = c.self.inside.entries in
    let whole : vec_len entries ≡ length entries.items = search rules in
    let within =
    place_within entries.items c.args.name.now c.in-Some.place.now
    (sym (c.in-Some.ensures.value ∙ c.self.invariant c.args.name.now)) in
    omega (arith, whole, within)

pub invariant_of-self : goal.invariant_of-self
invariant_of-self c = λ y.
    let x = c.args.name.now in
    let items = c.self.inside.entries.items in
    let i = c.in-Some.place.now in
    let there = sym (c.in-Some.ensures.value ∙ c.self.invariant x) in
    c.self.invariant y ∙ sym (same_place (entries_in items) x y c.args.symbol i there)
    ∙ ap (λ es. place_in es y)
    (sym (replaced_at items x i c.args.symbol c.index_mut.result.now there c.index_mut.ensures.value))

pub returns-in-None-clause-ok : goal.returns-in-None-clause-ok
returns-in-None-clause-ok c =
    let x = c.args.name.now in
    let new =
    sym (ap (λ es. place_in es x) c.self.view_is) ∙ sym (c.in-None.ensures.value ∙ c.self.invariant x) in
    on_ok_weaker c.add.result (λ e. e ∙ sym (new_symbol c.args.self.now x c.args.symbol new))
    c.add.ensures.ok

pub returns-in-Some-clause-ok : goal.returns-in-Some-clause-ok
returns-in-Some-clause-ok c =
    let x = c.args.name.now in
    replaced_at c.self.inside.entries.items x c.in-Some.place.now c.args.symbol c.index_mut.result.now
    (sym (c.in-Some.ensures.value ∙ c.self.invariant x)) c.index_mut.ensures.value
    ∙ ap (λ es. with_symbol es x c.args.symbol) c.self.view_is
