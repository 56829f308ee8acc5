use Rattle.std.proofs.Common.{◌∙◌, ◌||◌, ◌∷◌, [], map, ap, refl}
use Rattle.std.proofs.lemmas.List.Concat.{flat_map_single}
use Rattle.asm_build.specs.Layout.{is_among}
use Rattle.asm_build.proofs.UseLemmas.{names_go, names_end}
use Rattle.asm_build.proofs.name_set.NameSet.insert_all.Goals as goal

pub loop-name-init : goal.loop-name-init
loop-name-init c = λ x. refl

pub loop-name-preserved : goal.loop-name-preserved
loop-name-preserved c = λ x.
    let adds =
    c.in_ok-insert.ensures x
    ∙ ap (λ n. is_among x (n ∷ []) || is_among x c.loop-name.self) c.as_str.ensures in
    names_go (λ n. n.now ∷ []) c.deref-name-items.result.now c.loop-name.name-index c.name-item.result _ _ _ x
    c.loop-name-test.true c.name-item.is adds (c.loop-name.invariant x)

pub returns : goal.returns
returns c = λ x.
    names_end (λ n. n.now ∷ []) c.deref-name-items.result.now c.loop-name.name-index _ _ x
    c.loop-name-test.false (c.loop-name.invariant x)
    ∙ ap (λ ns. is_among x ns || is_among x c.args.self.now) (flat_map_single (λ n. n.now) _)
    ∙ ap (λ ns. is_among x (map (λ n. n.now) ns) || is_among x c.args.self.now)
    c.deref-name-items.ensures.value
    ∙ ap (λ ns. is_among x ns || is_among x c.args.self.now) c.in_ok-names.ensures
