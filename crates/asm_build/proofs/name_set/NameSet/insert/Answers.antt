use Rattle.std.proofs.Common.{◌∙◌, ◌||◌, ◌∷◌, [], ap}
use Rattle.asm_build.specs.Layout.{is_among}
use Rattle.asm_build.proofs.NameLemmas.{among_inserted}
use Rattle.asm_build.proofs.name_set.NameSet.insert.Goals as goal

pub returns : goal.returns
returns c = λ x.
    among_inserted x c.args.name.now c.self.inside.names.keys _
    (c.in_ok-insert.ensures.updates.0 (record { ref_ptr = (0, 0); now = x }))
    ∙ ap (λ names. is_among x (c.args.name.now ∷ []) || is_among x names) c.self.view_is
