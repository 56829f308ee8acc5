use Rattle.std.proofs.Common.{◌∙◌, ap}
use Rattle.asm_build.specs.Layout.{is_among}
use Rattle.asm_build.proofs.NameLemmas.{among_texts}
use Rattle.asm_build.proofs.name_set.NameSet.contains.Goals as goal

pub returns : goal.returns
returns c =
    c.contains.ensures ∙ among_texts c.args.name.now c.self.inside.names.keys
    ∙ ap (λ names. is_among c.args.name.now names) c.self.view_is
