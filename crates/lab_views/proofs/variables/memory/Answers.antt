use Rattle.std.proofs.Common.{◌∙◌, ◌+◌, ◌∷◌, ◌++◌, [], sym, ap, refl}
use Rattle.std.proofs.lemmas.List.FromFn.{map-range_with_len_more}
use Rattle.lab_views.specs.Variables.{memory_variable}
use Rattle.lab_views.proofs.variables.memory.Goals as goal

pub loop-offset-preserved : goal.loop-offset-preserved
loop-offset-preserved c =
    let m = c.args.machine.now in
    let address = c.args.start + c.loop-offset.offset in
    c.in_ok-push_memory.ensures
    ∙ ap (λ made. made ++ memory_variable m address ∷ []) c.loop-offset.invariant
    ∙ sym (map-range_with_len_more (memory_variable m) c.args.start c.loop-offset.offset address refl)
