use Rattle.std.proofs.Common.{◌∙◌, ◌+◌, ◌∷◌, ◌++◌, [], sym, ap, refl}
use Rattle.std.proofs.lemmas.List.FromFn.{map-range_with_len_more}
use Rattle.lab_shown.specs.declared.place.Place.TheVariants.{Memory}
use Rattle.dap_breakpoints.proofs.place.byte_places.Goals as goal

pub loop-index-preserved : goal.loop-index-preserved
loop-index-preserved c =
    let address = c.args.address + c.loop-index.index in
    c.in_ok-push.ensures.ok
    ∙ ap (λ made. made ++ Memory address ∷ []) c.loop-index.invariant
    ∙ sym (map-range_with_len_more (λ at. Memory at) c.args.address c.loop-index.index address refl)
