use Rattle.std.proofs.Common.{◌∙◌, ◌+◌, ◌∷◌, ◌++◌, [], sym, ap, refl}
use Rattle.std.proofs.lemmas.List.FromFn.{map-range_with_len_more}
use Rattle.dap_scopes.specs.Rows.{memory_row}
use Rattle.dap_scopes.proofs.rows.memory.Goals as goal

pub loop-offset-preserved : goal.loop-offset-preserved
loop-offset-preserved c = λ b s.
    let address = c.args.start + c.loop-offset.offset in
    let row = memory_row c.args.format b.machine in
    c.in_ok-push_byte.ensures b s
    ∙ ap (λ made. made ++ row address ∷ []) (c.loop-offset.invariant b s)
    ∙ sym (map-range_with_len_more row c.args.start c.loop-offset.offset address refl)
