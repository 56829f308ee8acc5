use Rattle.std.proofs.Common.{◌≡◌, ◌∷◌, [], Some, sym, ap, subst}
use Rattle.atomic_table.specs.Table.{opening}
use Rattle.lab_turn.specs.Turns.{Ruled, first_view}
use Rattle.lab_turn.proofs.Steps.{begins}
use Rattle.lab_turn.proofs.turnstile.table_over.Goals as goal

pub new-requires : goal.new-requires
new-requires g c =
    let E = g.J.Journaled.entries in
    let L = g.J.Journaled.limit in
    let u = c.of.result.value in
    let items : c.in_ok-slots.slots.items ≡ Some c.args.value ∷ [] = c.in_ok-slots.ensures.ok in
    subst (λ xs. Ruled E L c.args.seats (L u) (opening (0 ∷ 0 ∷ []) xs (first_view c.args.seats (L u))))
    (sym items) (begins E L (L u) c.args.seats c.args.value c.requires.fresh (ap L (sym c.of.ensures))
    c.requires.seats)
