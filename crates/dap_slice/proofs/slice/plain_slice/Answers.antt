use Rattle.dap_slice.proofs.SliceLemmas.{plain_end}
use Rattle.dap_slice.proofs.slice.plain_slice.Goals as goal

pub returns-clause-made : goal.returns-clause-made
returns-clause-made c = λ b represents running.
    plain_end c.args.points.now c.args.most b c.in_ok-executed.field-0 c.ids_told-ids.result
    c.board_slice.new.lab c.requires.plain (c.in_ok-executed.ensures.made b represents running)
    c.ids_told-ids.ensures
