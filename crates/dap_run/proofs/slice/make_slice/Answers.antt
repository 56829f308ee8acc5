use Rattle.std.proofs.Common.{◌∙◌}
use Rattle.dap_slice.specs.SliceEnds.{slice_end_within, after_end}
use Rattle.dap_run.proofs.SliceLemmas.{told_slice, is_slice}
use Rattle.dap_run.proofs.slice.make_slice.Goals as goal

pub returns-in-Ok-clause-made : goal.returns-in-Ok-clause-made
returns-in-Ok-clause-made c = λ b represents running.
    let points = c.args.points.now in
    let end = slice_end_within points c.args.limit b in
    let made = c.in-Ok.ensures.made b represents running in
    let told = told_slice points b _ _ _ _ _ _ (c.in_ok-lines.ensures b represents)
    c.in_ok-logs.ensures.items c.tell-messages.ensures.told c.told_after.ensures in
    is_slice end (record { points = points; held = c.args.held; has_asked = c.args.has_asked }) b _
    c.as_slice.result.now c.as_slice-in-Ok.result.now _ _ _ _ _ _ made.0.executed
    (c.as_slice.ensures ∙ made.0.traffic) (c.as_slice-in-Ok.ensures ∙ made.0.traffic) made.0.change
    made.0.ids made.0.outcome
    c.asks_line-asks_line.ensures told
    (c.hold_at_end.ensures (after_end end b) made.1)
