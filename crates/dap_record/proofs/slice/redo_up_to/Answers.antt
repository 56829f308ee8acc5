use Rattle.dap_record.proofs.SliceLemmas.{next_made, next_passed}
use Rattle.dap_record.proofs.slice.redo_up_to.Goals.{then-recorded-count+in_ok-redo, else-recorded-count}
use Rattle.dap_record.proofs.slice.redo_up_to.Goals as goal

pub loop-recorded-preserved : goal.loop-recorded-preserved
loop-recorded-preserved c = λ s represents.
    let i = c.loop-recorded.recorded-index in
    let r = c.recorded-item.result in
    let before = c.loop-recorded.invariant s represents in
    elim c.if-recorded-count.branch [
      | then-recorded-count+in_ok-redo w ↦ (
          let is =
          next_made c.args.count i c.args.inputs.now r s.board c.loop-recorded-test.true c.recorded-item.is
          w.if-recorded-count.true in
          rw (w.session-is, is) (w.in_ok-redo.ensures.ok _ before)
          )
      | else-recorded-count w ↦ (
          let is =
          next_passed c.args.count i c.args.inputs.now r s.board c.loop-recorded-test.true c.recorded-item.is
          w.if-recorded-count.false in
          rw (w.session-is, is) before
          )
    ]
