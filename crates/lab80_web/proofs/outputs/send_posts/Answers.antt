use Rattle.lab80_web.proofs.PostingLemmas.{posting_first, posting_on, posting_cut, posting_all}
use Rattle.lab80_web.proofs.outputs.send_posts.Goals as goal

pub loop-number-init : goal.loop-number-init
loop-number-init g c = record { writable = c.requires; posting = posting_first _ _ _ }

pub loop-number-preserved : goal.loop-number-preserved
loop-number-preserved g c = record {
  writable = c.in-Ok.ensures.good;
  posting = posting_on c.args.kernel.now c.args.after c.loop-number.number _ _ _ _ c.loop-number.auto.number
      c.loop-number-test.true c.post_count-number-end.ensures c.in-Ok.ensures.writes
      c.loop-number.invariant.posting;
}

pub returns-in-Err-clause-writes : goal.returns-in-Err-clause-writes
returns-in-Err-clause-writes g c =
    posting_cut c.args.kernel.now c.args.after c.loop-number.number _ _ _ _ c.in-Err.fault
    c.loop-number.auto.number c.loop-number-test.true c.post_count-number-end.ensures c.in-Err.ensures.writes
    c.loop-number.invariant.posting

pub returns-clause-writes : goal.returns-clause-writes
returns-clause-writes g c =
    posting_all c.args.kernel.now c.args.after c.loop-number.number _ _ _ c.loop-number-test.false
    c.post_count-number-end.ensures c.loop-number.invariant.writable c.loop-number.invariant.posting
