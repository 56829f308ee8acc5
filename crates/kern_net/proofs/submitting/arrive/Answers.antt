use Rattle.kern_net.specs.Routes.{source_of}
use Rattle.kern_net.proofs.SubmitLemmas.{arrived, arrival_refused}
use Rattle.kern_net.proofs.submitting.arrive.Goals as goal

pub returns-in-Ok-make_call-clause-submitted : goal.returns-in-Ok-make_call-clause-submitted
returns-in-Ok-make_call-clause-submitted g c =
    let opens = rw c.in-Ok-Some.field-0-is at c.in-Ok-Some.ensures.some in
    arrived (source_of c.args.route.now) c.in-Ok-Some.message _ _ _ _ _ c.requires.other
    c.unix_seconds-unix_seconds.ensures.bound opens
    c.in-Ok.ensures
    c.in-Ok-make_call.ensures.ok

pub returns-in-Err-make_call-clause-submitted : goal.returns-in-Err-make_call-clause-submitted
returns-in-Err-make_call-clause-submitted g c =
    let opens = rw c.in-Ok-Some.field-0-is at c.in-Ok-Some.ensures.some in (
      arrival_refused (source_of c.args.route.now) c.in-Ok-Some.message _ _ _ _ _ c.in-Err-make_call.end
          c.requires.other
          c.unix_seconds-unix_seconds.ensures.bound opens c.in-Ok.ensures c.in-Err-make_call.ensures.err
          c.in-Err-make_call.ensures.onward c.in-Err-make_call.ensures.counted,
      c.in-Err-make_call.ensures.err,
    )
