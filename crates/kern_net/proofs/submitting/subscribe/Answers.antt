use Rattle.kern_net.specs.Routes.{source_of}
use Rattle.kern_net.proofs.SubmitLemmas.{subscribed, subscription_refused}
use Rattle.kern_net.proofs.submitting.subscribe.Goals as goal

pub returns-in-Ok-make_call-clause-submitted : goal.returns-in-Ok-make_call-clause-submitted
returns-in-Ok-make_call-clause-submitted g c =
    subscribed (source_of c.args.route.now) _ _ _ _ _ _ _ c.requires.iopub
    c.unix_seconds-unix_seconds.ensures.bound
    c.in-Some.ensures.some
    c.in-Ok.ensures c.in-Ok-make_call.ensures.ok

pub returns-in-Err-make_call-clause-submitted : goal.returns-in-Err-make_call-clause-submitted
returns-in-Err-make_call-clause-submitted g c = (
  subscription_refused (source_of c.args.route.now) _ _ _ _ _ _ _ c.in-Err-make_call.end c.requires.iopub
      c.unix_seconds-unix_seconds.ensures.bound
      c.in-Some.ensures.some c.in-Ok.ensures c.in-Err-make_call.ensures.err c.in-Err-make_call.ensures.onward
      c.in-Err-make_call.ensures.counted,
  c.in-Err-make_call.ensures.err,
)
