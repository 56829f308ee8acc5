use Rattle.std.proofs.Common.{◌∙◌, sym}
use Rattle.lab80_web.proofs.SessionLemmas.{run_first, run_on, run_all, run_over, run_cut}
use Rattle.lab80_web.proofs.performing.run.Goals as goal

pub loop-init : goal.loop-init
loop-init g c = record { writable = c.requires; run = λ s r. run_first _ _ s _ _ r c.requires }

pub loop-preserved : goal.loop-preserved
loop-preserved g c = record {
  writable = c.in-Ok.ensures.good;
  run = λ s r. run_on c.args.unix_seconds c.args.count c.loop.counter s _ c.loop.kernel c.slice.new.kernel
      (g.W.Outlet.state c.loop.to) (g.W.Outlet.state c.slice.new.to) c.in-Ok.answer c.loop-test.true
      (sym c.is_more.ensures ∙ c.if-not-is_more.false) c.in-Ok.ensures.effect (c.loop.invariant.run s r);
}

pub returns-then-not-is_more-clause-effect : goal.returns-then-not-is_more-clause-effect
returns-then-not-is_more-clause-effect g c = λ s r.
    let e = run_over c.args.unix_seconds c.args.count c.loop.counter s _ c.loop.kernel c.slice.new.kernel
    (g.W.Outlet.state c.loop.to) (g.W.Outlet.state c.slice.new.to) c.in-Ok.answer c.loop-test.true
    (sym c.is_more.ensures ∙ c.if-not-is_more.true) c.in-Ok.ensures.effect (c.loop.invariant.run s r) in
    ((e.0, e.1), e.2)

pub returns-in-Err-clause-effect : goal.returns-in-Err-clause-effect
returns-in-Err-clause-effect g c = λ s r. (
  run_cut c.args.unix_seconds c.args.count c.loop.counter s _ c.loop.kernel c.slice.new.kernel
      (g.W.Outlet.state c.loop.to) (g.W.Outlet.state c.slice.new.to) c.in-Err.fault c.loop-test.true
      c.in-Err.ensures.effect (c.loop.invariant.run s r),
  tt,
)

pub returns-clause-effect : goal.returns-clause-effect
returns-clause-effect g c = λ s r.
    let e = run_all c.args.unix_seconds c.args.count c.loop.counter s _ c.loop.kernel
    (g.W.Outlet.state c.loop.to) c.loop-test.false (c.loop.invariant.run s r) in
    ((e.0, e.1), e.2)
