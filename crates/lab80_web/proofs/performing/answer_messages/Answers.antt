use Rattle.std.proofs.Common.{◌∙◌}
use Rattle.lab80_web.proofs.SessionLemmas.{answering_first, answering_on, answering_cut}
use Rattle.lab80_web.proofs.performing.answer_messages.Goals as goal

pub loop-frames-init : goal.loop-frames-init
loop-frames-init g c = record {
  next = tt;
  writable = c.requires;
  answering = λ s r. answering_first s c.args.messages _ _ _
      (c.into_iter-frames-iterator.ensures.into_iter_gives.0 ∙ c.into_vec-frames-items.ensures) r c.requires;
}

pub loop-frames-preserved : goal.loop-frames-preserved
loop-frames-preserved g c = record {
  next = tt;
  writable = c.in-Ok.ensures.good;
  answering = λ s r. answering_on s c.args.messages c.loop-frames.frames-iterator.rest.items
      c.next.new.self.rest.items c.in-Some.frames _ c.loop-frames.kernel c.answer_message.new.kernel
      (g.W.Outlet.state c.loop-frames.to) (g.W.Outlet.state c.answer_message.new.to)
      c.in-Some.ensures.steps.0 c.in-Ok.ensures.answers (c.loop-frames.invariant.answering s r);
}

pub returns-in-Err-clause-answers : goal.returns-in-Err-clause-answers
returns-in-Err-clause-answers g c = λ s r. (
  answering_cut s c.args.messages c.loop-frames.frames-iterator.rest.items
      c.next.new.self.rest.items c.in-Some.frames _ c.loop-frames.kernel c.answer_message.new.kernel
      (g.W.Outlet.state c.loop-frames.to) (g.W.Outlet.state c.answer_message.new.to) c.in-Err.fault
      c.in-Some.ensures.steps.0 c.in-Err.ensures.answers (c.loop-frames.invariant.answering s r),
  tt,
)
