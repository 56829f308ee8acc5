use Rattle.std.proofs.Common.{◌∙◌}
use Rattle.zmtp_wire.specs.declared.role.Role.TheVariants.{Router}
use Rattle.zmtp_wire.proofs.SendingLemmas.{wrote_whole, wrote_ready, wrote_greeting}
use Rattle.lab80_web.proofs.serve.begin.Goals as goal

pub returns-in-Ok-write_all : goal.returns-in-Ok-write_all
returns-in-Ok-write_all g c = (
  wrote_whole _ (g.W.Outlet.state c.write_all.new.to) _ c.greeting.result.now c.ready-ready.result.now Router
      c.greeting.ensures.bytes c.ready-ready.ensures c.in-Ok.ensures.ok c.in-Ok-write_all.ensures.ok,
  c.in-Ok-write_all.ensures.good ∙ (c.in-Ok.ensures.good ∙ c.requires),
)

pub returns-in-Err-write_all : goal.returns-in-Err-write_all
returns-in-Err-write_all g c = (
  wrote_ready _ (g.W.Outlet.state c.write_all.new.to) _ c.greeting.result.now c.ready-ready.result.now Router
      c.greeting.ensures.bytes c.ready-ready.ensures c.in-Ok.ensures.ok c.in-Err-write_all.ensures.front,
  c.in-Err-write_all.ensures.err,
)

pub returns-in-Err : goal.returns-in-Err
returns-in-Err g c = (
  wrote_greeting _ _ c.greeting.result.now c.ready-ready.result.now Router c.greeting.ensures.bytes
      c.ready-ready.ensures c.in-Err.ensures.front,
  c.in-Err.ensures.err,
)
