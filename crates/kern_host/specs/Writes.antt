-- What a connection's writer did, if it began.
use Rattle.std.specs.Prelude.{◌≡◌, ℕ, Bool, true, false, Option, Some, None}
use Rattle.kern_net.specs.declared.end.PumpEnd.{PumpEnd}
use Rattle.kern_net.specs.Gates.{WriterPolls, with_answer}
use Rattle.kern_net.specs.Routes.{Target}
use Rattle.kern_net.specs.Out.{Writer, WroteOut}

-- The writer's gate once it was decided whether to write. A decision against it counts as an answer no.
abbrev pub when_decided : Bool → WriterPolls → WriterPolls
when_decided true p = p
when_decided false p = record p { idle = with_answer false p.idle }

-- nothing was fetched and nothing was written
pub record WroteNothing (old new : Writer) : Type 0 where
  pub outlet : new.outlet ≡ old.outlet
  pub pass : new.pass ≡ old.pass
  pub gate : new.polls ≡ when_decided false old.polls

-- the posts were written from this number on, to this end; or nothing was
abbrev pub WroteIfAny : Target → ℕ → Writer → Writer → Option PumpEnd → Type 0
WroteIfAny target from old new (Some e) = WroteOut target from old new e
WroteIfAny target from old new None = WroteNothing old new
