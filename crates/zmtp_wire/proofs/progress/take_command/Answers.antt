use Rattle.std.proofs.Common.{refl}
use Rattle.zmtp_wire.specs.Progress.{Accept}
use Rattle.zmtp_wire.proofs.ProgressLemmas.{skip_of, refused_of}
use Rattle.zmtp_wire.proofs.progress.take_command.Goals as goal

pub returns-in_ok-identity-in-Ok-clause-ok : goal.returns-in_ok-identity-in-Ok-clause-ok
returns-in_ok-identity-in-Ok-clause-ok c = λ before.
    Accept _ _ _ c.in-Handshake.is
    (rw c.in_ok-identity-in-Ok.ensures c.in-Ok.ensures.ok) refl

pub returns-in_default : goal.returns-in_default
returns-in_default c =
    record {
      ok = λ before. skip_of _ _ _ c.requires c.in_default.not-Handshake c.if-is_skipped.ensures.yes;
      err = tt;
    }

pub returns-in_default-2 : goal.returns-in_default-2
returns-in_default-2 c =
    record {
      ok = (refl, refused_of _ _ _ c.requires c.in_default-2.not-Handshake c.if-is_skipped.ensures.no);
      err = tt;
    }
