use Rattle.jup_wire.proofs.VerdictLemmas.{only_this, first_fault}
use Rattle.jup_wire.proofs.opening.open_message.Goals as goal

pub returns : goal.returns
returns c =
    record {
      message = c.open.ensures.message;
      refused = c.open.ensures.refused;
      only = only_this _ _ _ c.open.ensures.message c.open.ensures.refused;
      first = first_fault _ _ _ c.open.ensures.message c.open.ensures.refused;
    }
