use Rattle.zmtp_wire.specs.Progress.{Take}
use Rattle.zmtp_wire.proofs.progress.take_body.Goals as goal

pub returns-in_ok-add_frame-in-Message-clause-ok :
    goal.returns-in_ok-add_frame-in-Message-clause-ok
returns-in_ok-add_frame-in-Message-clause-ok c =
    λ before. rw c.in-Message.is (Take _ _ _ (c.in_ok-add_frame-in-Message.ensures.ok before))
