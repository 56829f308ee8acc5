use Rattle.std.proofs.Common.{◌≡◌, ◌∙◌, true, false, sym}
use Rattle.std.specs.Option.{IsSome}
use Rattle.lab_core.specs.Stops.{is_done, earlier, since}
use Rattle.lab_core.proofs.QuietLemmas.{done_followed}
use Rattle.lab_core.proofs.lab.Context.is_reached.Goals as goal

pub returns-then-is_done : goal.returns-then-is_done
returns-then-is_done c = λ lab b traffic s.
    let asked : IsSome b.request = rw (← s.request) c.requires in
    let done : is_done c.args.request.kind (earlier b) (since b) ≡ true =
    sym (done_followed c.args.request.kind c.args.self.now b s.frames (s.follows asked))
    ∙ sym c.is_done.ensures ∙ c.if-is_done.true in
    rw done (c.is_there.ensures lab b traffic s)

pub returns-else-is_done : goal.returns-else-is_done
returns-else-is_done c = λ lab b traffic s.
    let asked : IsSome b.request = rw (← s.request) c.requires in
    let not_done : is_done c.args.request.kind (earlier b) (since b) ≡ false =
    sym (done_followed c.args.request.kind c.args.self.now b s.frames (s.follows asked))
    ∙ sym c.is_done.ensures ∙ c.if-is_done.false in
    rw not_done c.if-is_done.false
