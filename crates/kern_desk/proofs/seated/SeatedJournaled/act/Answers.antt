use Rattle.std.proofs.Common.{◌≡◌, ◌∙◌, ◌++◌, ◌∷◌, [], ap, sym, length}
use Rattle.kern_core.specs.Turns.{answer_after}
use Rattle.kern_desk.specs.Seats.{SeatedState, calls_of}
use Rattle.kern_desk.proofs.SeatLemmas.{zip-more, calls-zip, length-zipped}
use Rattle.kern_desk.proofs.seated.SeatedJournaled.act.Goals as goal

pub returns-then-is_entry-clause-entered : goal.returns-then-is_entry-clause-entered
returns-then-is_entry-clause-entered c = λ is.
    let ss = c.self.inside.seats.items in
    let cs = c.self.inside.kernel.entries in
    let seats = c.push_reserved.ensures.items ∙ ap (λ xs. xs ++ c.args.seat ∷ []) c.reserve.ensures.items in
    let entries = c.act-answer.ensures.entered is in
    rw (seats, entries) (zip-more ss cs c.args.seat c.args.call c.self.invariant
    ∙ ap (λ (v : SeatedState). v.entries ++ (c.args.seat, c.args.call) ∷ []) c.self.view_is)

pub returns-then-is_entry-clause-answered : goal.returns-then-is_entry-clause-answered
returns-then-is_entry-clause-answered c = λ is.
    let cs = c.self.inside.kernel.entries in
    let same : calls_of c.args.self.now.entries ≡ cs =
    ap (λ (v : SeatedState). calls_of v.entries) (sym c.self.view_is)
    ∙ calls-zip c.self.inside.seats.items cs c.self.invariant in
    c.act-answer.ensures.answered is ∙ ap (λ l. answer_after l c.args.call) (sym same)

pub returns-then-is_entry-clause-room : goal.returns-then-is_entry-clause-room
returns-then-is_entry-clause-room c = λ is.
    let cs = c.self.inside.kernel.entries in
    let same =
    ap (λ (v : SeatedState). length v.entries) (sym c.self.view_is)
    ∙ length-zipped c.self.inside.seats.items cs c.self.invariant in
    let limit = ap (λ (v : SeatedState). v.limit) c.self.view_is in
    rw (same, ← limit) (c.act-answer.ensures.room is)

pub returns-clause-full : goal.returns-clause-full
returns-clause-full c = λ is.
    let cs = c.self.inside.kernel.entries in
    let same =
    ap (λ (v : SeatedState). length v.entries) (sym c.self.view_is)
    ∙ length-zipped c.self.inside.seats.items cs c.self.invariant in
    let limit = ap (λ (v : SeatedState). v.limit) c.self.view_is in
    let full = c.act-answer.ensures.full is in
    (full.0, same ∙ (full.1 ∙ limit))
