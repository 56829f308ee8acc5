use Rattle.std.proofs.Common.{◌∙◌, slice_get, ap, sym}
use Rattle.kern_desk.specs.Seats.{SeatedState}
use Rattle.kern_desk.proofs.SeatLemmas.{both, no-seat, no-call}
use Rattle.kern_desk.proofs.seated.Seated.entry.Goals as goal

pub returns-in_err-seat : goal.returns-in_err-seat
returns-in_err-seat c =
    let seats = c.self.inside.seats.items in
    let calls = c.self.inside.kernel.entries in
    let none =
    ap (λ xs. slice_get xs c.args.place) (sym c.as_slice.ensures.value) ∙ sym c.in_err-seat.ensures in
    let gone = no-seat seats calls c.args.place none in
    rw c.from_residual.ensures (sym gone ∙ ap (λ (s : SeatedState). slice_get s.entries c.args.place)
    c.self.view_is)

pub returns-in_err-call : goal.returns-in_err-call
returns-in_err-call c =
    let seats = c.self.inside.seats.items in
    let calls = c.self.inside.kernel.entries in
    let gone = no-call seats calls c.args.place (sym c.in_err-call.ensures) in
    rw c.from_residual-in_err-call.ensures
    (sym gone ∙ ap (λ (s : SeatedState). slice_get s.entries c.args.place) c.self.view_is)

pub returns : goal.returns
returns c =
    let seats = c.self.inside.seats.items in
    let calls = c.self.inside.kernel.entries in
    let seat =
    ap (λ xs. slice_get xs c.args.place) (sym c.as_slice.ensures.value) ∙ sym c.in_ok-seat.ensures in
    let call = sym c.in_ok-call.ensures in
    let there = both seats calls c.args.place c.in_ok-seat.seat c.in_ok-call.call.now seat call in
    sym there ∙ ap (λ (s : SeatedState). slice_get s.entries c.args.place) c.self.view_is
