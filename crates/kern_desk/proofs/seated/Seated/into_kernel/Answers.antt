use Rattle.std.proofs.Common.{◌∙◌, List, ap, sym}
use Rattle.kern_calls.specs.declared.call.Call.{Call}
use Rattle.kern_core.specs.Kernels.{JournalState}
use Rattle.kern_desk.specs.Seats.{SeatedState, calls_of}
use Rattle.kern_desk.proofs.SeatLemmas.{calls-zip}
use Rattle.kern_desk.proofs.seated.Seated.into_kernel.Goals as goal

pub returns : goal.returns
returns c =
    let kernel = c.self.inside.kernel in
    let with_entries : List Call → JournalState = λ es. record { entries = es; limit = kernel.limit } in
    let without_seats : SeatedState → JournalState =
    λ s. record { entries = calls_of s.entries; limit = s.limit } in
    let same = calls-zip c.self.inside.seats.items kernel.entries c.self.invariant in
    sym (ap with_entries same) ∙ ap without_seats c.self.view_is
