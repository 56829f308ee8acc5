use Rattle.std.proofs.Common.{ℕ, List, sym, subst}
use Rattle.jup_wire.specs.Dates.{IsDate}
use Rattle.lab_term.proofs.RequestLemmas.{request_is}
use Rattle.lab_term.proofs.cell.request_of.Goals as goal

pub returns : goal.returns
returns c =
    let cell = c.args.cell.now in
    let P : List ℕ → Type 0 = λ l. IsDate cell.unix_seconds l in
    request_is cell c.as_str.result.now
    c.in_ok-header.header c.in_ok-frames.frames
    (subst P (sym c.as_str.ensures) c.in_ok-date.ensures) c.in_ok-frames.ensures c.in_ok-header.ensures
