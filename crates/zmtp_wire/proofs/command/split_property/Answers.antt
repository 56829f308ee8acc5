use Rattle.std.proofs.Common.{sym, length, ◌++◌, ◌≡◌, ◌<◌}
use Rattle.std.proofs.lemmas.List.{take-append-drop}
use Rattle.zmtp_wire.specs.Framing.{number_from}
use Rattle.zmtp_wire.proofs.CommandLemmas.{too_long}
use Rattle.zmtp_wire.proofs.command.split_property.Goals as goal

pub returns-then-size-others-clause-none : goal.returns-then-size-others-clause-none
returns-then-size-others-clause-none c =
    let digits = c.split_at.result.0.now in
    let after = c.split_at.result.1.now in
    let front = c.split_at.ensures.front in
    let back = c.split_at.ensures.back in
    let whole : c.in_ok-name.field-0.others.now ≡ digits ++ after =
    sym (rw (front, back) (take-append-drop 4 c.in_ok-name.field-0.others.now)) in
    let long : length after < number_from 0 digits = rw c.number_of-size.ensures at c.if-size-others.true in
    too_long c.args.bytes.now c.in_ok-name.field-0.name.now c.in_ok-name.field-0.others.now digits after
    c.in_ok-name.ensures.found whole c.split_at.ensures.front_len long
