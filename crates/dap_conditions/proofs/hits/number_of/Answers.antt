use Rattle.std.proofs.Common.{arith}
use Rattle.std.specs.Str.Parse.{without_leading_plus}
use Rattle.dap_conditions.proofs.HitLemmas.{some_number, no_number}
use Rattle.dap_conditions.proofs.hits.number_of.Goals as goal

pub returns-in-Ok : goal.returns-in-Ok
returns-in-Ok c =
    let told = c.in-Ok.ensures.value.0 in
    rw (← c.trim.ensures.trim, told.1)
    (some_number (without_leading_plus c.trim.result.now) told.0.0
    (omega (arith, told.1, c.in-Ok.number-is)) told.0.1)

pub returns-in-Err : goal.returns-in-Err
returns-in-Err c =
    rw (← c.trim.ensures.trim) (no_number (without_leading_plus c.trim.result.now) c.in-Err.ensures.value.0)
