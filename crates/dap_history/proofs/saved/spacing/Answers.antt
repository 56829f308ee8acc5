use Rattle.std.proofs.Common.{◌∙◌, refl, sym, arith}
use Rattle.dap_history.proofs.SpacingLemmas.{spacing_here, spacing_on}
use Rattle.dap_history.proofs.saved.spacing.Goals as goal

pub loop-p-init : goal.loop-p-init
loop-p-init c = record { more = (44, omega arith, refl); some = omega arith; small = omega arith }

pub loop-p-preserved : goal.loop-p-preserved
loop-p-preserved c =
    let inv = c.loop-p.invariant in
    let more = inv.more in
    let some = inv.some in
    record {
      more = spacing_on more.0 c.loop-p.p c.args.distance more.1 (omega arith) (omega arith) more.2;
      some = omega arith;
      small = omega arith;
    }

pub returns : goal.returns
returns c =
    let more = c.loop-p.invariant.more in
    sym (spacing_here more.0 c.loop-p.p c.args.distance (omega arith)) ∙ more.2
