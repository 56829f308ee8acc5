use Rattle.std.proofs.Common.{Err, refl, inr, ap, ◌∙◌, arith, length-take}
use Rattle.cli_io.proofs.StreamLemmas.{read_nothing, read_piece, read_most, read_bad}
use Rattle.cli_io.proofs.intake.pour.Goals as goal

pub loop-reads-init : goal.loop-reads-init
loop-reads-init g c = record {
  good = refl;
  limit = refl;
  read = read_nothing g.I.Intake.represents _ _ c.requires.input;
}

pub loop-reads-preserved : goal.loop-reads-preserved
loop-reads-preserved g c =
    let on = rw c.split_at.ensures.front at c.in-Ok-take.ensures.ok in
    let fits = c.in-Ok.ensures.count in
    let some = c.in-Ok.count-test in record {
      good = c.in-Ok.ensures.failed ∙ c.loop-reads.invariant.good;
      limit = c.in-Ok-take.ensures.limit ∙ c.loop-reads.invariant.limit;
      read = read_piece g.I.Intake.represents _ _ _ _ _ _ _ c.loop-reads.invariant.read c.in-Ok.ensures.left.0
          (omega (arith, length-take c.in-Ok.count c.read.new.buffer)) on;
    }

pub returns-in-Err-Bad-clause-read : goal.returns-in-Err-Bad-clause-read
returns-in-Err-Bad-clause-read g c =
    let bad = rw c.split_at.ensures.front at (c.in-Err-Bad.ensures.bad (ap Err c.in-Err-Bad.field-0-is)) in
    read_bad g.I.Intake.represents g.I.Intake.refuses _ _ _ (g.R.Inlet.state c.read.new.self) _ _
    c.loop-reads.invariant.read
    c.in-Ok.ensures.left.0 bad

pub returns-clause-blame : goal.returns-clause-blame
returns-clause-blame g c =
    let most = c.loop-reads-test.false in
    inr (read_most g.I.Intake.represents _ _ _ _ c.loop-reads.invariant.read (omega arith))
