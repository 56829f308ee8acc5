use Rattle.std.proofs.Common.{refl, arith}
use Rattle.lab_core.proofs.BurstLemmas.{makes_none, makes_more, makes_end}
use Rattle.lab_core.proofs.lab.Context.single.Goals as goal

pub returns-in-Some : goal.returns-in-Some
returns-in-Some c = record {
  makes = λ lab b traffic s.
      makes_end 0 c.in-Some.outcome b traffic lab _ _ _ _ (makes_none _ b traffic s) c.requires.free
      (rw c.in-Some.is at c.step.ensures.undefined) (rw c.in-Some.is at (c.step.ensures.some) refl);
  few = omega arith;
  some = λ is. omega arith;
  progress = λ one none. cc;
  room = λ none. cc;
  kept = c.step.ensures.kept;
}

pub returns-in-None : goal.returns-in-None
returns-in-None c =
    let spare = c.step.ensures.spare in
    record {
      makes = λ lab b traffic s.
          makes_more 0 b traffic lab _ _ _ _ (makes_none _ b traffic s) c.requires.free
          (rw c.in-None.is at c.step.ensures.undefined) (rw c.in-None.is at c.step.ensures.none);
      few = omega arith;
      some = λ is. cc;
      progress = λ one none. omega arith;
      room = λ none. omega arith;
      kept = c.step.ensures.kept;
    }
