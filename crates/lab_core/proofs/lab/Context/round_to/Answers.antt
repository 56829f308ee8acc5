use Rattle.std.proofs.Common.{◌∙◌, ◌+◌, ◌≤◌, sym, refl, inl, inr, arith}
use Rattle.lab_core.proofs.BurstLemmas.{makes_found, makes_within}
use Rattle.lab_core.proofs.MarkLemmas.{passes_few}
use Rattle.lab_core.proofs.lab.Context.round_to.Goals as goal

pub returns-in-Some-clause-made : goal.returns-in-Some-clause-made
returns-in-Some-clause-made c =
    let some = c.requires.some in
    record {
      makes = λ lab b traffic s.
          makes_found c.in-Some.outcome b traffic _ s
          (sym c.in-Some.is ∙ c.reason_before.ensures lab b traffic s);
      few = omega arith;
      some = λ is. omega arith;
      progress = λ one none. cc;
      room = λ none. cc;
      kept = record { attached = refl; breakpoints = refl; request = refl };
    }

pub returns-in-Some-clause-passes : goal.returns-in-Some-clause-passes
returns-in-Some-clause-passes c = λ lab b traffic s.
    passes_few c.args.marks.now 0 b _ (omega arith) s.machine c.requires.kept

pub returns-in-Some-clause-unmarked : goal.returns-in-Some-clause-unmarked
returns-in-Some-clause-unmarked c = λ some lab b traffic s.
    passes_few c.args.marks.now 1 b _ (omega arith) s.machine c.requires.kept

pub returns-then-not-is_ready-clause-made : goal.returns-then-not-is_ready-clause-made
returns-then-not-is_ready-clause-made c = makes_within c.args.most c.requires.some c.single_to.ensures.made

pub returns-then-not-is_ready-clause-passes : goal.returns-then-not-is_ready-clause-passes
returns-then-not-is_ready-clause-passes c = λ lab b traffic s.
    passes_few c.args.marks.now _ b _ c.single_to.ensures.made.few s.machine c.requires.kept

pub returns-then-not-is_ready-clause-unmarked : goal.returns-then-not-is_ready-clause-unmarked
returns-then-not-is_ready-clause-unmarked c = λ some lab b traffic s.
    let less = c.single_to.ensures.made.some some in
    let one : c.single_to.result.0 + 1 ≤ 1 = omega arith in
    passes_few c.args.marks.now _ b _ one s.machine c.requires.kept

pub returns-in-Some-clause-far : goal.returns-in-Some-clause-far
returns-in-Some-clause-far c = λ floor ready. inl (inr (inl refl))

pub returns-then-not-is_ready-clause-far : goal.returns-then-not-is_ready-clause-far
returns-then-not-is_ready-clause-far c = λ floor ready.
    let is = c.is_ready.ensures.sure floor ready in
    cc
