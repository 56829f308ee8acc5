use Rattle.std.proofs.Common.{◌≡◌, ◌+◌, ◌-◌, refl, inl, inr, arith}
use Rattle.lab_core.proofs.BurstLemmas.{makes_more, makes_undefined, kept_on}
use Rattle.lab_core.proofs.QuietLemmas.{looks_kept}
use Rattle.lab_core.proofs.lab.Context.burst.Goals as goal

pub returns-in-Last-clause-made : goal.returns-in-Last-clause-made
returns-in-Last-clause-made c =
    let inv = c.loop-left.invariant in
    let below = inv.within in
    let some = c.loop-left-test.true in
    let was = inv.was in
    let spare = c.in-Last.ensures.spare in
    record {
      makes = λ lab b traffic s.
          makes_more (c.args.most - c.loop-left.left) b traffic lab _ _ _ _ (inv.makes lab b traffic s)
          inv.free
          c.in-Last.ensures.undefined (c.in-Last.ensures.made refl);
      few = omega arith;
      some = λ is. cc;
      progress = λ one none. omega arith;
      room = λ none. omega arith;
      kept = kept_on inv.kept c.in-Last.ensures.kept;
    }

pub returns-in-Ended-clause-made : goal.returns-in-Ended-clause-made
returns-in-Ended-clause-made c =
    let inv = c.loop-left.invariant in
    let below = inv.within in
    let some = c.loop-left-test.true in
    record {
      makes = λ lab b traffic s.
          makes_undefined (c.args.most - c.loop-left.left) _ b traffic lab _ _ _ _
          (inv.makes lab b traffic s) inv.free c.in-Ended.ensures.undefined (c.in-Ended.ensures.ended refl);
      few = omega arith;
      some = λ is. omega arith;
      progress = λ one none. cc;
      room = λ none. cc;
      kept = kept_on inv.kept c.in-Ended.ensures.kept;
    }

pub returns-in-Some-clause-made : goal.returns-in-Some-clause-made
returns-in-Some-clause-made c =
    let inv = c.loop-left.invariant in
    let below = inv.within in
    let some = c.loop-left-test.true in
    let was = inv.was in
    let spare = c.in-Within.ensures.spare in
    let one : c.args.most - (c.loop-left.left - 1) ≡ c.args.most - c.loop-left.left + 1 = omega arith in
    record {
      makes = λ lab b traffic s.
          rw one (makes_more (c.args.most - c.loop-left.left) b traffic lab _ _ _ _
          (inv.makes lab b traffic s)
          inv.free c.in-Within.ensures.undefined (c.in-Within.ensures.made refl));
      few = omega arith;
      some = λ is. cc;
      progress = λ one none. omega arith;
      room = λ none. omega arith;
      kept = kept_on inv.kept c.in-Within.ensures.kept;
    }

pub loop-left-preserved : goal.loop-left-preserved
loop-left-preserved c =
    let inv = c.loop-left.invariant in
    let below = inv.within in
    let some = c.loop-left-test.true in
    let room = inv.room in
    let was = inv.was in
    let spare = c.in-Within.ensures.spare in
    let one : c.args.most - (c.loop-left.left - 1) ≡ c.args.most - c.loop-left.left + 1 = omega arith in
    record {
      within = omega arith;
      makes = λ lab b traffic s.
          rw one (makes_more (c.args.most - c.loop-left.left) b traffic lab _ _ _ _
          (inv.makes lab b traffic s) inv.free c.in-Within.ensures.undefined (c.in-Within.ensures.made refl));
      free = c.in_default.ensures;
      ready = c.in-Within.ensures.on c.in-Within.now refl;
      room = omega arith;
      was = omega arith;
      looks = looks_kept c.args.looks_up _ _ c.in-Within.ensures.kept inv.looks;
      kept = kept_on inv.kept c.in-Within.ensures.kept;
    }

pub returns-clause-made : goal.returns-clause-made
returns-clause-made c =
    let inv = c.loop-left.invariant in
    let none = c.loop-left-test.false in
    let was = inv.was in
    let all : c.args.most - c.loop-left.left ≡ c.args.most = omega arith in
    record {
      makes = λ lab b traffic s. rw all at (inv.makes lab b traffic s);
      few = omega arith;
      some = λ is. cc;
      progress = λ one none. omega arith;
      room = λ none. omega arith;
      kept = inv.kept;
    }

pub returns-in-Last-clause-far : goal.returns-in-Last-clause-far
returns-in-Last-clause-far c = inr (inr (c.in-Last.ensures.last refl))

pub returns-in-Ended-clause-far : goal.returns-in-Ended-clause-far
returns-in-Ended-clause-far c = inr (inl refl)

pub returns-in-Some-clause-far : goal.returns-in-Some-clause-far
returns-in-Some-clause-far c = inr (inr (inr (inr (inr (_, c.in-Some.ensures)))))

pub returns-clause-far : goal.returns-clause-far
returns-clause-far c = inl refl
