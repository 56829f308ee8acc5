use Rattle.std.proofs.Common.{◌≡◌, ◌+◌, ◌-◌, ◌∙◌, sym, refl, inl, inr, arith}
use Rattle.lab_core.proofs.BurstLemmas.{makes_more, makes_end, kept_on}
use Rattle.lab_core.proofs.QuietLemmas.{looks_kept}
use Rattle.lab_core.proofs.MarkLemmas.{passes_more, passes_less, site_more}
use Rattle.lab_core.proofs.lab.Context.burst_to.Goals as goal

pub loop-left-preserved : goal.loop-left-preserved
loop-left-preserved c =
    let inv = c.loop-left.invariant in
    let below = inv.within in
    let some = c.loop-left-test.true in
    let room = inv.room in
    let was = inv.was in
    let spare = c.in-Within.ensures.spare in
    let made = c.args.most - c.loop-left.left in
    let one : c.args.most - (c.loop-left.left - 1) ≡ made + 1 = omega arith in
    record {
      within = omega arith;
      makes = λ lab b traffic s.
          rw one (makes_more made b traffic lab _ _ _ _ (inv.makes lab b traffic s) inv.free
          c.in-Within.ensures.undefined (c.in-Within.ensures.made refl));
      passes = λ lab b traffic s.
          (let m = makes_more made b traffic lab _ _ _ _ (inv.makes lab b traffic s) inv.free
          c.in-Within.ensures.undefined (c.in-Within.ensures.made refl) in
          rw one (passes_more c.args.marks.now b (made + 1) _ m.represents.machine
          (sym c.is_at.ensures ∙ c.if-is_at.false) (inv.passes lab b traffic s)));
      site = λ lab b traffic s.
          rw one (site_more b made c.args.site.now c.pc-pc.result _
          (inv.makes lab b traffic s).represents.machine
          c.pc-pc.ensures);
      free = c.in_default.ensures;
      ready = c.in-Within.ensures.on c.in-Within.now refl;
      room = omega arith;
      was = omega arith;
      looks = looks_kept c.looks_up-looks_up.result _ _ c.in-Within.ensures.kept inv.looks;
      kept = kept_on inv.kept c.in-Within.ensures.kept;
    }

pub returns-in-Last-clause-made : goal.returns-in-Last-clause-made
returns-in-Last-clause-made c =
    let inv = c.loop-left.invariant in
    let below = inv.within in
    let some = c.loop-left-test.true in
    let was = inv.was in
    let spare = c.in-Last.ensures.spare in
    record {
      makes = λ lab b traffic s.
          makes_more (c.args.most - c.loop-left.left) b traffic lab _ _ _ _ (inv.makes lab b traffic s)
          inv.free
          c.in-Last.ensures.undefined (c.in-Last.ensures.made refl);
      few = omega arith;
      some = λ is. cc;
      progress = λ one none. omega arith;
      room = λ none. omega arith;
      kept = kept_on inv.kept c.in-Last.ensures.kept;
    }

pub returns-in-Ended-clause-made : goal.returns-in-Ended-clause-made
returns-in-Ended-clause-made c =
    let inv = c.loop-left.invariant in
    let below = inv.within in
    let some = c.loop-left-test.true in
    record {
      makes = λ lab b traffic s.
          makes_end (c.args.most - c.loop-left.left) c.in-Ended.outcome b traffic lab _ _ _ _
          (inv.makes lab b traffic s) inv.free c.in-Ended.ensures.undefined (c.in-Ended.ensures.ended refl);
      few = omega arith;
      some = λ is. omega arith;
      progress = λ one none. cc;
      room = λ none. cc;
      kept = kept_on inv.kept c.in-Ended.ensures.kept;
    }

pub returns-in-Ended-clause-passes : goal.returns-in-Ended-clause-passes
returns-in-Ended-clause-passes c = λ lab b traffic s.
    passes_less c.args.marks.now b (c.args.most - c.loop-left.left)
    (c.loop-left.invariant.passes lab b traffic s)

pub returns-then-is_at-clause-made : goal.returns-then-is_at-clause-made
returns-then-is_at-clause-made c =
    let inv = c.loop-left.invariant in
    let below = inv.within in
    let some = c.loop-left-test.true in
    let was = inv.was in
    let spare = c.in-Within.ensures.spare in
    let one : c.args.most - (c.loop-left.left - 1) ≡ c.args.most - c.loop-left.left + 1 = omega arith in
    record {
      makes = λ lab b traffic s.
          rw one (makes_more (c.args.most - c.loop-left.left) b traffic lab _ _ _ _
          (inv.makes lab b traffic s)
          inv.free c.in-Within.ensures.undefined (c.in-Within.ensures.made refl));
      few = omega arith;
      some = λ is. cc;
      progress = λ one none. omega arith;
      room = λ none. omega arith;
      kept = kept_on inv.kept c.in-Within.ensures.kept;
    }

pub returns-then-is_at-clause-passes : goal.returns-then-is_at-clause-passes
returns-then-is_at-clause-passes c = λ lab b traffic s.
    let inv = c.loop-left.invariant in
    let below = inv.within in
    let some = c.loop-left-test.true in
    let one : c.args.most - (c.loop-left.left - 1) ≡ c.args.most - c.loop-left.left + 1 = omega arith in
    rw one (inv.passes lab b traffic s)

pub returns-in-Some-clause-made : goal.returns-in-Some-clause-made
returns-in-Some-clause-made c =
    let inv = c.loop-left.invariant in
    let below = inv.within in
    let some = c.loop-left-test.true in
    let was = inv.was in
    let spare = c.in-Within.ensures.spare in
    let one : c.args.most - (c.loop-left.left - 1) ≡ c.args.most - c.loop-left.left + 1 = omega arith in
    record {
      makes = λ lab b traffic s.
          rw one (makes_more (c.args.most - c.loop-left.left) b traffic lab _ _ _ _
          (inv.makes lab b traffic s)
          inv.free c.in-Within.ensures.undefined (c.in-Within.ensures.made refl));
      few = omega arith;
      some = λ is. cc;
      progress = λ one none. omega arith;
      room = λ none. omega arith;
      kept = kept_on inv.kept c.in-Within.ensures.kept;
    }

pub returns-in-Some-clause-passes : goal.returns-in-Some-clause-passes
returns-in-Some-clause-passes c = λ lab b traffic s.
    let inv = c.loop-left.invariant in
    let below = inv.within in
    let some = c.loop-left-test.true in
    let one : c.args.most - (c.loop-left.left - 1) ≡ c.args.most - c.loop-left.left + 1 = omega arith in
    rw one (inv.passes lab b traffic s)

pub returns-clause-made : goal.returns-clause-made
returns-clause-made c =
    let inv = c.loop-left.invariant in
    let none = c.loop-left-test.false in
    let was = inv.was in
    let all : c.args.most - c.loop-left.left ≡ c.args.most = omega arith in
    record {
      makes = λ lab b traffic s. rw all at (inv.makes lab b traffic s);
      few = omega arith;
      some = λ is. cc;
      progress = λ one none. omega arith;
      room = λ none. omega arith;
      kept = inv.kept;
    }

pub returns-clause-passes : goal.returns-clause-passes
returns-clause-passes c = λ lab b traffic s.
    let inv = c.loop-left.invariant in
    let all : c.args.most - c.loop-left.left ≡ c.args.most = omega arith in
    passes_less c.args.marks.now b c.args.most (rw all at (inv.passes lab b traffic s))

pub returns-in-Last-clause-far : goal.returns-in-Last-clause-far
returns-in-Last-clause-far c = inl (inr (inr (c.in-Last.ensures.last refl)))

pub returns-in-Ended-clause-far : goal.returns-in-Ended-clause-far
returns-in-Ended-clause-far c = inl (inr (inl refl))

pub returns-then-is_at-clause-far : goal.returns-then-is_at-clause-far
returns-then-is_at-clause-far c = inr (sym c.is_at.ensures ∙ c.if-is_at.true)

pub returns-in-Some-clause-far : goal.returns-in-Some-clause-far
returns-in-Some-clause-far c = inl (inr (inr (inr (inr (inr (_, c.in-Some.ensures))))))

pub returns-clause-far : goal.returns-clause-far
returns-clause-far c = inl (inl refl)

pub returns-in-Last-clause-site : goal.returns-in-Last-clause-site
returns-in-Last-clause-site c = λ lab b traffic s.
    site_more b (c.args.most - c.loop-left.left) c.args.site.now c.pc-pc.result _
    (c.loop-left.invariant.makes lab b traffic s).represents.machine c.pc-pc.ensures

pub returns-then-is_at-clause-site : goal.returns-then-is_at-clause-site
returns-then-is_at-clause-site c = λ lab b traffic s.
    let inv = c.loop-left.invariant in
    let below = inv.within in
    let some = c.loop-left-test.true in
    let made = c.args.most - c.loop-left.left in
    let one : c.args.most - (c.loop-left.left - 1) ≡ made + 1 = omega arith in
    rw one (site_more b made c.args.site.now c.pc-pc.result _ (inv.makes lab b traffic s).represents.machine
    c.pc-pc.ensures)

pub returns-in-Some-clause-site : goal.returns-in-Some-clause-site
returns-in-Some-clause-site c = λ lab b traffic s.
    let inv = c.loop-left.invariant in
    let below = inv.within in
    let some = c.loop-left-test.true in
    let made = c.args.most - c.loop-left.left in
    let one : c.args.most - (c.loop-left.left - 1) ≡ made + 1 = omega arith in
    rw one (site_more b made c.args.site.now c.pc-pc.result _ (inv.makes lab b traffic s).represents.machine
    c.pc-pc.ensures)

pub returns-clause-site : goal.returns-clause-site
returns-clause-site c = λ lab b traffic s.
    let inv = c.loop-left.invariant in
    let none = c.loop-left-test.false in
    let all : c.args.most - c.loop-left.left ≡ c.args.most = omega arith in
    rw all at (inv.site lab b traffic s)
