use Rattle.std.proofs.Common.{◌≡◌, ◌≤◌, ◌-◌, ◌∙◌, refl, ap, arith}
use Rattle.std.specs.Option.{unwrap_or, IsSome}
use Rattle.lab_core.specs.declared.answer.SliceOutcome.TheVariants.{More}
use Rattle.lab_core.specs.Slices.{after_steps, traffic_of}
use Rattle.lab_core.proofs.BurstLemmas.{makes_on, watches_kept}
use Rattle.lab_core.proofs.lab.Context.steps.Goals as goal

pub loop-k-preserved : goal.loop-k-preserved
loop-k-preserved c =
    let inv = c.loop-k.invariant in
    let k = c.loop-k.k in
    let made = c.round-made in
    let did = made.ensures.made in
    let few = did.few in
    let room = inv.room in
    let test = c.loop-k-test.true in
    let left = did.room c.in_default.is in
    let some : 1 ≤ c.args.n - k = omega arith in
    let progress = did.progress some c.in_default.is in
    record {
      within = omega arith;
      represents = λ lab b s.
          (let m = makes_on k made.result.0 made.result.1 b _ (inv.none_before lab b s)
          (did.makes lab (after_steps k b) (traffic_of k b) (inv.represents lab b s)) in m.represents);
      none_before = λ lab b s.
          (let m = makes_on k made.result.0 made.result.1 b _ (inv.none_before lab b s)
          (did.makes lab (after_steps k b) (traffic_of k b) (inv.represents lab b s)) in m.none_before);
      room = omega arith;
      scratch = made.ensures.scratch;
      watches = watches_kept c.args.is_watched did.kept inv.watches;
    }

pub returns-in-Some-clause-slice : goal.returns-in-Some-clause-slice
returns-in-Some-clause-slice c = λ lab b s.
    let inv = c.loop-k.invariant in
    let k = c.loop-k.k in
    let made = c.round-made in
    let did = made.ensures.made in
    let m = makes_on k made.result.0 made.result.1 b _ (inv.none_before lab b s)
    (did.makes lab (after_steps k b) (traffic_of k b) (inv.represents lab b s)) in
    let is : IsSome made.result.1 = rw c.in-Some.is refl in
    let less = did.some is in
    let found = rw c.in-Some.is at m.found_is in
    record {
      within = omega arith;
      none_before = m.none_before;
      early = λ below. found;
      last = λ all. absurd (omega arith);
    }

pub returns-in-Some-clause-represents : goal.returns-in-Some-clause-represents
returns-in-Some-clause-represents c = λ lab b s.
    let inv = c.loop-k.invariant in
    let k = c.loop-k.k in
    let made = c.round-made in
    let did = made.ensures.made in
    let m = makes_on k made.result.0 made.result.1 b _ (inv.none_before lab b s)
    (did.makes lab (after_steps k b) (traffic_of k b) (inv.represents lab b s)) in
    m.represents

pub returns-clause-slice : goal.returns-clause-slice
returns-clause-slice c = λ lab b s.
    let inv = c.loop-k.invariant in
    let n = c.args.n in
    let within = inv.within in
    let all : c.loop-k.k ≡ n = omega arith in
    let represents = rw all at (inv.represents lab b s) in
    record {
      within = omega arith;
      none_before = rw all at (inv.none_before lab b s);
      early = λ below. absurd (omega arith);
      last =
          λ _. c.unwrap_or.ensures ∙ ap (λ o. unwrap_or o More)
          (c.reason_after-reason.ensures lab (after_steps n b) (traffic_of n b) represents);
    }

pub returns-clause-represents : goal.returns-clause-represents
returns-clause-represents c = λ lab b s.
    let inv = c.loop-k.invariant in
    let n = c.args.n in
    let within = inv.within in
    let all : c.loop-k.k ≡ n = omega arith in
    rw all at (inv.represents lab b s)
