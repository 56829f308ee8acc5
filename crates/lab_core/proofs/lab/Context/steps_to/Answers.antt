use Rattle.std.proofs.Common.{◌≡◌, ◌∙◌, ◌≤◌, ◌<◌, ◌+◌, ◌-◌, ℕ, true, false, refl, sym, ap, subst, arith}
use Rattle.std.specs.Option.{unwrap_or, IsSome}
use Rattle.lab_core.specs.declared.answer.SliceOutcome.TheVariants.{More}
use Rattle.lab_core.specs.Slices.{IsSlice, after_steps, traffic_of}
use Rattle.lab_core.specs.Marks.{marked_at, first_mark, last_site}
use Rattle.lab_core.proofs.BurstLemmas.{makes_on, watches_kept}
use Rattle.lab_core.proofs.MarkLemmas.{first-later, first-none, passed_on, passed_all, found_on, at-marked}
use Rattle.lab_core.proofs.MarkLemmas.{kept_on, site_on}
use Rattle.lab_core.proofs.MarkLemmas.{kept_after, not_at}
use Rattle.lab_core.proofs.lab.Context.steps_to.Goals as goal

pub loop-k-preserved : goal.loop-k-preserved
loop-k-preserved c =
    let inv = c.loop-k.invariant in
    let k = c.loop-k.k in
    let n = c.args.n in
    let marks = c.args.marks.now in
    let made = c.round_to-made in
    let did = made.ensures.made in
    let few = did.few in
    let room = inv.room in
    let test = c.loop-k-test.true in
    let left = did.room c.in_default.is in
    let some : 1 ≤ n - k = omega arith in
    let progress = did.progress some c.in_default.is in
    let within : k + made.result.0 ≤ n = omega arith in
    record {
      within = within;
      represents = λ lab b s.
          (let m = makes_on k made.result.0 made.result.1 b _ (inv.none_before lab b s)
          (did.makes lab (after_steps k b) (traffic_of k b) (inv.represents lab b s)) in m.represents);
      none_before = λ lab b s.
          (let m = makes_on k made.result.0 made.result.1 b _ (inv.none_before lab b s)
          (did.makes lab (after_steps k b) (traffic_of k b) (inv.represents lab b s)) in m.none_before);
      first = λ lab b s.
          (let m = makes_on k made.result.0 made.result.1 b _ (inv.none_before lab b s)
          (did.makes lab (after_steps k b) (traffic_of k b) (inv.represents lab b s)) in
          let passes = made.ensures.passes lab (after_steps k b) (traffic_of k b) (inv.represents lab b s) in
          let last : marked_at marks b (k + made.result.0) ≡ false =
          sym (at-marked marks b k made.result.0 _ progress m.represents.machine passes) ∙ sym c.is_at.ensures
          ∙ c.if-is_at.false in
          passed_on marks b k made.result.0 n within passes last ∙ inv.first lab b s);
      was_kept = λ lab b s.
          kept_on marks b k made.result.0 progress
          (made.ensures.passes lab (after_steps k b) (traffic_of k b) (inv.represents lab b s));
      site = λ lab b s.
          made.ensures.site lab (after_steps k b) (traffic_of k b) (inv.represents lab b s)
          ∙ ap (λ site. last_site made.result.0 site (after_steps k b)) (inv.site lab b s)
          ∙ site_on b k made.result.0 c.args.site.now;
      kept = not_at _ marks (sym c.is_at.ensures ∙ c.if-is_at.false);
      room = omega arith;
      scratch = made.ensures.scratch;
      watches = watches_kept c.args.is_watched did.kept inv.watches;
    }

pub returns-in-Some-clause-slice : goal.returns-in-Some-clause-slice
returns-in-Some-clause-slice c = λ lab b s.
    let inv = c.loop-k.invariant in
    let k = c.loop-k.k in
    let n = c.args.n in
    let marks = c.args.marks.now in
    let made = c.round_to-made in
    let did = made.ensures.made in
    let m = makes_on k made.result.0 made.result.1 b _ (inv.none_before lab b s)
    (did.makes lab (after_steps k b) (traffic_of k b) (inv.represents lab b s)) in
    let is : IsSome made.result.1 = rw c.in-Some.is refl in
    let less = did.some is in
    let found = rw c.in-Some.is at m.found_is in
    let passes = made.ensures.unmarked is lab (after_steps k b) (traffic_of k b) (inv.represents lab b s) in
    let first = passed_all marks b k made.result.0 n (omega arith) passes ∙ inv.first lab b s in
    let later =
    first-later (marked_at marks b) (n - (k + made.result.0)) (k + made.result.0) (omega arith) in
    let below : k + made.result.0 < first_mark marks n b = omega arith in
    record {
      within = omega arith;
      none_before = m.none_before;
      early = λ less. found;
      last = λ all. absurd (omega arith);
    }

pub returns-in-Some-clause-represents : goal.returns-in-Some-clause-represents
returns-in-Some-clause-represents c = λ lab b s.
    let inv = c.loop-k.invariant in
    let k = c.loop-k.k in
    let made = c.round_to-made in
    let did = made.ensures.made in
    let m = makes_on k made.result.0 made.result.1 b _ (inv.none_before lab b s)
    (did.makes lab (after_steps k b) (traffic_of k b) (inv.represents lab b s)) in
    m.represents

pub returns-in-Some-clause-kept : goal.returns-in-Some-clause-kept
returns-in-Some-clause-kept c = λ lab b s.
    let inv = c.loop-k.invariant in
    let k = c.loop-k.k in
    let made = c.round_to-made in
    let did = made.ensures.made in
    kept_after c.args.marks.now b k made.result.0 (inv.was_kept lab b s)
    (made.ensures.passes lab (after_steps k b) (traffic_of k b) (inv.represents lab b s))

pub returns-then-is_at-clause-slice : goal.returns-then-is_at-clause-slice
returns-then-is_at-clause-slice c = λ lab b s.
    let inv = c.loop-k.invariant in
    let k = c.loop-k.k in
    let n = c.args.n in
    let marks = c.args.marks.now in
    let made = c.round_to-made in
    let did = made.ensures.made in
    let few = did.few in
    let test = c.loop-k-test.true in
    let some : 1 ≤ n - k = omega arith in
    let progress = did.progress some c.in_default.is in
    let m = makes_on k made.result.0 made.result.1 b _ (inv.none_before lab b s)
    (did.makes lab (after_steps k b) (traffic_of k b) (inv.represents lab b s)) in
    let passes = made.ensures.passes lab (after_steps k b) (traffic_of k b) (inv.represents lab b s) in
    let marked : marked_at marks b (k + made.result.0) ≡ true =
    sym (at-marked marks b k made.result.0 _ progress m.represents.machine passes) ∙ sym c.is_at.ensures
    ∙ c.if-is_at.true in
    let limit : k + made.result.0 ≡ first_mark marks n b =
    sym (found_on marks b k made.result.0 n progress (omega arith) passes marked) ∙ inv.first lab b s in
    let S : ℕ → Type 0 = λ i. IsSlice i b (k + made.result.0) c.unwrap_or.result in
    subst S limit (record {
      within = omega arith;
      none_before = m.none_before;
      early = λ below. absurd (omega arith);
      last =
          λ _. c.unwrap_or.ensures ∙ ap (λ o. unwrap_or o More)
          (c.reason_after-last.ensures lab (after_steps (k + made.result.0) b)
          (traffic_of (k + made.result.0) b)
          m.represents);
    })

pub returns-then-is_at-clause-represents : goal.returns-then-is_at-clause-represents
returns-then-is_at-clause-represents c = λ lab b s.
    let inv = c.loop-k.invariant in
    let k = c.loop-k.k in
    let made = c.round_to-made in
    let did = made.ensures.made in
    let m = makes_on k made.result.0 made.result.1 b _ (inv.none_before lab b s)
    (did.makes lab (after_steps k b) (traffic_of k b) (inv.represents lab b s)) in
    m.represents

pub returns-then-is_at-clause-kept : goal.returns-then-is_at-clause-kept
returns-then-is_at-clause-kept c = λ lab b s.
    let inv = c.loop-k.invariant in
    let k = c.loop-k.k in
    let made = c.round_to-made in
    let did = made.ensures.made in
    let test = c.loop-k-test.true in
    let some : 1 ≤ c.args.n - k = omega arith in
    kept_on c.args.marks.now b k made.result.0 (did.progress some c.in_default.is)
    (made.ensures.passes lab (after_steps k b) (traffic_of k b) (inv.represents lab b s))

pub returns-clause-slice : goal.returns-clause-slice
returns-clause-slice c = λ lab b s.
    let inv = c.loop-k.invariant in
    let n = c.args.n in
    let marks = c.args.marks.now in
    let within = inv.within in
    let all : c.loop-k.k ≡ n = omega arith in
    let represents = rw all at (inv.represents lab b s) in
    let none : n - c.loop-k.k ≡ 0 = omega arith in
    let limit : n ≡ first_mark marks n b =
    sym (first-none (marked_at marks b) n) ∙ (rw (none, all) at (inv.first lab b s)) in
    let S : ℕ → Type 0 = λ i. IsSlice i b n c.unwrap_or-2.result in
    subst S limit (record {
      within = omega arith;
      none_before = rw all at (inv.none_before lab b s);
      early = λ below. absurd (omega arith);
      last =
          λ _. c.unwrap_or-2.ensures ∙ ap (λ o. unwrap_or o More)
          (c.reason_after-reason.ensures lab (after_steps n b) (traffic_of n b) represents);
    })

pub returns-clause-represents : goal.returns-clause-represents
returns-clause-represents c = λ lab b s.
    let inv = c.loop-k.invariant in
    let n = c.args.n in
    let within = inv.within in
    let all : c.loop-k.k ≡ n = omega arith in
    rw all at (inv.represents lab b s)

pub returns-clause-kept : goal.returns-clause-kept
returns-clause-kept c = λ lab b s.
    let inv = c.loop-k.invariant in
    let n = c.args.n in
    let within = inv.within in
    let all : c.loop-k.k ≡ n = omega arith in
    rw all at (inv.was_kept lab b s)

pub returns-in-Some-clause-site : goal.returns-in-Some-clause-site
returns-in-Some-clause-site c = λ lab b s.
    let inv = c.loop-k.invariant in
    let k = c.loop-k.k in
    let made = c.round_to-made in
    made.ensures.site lab (after_steps k b) (traffic_of k b) (inv.represents lab b s)
    ∙ ap (λ site. last_site made.result.0 site (after_steps k b)) (inv.site lab b s)
    ∙ site_on b k made.result.0 c.args.site.now

pub returns-then-is_at-clause-site : goal.returns-then-is_at-clause-site
returns-then-is_at-clause-site c = λ lab b s.
    let inv = c.loop-k.invariant in
    let k = c.loop-k.k in
    let made = c.round_to-made in
    made.ensures.site lab (after_steps k b) (traffic_of k b) (inv.represents lab b s)
    ∙ ap (λ site. last_site made.result.0 site (after_steps k b)) (inv.site lab b s)
    ∙ site_on b k made.result.0 c.args.site.now

pub returns-clause-site : goal.returns-clause-site
returns-clause-site c = λ lab b s.
    let inv = c.loop-k.invariant in
    let n = c.args.n in
    let within = inv.within in
    let all : c.loop-k.k ≡ n = omega arith in
    rw all at (inv.site lab b s)
