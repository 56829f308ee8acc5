use Rattle.std.proofs.Common.{◌∙◌, sym, refl, inl, inr, arith}
use Rattle.lab_core.proofs.BurstLemmas.{makes_found, makes_within}
use Rattle.lab_core.proofs.lab.Context.round.Goals as goal

pub returns-in-Some-clause-made : goal.returns-in-Some-clause-made
returns-in-Some-clause-made c =
    let some = c.requires.some in
    record {
      makes = λ lab b traffic s.
          makes_found c.in-Some.outcome b traffic _ s
          (sym c.in-Some.is ∙ c.reason_before.ensures lab b traffic s);
      few = omega arith;
      some = λ is. omega arith;
      progress = λ one none. cc;
      room = λ none. cc;
      kept = record { attached = refl; breakpoints = refl; request = refl };
    }

pub returns-then-not-is_ready-clause-made : goal.returns-then-not-is_ready-clause-made
returns-then-not-is_ready-clause-made c = makes_within c.args.most c.requires.some c.single.ensures

pub burst_apart-requires-clause-may : goal.burst_apart-requires-clause-may
burst_apart-requires-clause-may c = record {
  room = c.requires.room;
  ready = c.is_ready.ensures.ready cc;
  free = c.in_default.ensures;
  asked = cc;
}

pub burst_apart-requires-then-is_some-clause-may : goal.burst_apart-requires-then-is_some-clause-may
burst_apart-requires-then-is_some-clause-may c = record {
  room = c.requires.room;
  ready = c.is_ready.ensures.ready cc;
  free = c.in_default.ensures;
  asked = cc;
}

pub burst_apart-requires-then-looks_up-2-clause-may : goal.burst_apart-requires-then-looks_up-2-clause-may
burst_apart-requires-then-looks_up-2-clause-may c = record {
  room = c.requires.room;
  ready = c.is_ready.ensures.ready cc;
  free = c.in_default.ensures;
  asked = cc;
}

pub burst_apart-requires-2-clause-may : goal.burst_apart-requires-2-clause-may
burst_apart-requires-2-clause-may c = record {
  room = c.requires.room;
  ready = c.is_ready.ensures.ready cc;
  free = c.in_default.ensures;
  asked = cc;
}

pub returns-in-Some-clause-far : goal.returns-in-Some-clause-far
returns-in-Some-clause-far c = λ floor ready. inr (inl refl)

pub returns-then-not-is_ready-clause-far : goal.returns-then-not-is_ready-clause-far
returns-then-not-is_ready-clause-far c = λ floor ready.
    let is = c.is_ready.ensures.sure floor ready in
    cc
