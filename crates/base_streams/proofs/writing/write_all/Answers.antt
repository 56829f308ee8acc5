use Rattle.std.proofs.Common.{arith, ◌∙◌, length-drop}
use Rattle.std.proofs.lemmas.List.{take_rest}
use Rattle.base_streams.proofs.TellLemmas.{told_more, front_same}
use Rattle.base_streams.proofs.writing.write_all.Goals as goal

pub loop-place-preserved : goal.loop-place-preserved
loop-place-preserved g c =
    let a =
    rw (take_rest c.args.bytes.now c.loop-place.place, length-drop c.loop-place.place c.args.bytes.now) at
    c.in_ok-place.ensures.count in
    let b = rw (take_rest c.args.bytes.now c.loop-place.place) at c.in_ok-place.ensures.taken in record {
      within = omega arith;
      told =
          told_more _ _ _ c.args.bytes.now c.loop-place.place c.in_ok-place.field-0
          c.loop-place.invariant.told b;
      failed = c.in_ok-place.ensures.failed ∙ c.loop-place.invariant.failed;
    }

pub returns-in_err-place-clause-front : goal.returns-in_err-place-clause-front
returns-in_err-place-clause-front g c =
    front_same _ _ _ c.args.bytes.now c.loop-place.place c.loop-place.invariant.told
    c.in_err-place.ensures.taken
