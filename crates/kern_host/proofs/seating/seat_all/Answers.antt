use Rattle.std.proofs.Common.{◌≡◌, ℕ, ◌+◌, ◌-◌, ◌*◌, ap, ◌∙◌, sym, subst, arith, length, slice_set}
use Rattle.std.proofs.lemmas.List.{length-set}
use Rattle.lab_turn.specs.History.{fresh_pass}
use Rattle.kern_host.proofs.SeatLemmas.{SeatedFrom, seated_step}
use Rattle.kern_host.proofs.seating.seat_all.Goals as goal

pub loop-done-preserved : goal.loop-done-preserved
loop-done-preserved g c =
    let i = c.loop-done.invariant in
    let t = c.loop-done-test.true in
    let desk = c.args.desk.now in
    let n = length c.args.guests.now in
    let p = n - 1 - c.loop-done.done in
    let count = i.count in let a = c.take_last-writing.ensures.count in let b =
    c.take_last-reading.ensures.count in
    let w : length c.take_last-writing.new.passes.items ≡ 2 * p + 1 = omega (arith, count, a, t) in
    let r : length c.take_last-reading.new.passes.items ≡ 2 * p = omega (arith, count, a, b, t) in
    let e : n - (c.loop-done.done + 1) ≡ p = omega (arith, t) in
    let S : ℕ → Type 0 =
    λ k. SeatedFrom k desk c.args.guests.now (slice_set c.loop-done.guests p c.sit.new.self) in
    record {
      fresh = c.take_last-reading.ensures.fresh;
      within = omega (arith, t);
      count = omega (arith, r, t);
      len = length-set c.loop-done.guests p c.sit.new.self ∙ i.len;
      seated =
          subst S (sym e)
          (seated_step (n - c.loop-done.done) p desk c.args.guests.now c.loop-done.guests
          c.index-guests-count.result
          c.sit.new.self _ (omega (arith, t)) (omega (arith, t)) i.len c.sit.ensures
          (c.take_last-reading.ensures.pass ∙ ap (fresh_pass desk) r)
          (c.take_last-writing.ensures.pass ∙ ap (fresh_pass desk) w) i.seated);
    }
