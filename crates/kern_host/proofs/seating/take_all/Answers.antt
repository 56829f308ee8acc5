use Rattle.std.proofs.Common.{◌∙◌, arith}
use Rattle.std.proofs.lemmas.List.{length-set}
use Rattle.kern_host.proofs.SeatLemmas.{given_step}
use Rattle.kern_host.proofs.seating.take_all.Goals as goal

pub loop-place-preserved : goal.loop-place-preserved
loop-place-preserved g c =
    let i = c.loop-place.invariant in
    let t = c.loop-place-test.true in
    record {
      room = c.give_back.ensures.room ∙ i.room;
      len = length-set c.loop-place.guests c.loop-place.place c.give_back.new.guest ∙ i.len;
      given =
          given_step c.loop-place.place c.args.desk.now c.args.guests.now c.loop-place.guests
          c.loop-place.back.items
          c.give_back.new.back.items c.index-guests-place.result c.give_back.new.guest (omega
          (arith, t)) i.len
          c.requires.own c.give_back.ensures.guest c.give_back.ensures.back i.given;
    }
