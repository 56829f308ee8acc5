use Rattle.std.proofs.Common.{◌≡◌, ◌*◌, ◌-◌, ◌≤◌, length}
use Rattle.lab_turn.specs.History.{FreshFrom}
use Rattle.kern_host.proofs.SeatLemmas.{SeatedFrom}
use Rattle.kern_host.proofs.seating.seat_all.Given as goal

abbrev pub invariant-loop-done : goal.invariant-loop-done
invariant-loop-done g l = record {
  fresh : FreshFrom 0 l.desk l.passes.items;
  within : l.done ≤ length l.fn.guests;
  count : length l.passes.items ≡ 2 * (length l.fn.guests - l.done);
  len : length l.guests ≡ length l.fn.guests;
  seated : SeatedFrom (length l.fn.guests - l.done) l.desk l.fn.guests l.guests;
}
