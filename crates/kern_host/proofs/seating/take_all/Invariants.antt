use Rattle.std.proofs.Common.{◌≡◌, length, vec_capacity}
use Rattle.kern_host.proofs.SeatLemmas.{GivenBelow}
use Rattle.kern_host.proofs.seating.take_all.Given as goal

abbrev pub invariant-loop-place : goal.invariant-loop-place
invariant-loop-place g l = record {
  room : vec_capacity l.back ≡ vec_capacity l.fn.back;
  len : length l.guests ≡ length l.fn.guests;
  given : GivenBelow l.place l.desk l.fn.guests l.guests l.back.items;
}
