use Rattle.std.proofs.Common.{◌≡◌, [], ◌≤◌, ◌-◌, ◌+◌, length, drop, Option, List, ℕ}
use Rattle.zmtp_wire.specs.Stream.{Reads}
use Rattle.zmtp_wire.specs.Progress.{got_in, KeepsFirst}
use Rattle.zmtp_wire.proofs.progress.take_items.Given as goal

abbrev pub invariant-loop-place : goal.invariant-loop-place
invariant-loop-place l = record {
  within : l.place ≤ length l.bytes;
  kept : l.fn.progress.messages.items ≡ [] → KeepsFirst l.fn.progress.frames l.progress.messages.items
      l.progress.frames;
  read : (before : Option (List ℕ)) → Reads l.role (got_in l.fn.progress before) l.bytes
      (got_in l.progress before) (drop l.place l.bytes);
}

abbrev pub decreases-loop-place : goal.decreases-loop-place
decreases-loop-place l = length l.bytes + 1 - l.place
