use Rattle.std.proofs.Common.{◌≡◌, drop}
use Rattle.lab_core.specs.Changes.{with_bytes}
use Rattle.lab_core.proofs.lab.changes.store.Given as goal

-- storing the remaining bytes gives what storing all of them in the first machine gives
abbrev pub invariant-loop-byte : goal.invariant-loop-byte
invariant-loop-byte l =
    with_bytes l.address (drop l.byte-index l.bytes) l.machine ≡ with_bytes l.start l.bytes l.fn.machine
