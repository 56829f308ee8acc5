use Rattle.std.proofs.Common.{◌≡◌, ◌%◌, drop}
use Rattle.cli_run.specs.Computer.{stored_from}
use Rattle.cli_run.proofs.runner.store.Given as goal

-- the rest of the bytes still has to be stored, from the next address on
abbrev pub invariant-loop-byte : goal.invariant-loop-byte
invariant-loop-byte l = record {
  next : l.address ≡ l.byte-index % 65536;
  same : stored_from l.byte-index (drop l.byte-index l.bytes) l.machine ≡ stored_from 0 l.bytes l.fn.machine;
}
