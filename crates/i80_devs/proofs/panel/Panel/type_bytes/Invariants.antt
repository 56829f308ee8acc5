use Rattle.std.proofs.Common.{◌≡◌, ◌++◌, length, ◌+◌, ◌≤◌, take}
use Rattle.std.specs.VecDeque.{deque_len, deque_capacity}
use Rattle.i80_devs.proofs.panel.Panel.type_bytes.Given as goal

-- the bytes so far follow those that waited, there is room for the others, and nothing else changed
abbrev pub invariant-loop-byte : goal.invariant-loop-byte
invariant-loop-byte l = record {
  room : deque_len l.self-inside.waiting + length l.bytes
      ≤ deque_capacity l.self-inside.waiting + l.byte-index;
  items : l.self-inside.waiting.items ≡ l.fn.self.waiting ++ take l.byte-index l.bytes;
  rest : (l.self-inside.switches ≡ l.fn.self.switches) × (l.self-inside.lamps ≡ l.fn.self.lamps)
      × (l.self-inside.latched ≡ l.fn.self.latched);
}
