use Rattle.std.proofs.Common.{take}
use Rattle.cli_io.specs.HexState.{TakesPiece}
use Rattle.cli_io.proofs.hex_input.HexInput.feed.Given as goal

-- the bytes so far were read
abbrev pub invariant-loop-byte : goal.invariant-loop-byte
invariant-loop-byte l = TakesPiece (take l.byte-index l.piece) l.fn.self l.self
