use Rattle.std.proofs.Common.{◌≡◌, ◌+◌, drop}
use Rattle.std.specs.List.{prefix_len}
use Rattle.dap_log.specs.Pieces.{is_plain}
use Rattle.dap_log.proofs.piece.plain_len.Given as goal

abbrev pub invariant-loop-index : goal.invariant-loop-index
invariant-loop-index l = l.index + prefix_len is_plain (drop l.index l.text) ≡ prefix_len is_plain l.text
