use Rattle.std.proofs.Common.{◌≡◌, ◌≤◌, ◌+◌, ◌-◌, length}
use denote.Shadow.{shadow}
use denote.Text.{Utf8}
use Rattle.dap_log.specs.Pieces.{pieces_of}
use Rattle.dap_log.specs.Messages.{parts_of}
use Rattle.dap_log.proofs.ReadLemmas.{with_front, read_from}
use Rattle.dap_log.proofs.message.parts_of.Given as goal

abbrev pub invariant-loop-left : goal.invariant-loop-left
invariant-loop-left l = record {
  text : shadow (Utf8 l.left);
  within : length l.left ≤ length l.text;
  goes_on :
      with_front l.parts (read_from (length l.text - length l.left + 1) l.left) ≡ parts_of (pieces_of l.text);
}

abbrev pub decreases-loop-left : goal.decreases-loop-left
decreases-loop-left l = length l.left
