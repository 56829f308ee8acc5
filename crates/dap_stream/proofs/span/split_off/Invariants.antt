use Rattle.std.proofs.Common.{◌≡◌, true, take}
use Rattle.std.specs.List.{list_all}
use Rattle.dap_stream.specs.Spans.{is_of}
use Rattle.dap_stream.proofs.span.split_off.Given as goal

abbrev pub invariant-loop-place : goal.invariant-loop-place
invariant-loop-place l = list_all (is_of l.kind) (take l.place l.bytes) ≡ true
