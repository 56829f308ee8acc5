use Rattle.std.proofs.Common.{take}
use Rattle.lab_image.specs.Loads.{Tells}
use Rattle.lab_image.specs.Spans.{AreSpans}
use Rattle.lab_image.proofs.spans.put_in_order.Given as goal

-- the spans give what the rows so far tell
abbrev pub invariant-loop-i : goal.invariant-loop-i
invariant-loop-i l = record {
  sorted : AreSpans 0 l.spans.items 65536;
  origins : Tells l.source (take l.i l.rows) l.initial.spans.items l.spans.items;
}
