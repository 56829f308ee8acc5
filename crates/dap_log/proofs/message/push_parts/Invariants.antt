use Rattle.std.proofs.Common.{◌≡◌, ◌++◌, drop, flat_map, string_bytes}
use Rattle.lab_core.specs.Board.{Board}
use Rattle.lab_core.specs.Labs.{RepresentsBoard}
use Rattle.dap_log.specs.Parts.{part_text}
use Rattle.dap_log.proofs.message.push_parts.Given as goal

-- the text so far, and that of the parts that are left
abbrev pub invariant-loop-part : goal.invariant-loop-part
invariant-loop-part l = (b : Board) → RepresentsBoard l.fn.lab b
    → string_bytes l.text ++ flat_map (part_text b) (drop l.part-index l.parts)
    ≡ string_bytes l.fn.text ++ flat_map (part_text b) l.parts
