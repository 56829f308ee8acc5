use Rattle.asm_hex.proofs.ContentsLemmas.{empty_table}
use Rattle.asm_hex.proofs.contents.Contents.new.Goals as goal

pub invariant_of-result : goal.invariant_of-result
invariant_of-result c =
    empty_table _ _ _ _ c.new-taken.ensures.items c.new-taken.ensures.len c.in_ok-resize.ensures.items
    c.new-bytes.ensures.items
