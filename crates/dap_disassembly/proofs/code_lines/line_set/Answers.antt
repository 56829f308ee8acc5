use Rattle.std.proofs.Common.{◌≡◌, ◌∙◌, ◌+◌, suc, ap, arith}
use Rattle.dap_disassembly.specs.CodeLines.{line_at, with_line, lines_among}
use Rattle.dap_disassembly.proofs.code_lines.line_set.Goals as goal

pub loop-address-init : goal.loop-address-init
unfolding lines_among
loop-address-init c = λ b represents. c.new-lines.ensures.empty

pub loop-address-preserved : goal.loop-address-preserved
unfolding lines_among
loop-address-preserved c = λ b represents.
    let address = c.loop-address.address in
    let before = c.loop-address.lines.keys in
    let next : address + 1 ≡ suc address = omega arith in
    rw next (c.in_ok-insert_line.ensures
    ∙ (ap (λ line. with_line line before) (c.line_at.ensures b represents)
    ∙ ap (λ lines. with_line (line_at b address) lines) (c.loop-address.invariant b represents)))
