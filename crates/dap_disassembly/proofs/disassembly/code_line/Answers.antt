use Rattle.std.proofs.Common.{◌≡◌, rules, take}
use Rattle.i80_dis.specs.Shown.{first_shown}
use Rattle.dap_disassembly.proofs.DisassemblyLemmas.{ends_with_operand}
use Rattle.dap_disassembly.proofs.disassembly.code_line.Goals as goal

pub operand_shown-requires : goal.operand_shown-requires
operand_shown-requires c =
    let all = c.bytes_at-all.result in
    let bytes : c.as_slice.result.now ≡ take (first_shown all).1 all = search rules in
    rw (bytes, c.in_ok-line.ensures.text) (ends_with_operand all)
