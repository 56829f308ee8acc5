use Rattle.std.proofs.Common.{string_bytes}
use Rattle.cli_run.proofs.PrintedLemmas.{register_line_added}
use Rattle.cli_run.proofs.printing.push_registers.Goals as goal

pub returns : goal.returns
returns c =
    rw (
      c.in_ok-push_str.ensures.bytes,
      c.in_ok-push_hl_and_sp.ensures,
      c.in_ok-push_bc_and_de.ensures,
      c.in_ok-push_pc_and_psw.ensures,
    )
    (register_line_added (string_bytes c.args.text.now) c.args.regs.now)
