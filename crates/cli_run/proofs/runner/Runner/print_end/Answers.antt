use Rattle.std.proofs.Common.{◌∙◌, ◌++◌, sym, append-nil, string_bytes}
use Rattle.cli_run.specs.Printed.{register_line}
use Rattle.cli_run.proofs.RunLemmas.{end_printed}
use Rattle.cli_run.proofs.runner.Runner.print_end.Goals as goal

pub returns-in_ok-push_ending : goal.returns-in_ok-push_ending
returns-in_ok-push_ending c start represents =
    let ran = c.in_ok-ending.ensures start represents in
    rw (c.in_ok-push_ending.ensures, c.in_ok-push_registers.ensures, c.regs.ensures)
    (rw c.in-Some.is at (end_printed c.args.limit start c.run.new.self c.in_ok-ending.ending
    (string_bytes c.args.text.now) ran))

pub returns-in_default : goal.returns-in_default
returns-in_default c start represents =
    let ran = c.in_ok-ending.ensures start represents in
    rw (c.in_ok-push_registers.ensures, c.regs.ensures)
    (sym (append-nil (string_bytes c.args.text.now ++ register_line c.run.new.self.machine.regs))
    ∙ (rw c.in_default.is at (end_printed c.args.limit start c.run.new.self c.in_ok-ending.ending
    (string_bytes c.args.text.now) ran)))
