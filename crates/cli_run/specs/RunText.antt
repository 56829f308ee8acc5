-- What a run of a program prints.
use Rattle.std.specs.Prelude.{ℕ, suc, zero, List, [], ◌++◌, Option, Some, None, codes}
use Rattle.base_text.specs.Hexadecimal.{upper_byte}
use Rattle.cli_io.specs.Report.{line}
use Rattle.cli_run.specs.declared.ending.Ending.{Ending}
use Rattle.cli_run.specs.declared.ending.Ending.TheVariants.{Halted, Waiting, Undefined, Limit}
use Rattle.cli_run.specs.Printed.{register_line}
use Rattle.cli_run.specs.Computer.{Computer, after, end_at, run_length}

-- the registers after each of the first k steps
unfoldable pub lines_of : ℕ → Computer → List ℕ
lines_of zero b = []
lines_of (suc k) b = let now = after (suc k) b in lines_of k b ++ register_line now.machine.regs

abbrev pub word_of : Ending → List ℕ
word_of Halted = codes "halted"
word_of Waiting = codes "waiting"
word_of (Undefined opcode) = codes "undefined " ++ upper_byte opcode
word_of Limit = codes "limit"

abbrev pub end_line : Option Ending → List ℕ
end_line None = []
end_line (Some end) = line (word_of end)

-- the registers after each step, and then how the run ended
unfoldable pub run_text : ℕ → Computer → List ℕ
run_text limit start =
    let steps = run_length limit start in
    lines_of steps start ++ end_line (end_at limit start steps)

-- the registers at the end of the run, and how it ended
unfoldable pub run_end_text : ℕ → Computer → List ℕ
run_end_text limit start =
    let steps = run_length limit start in
    register_line (after steps start).machine.regs ++ end_line (end_at limit start steps)
