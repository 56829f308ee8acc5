use Rattle.std.proofs.Common.{◌∙◌, string_bytes}
use Rattle.cli_run.specs.RunText.{run_end_text}
use Rattle.cli_engines.specs.AsmText.{begun_at}
use Rattle.cli_engines.specs.declared.asm.TheConstants.{RUN_LIMIT}
use Rattle.cli_engines.proofs.AsmLemmas.{start_added}
use Rattle.cli_engines.proofs.asm.push_start.Goals as goal

pub returns : goal.returns
returns c =
    c.in_ok-print_end.ensures _ c.in_ok-runner.ensures
    ∙ rw (c.in_ok-push_str-2.ensures.bytes, c.in_ok-push_word.ensures, c.in_ok-push_str.ensures.bytes)
    (start_added (string_bytes c.args.text.now) c.args.address
    (run_end_text RUN_LIMIT (begun_at c.args.address c.args.image.now)))
