use Rattle.std.proofs.Common.{rules}
use Rattle.serde_json.specs.View.{view}
use Rattle.dap_talk.specs.Reading.{envelope_with}
use Rattle.dap_talk.proofs.AskedLemmas.{asked_bounded, name_of-asked}
use Rattle.dap_talk.proofs.ReadingLemmas.{of_request}
use Rattle.dap_talk.proofs.reading.read_request.Goals as goal

pub returns-in-Ok-clause-bounded : goal.returns-in-Ok-clause-bounded
returns-in-Ok-clause-bounded c =
    asked_bounded c.in-Some-from_name.name (view c.args.value.now) c.in-Ok.command c.in-Ok.ensures

pub returns-in-Ok-clause-command : goal.returns-in-Ok-clause-command
returns-in-Ok-clause-command c =
    let same = name_of-asked c.in-Some-from_name.name
    (view c.args.value.now) c.in-Ok.command c.in-Ok.ensures in
    rw (same, c.in-Some-from_name.ensures.spelled) c.in-Some.ensures.command

pub returns-in-Err-OutOfMemory-clause-read : goal.returns-in-Err-OutOfMemory-clause-read
returns-in-Err-OutOfMemory-clause-read c =
    of_request (view c.args.value.now)
    (envelope_with c.in-Some.seq c.in-Some.text.now) c.in-Some-from_name.name (search rules)
    (search rules) (search rules)
