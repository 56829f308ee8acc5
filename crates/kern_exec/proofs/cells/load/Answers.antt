use Rattle.std.proofs.Common.{◌∙◌, subst}
use Rattle.dap_answers.specs.Murmur.{cell_path}
use Rattle.lab_core.specs.declared.event.Event.{Event}
use Rattle.lab_core.specs.declared.event.Event.TheVariants as event
use Rattle.lab_core.specs.Events.{result_of}
use Rattle.lab_core.specs.Labs.{CarriesOut}
use Rattle.kern_exec.proofs.BoardLemmas.{ok, err, loaded_so, refused_so}
use Rattle.kern_exec.proofs.cells.load.Goals as goal

pub returns-in-Ok-clause-loaded : goal.returns-in-Ok-clause-loaded
returns-in-Ok-clause-loaded c = λ b represents.
    let old = c.args.lab.now in
    let new = c.apply_event.new.lab in
    let P : Event → Type 0 = λ e. CarriesOut (result_of e) old (ok c.in-Ok.answer) new in
    let g = subst P c.in_ok-event.ensures c.in-Ok.ensures.given in
    let l =
    loaded_so old new (event.Load (cell_path c.args.code.now) c.args.code.now) c.in-Ok.answer g b
    represents in
    (c.loading_by.ensures ∙ l.0, l.1)

pub returns-in_ok-loading-in-Err-clause-loaded : goal.returns-in_ok-loading-in-Err-clause-loaded
returns-in_ok-loading-in-Err-clause-loaded c = λ b represents.
    let old = c.args.lab.now in
    let new = c.apply_event.new.lab in
    let P : Event → Type 0 = λ e. CarriesOut (result_of e) old (err c.in-Err.fault) new in
    let g = subst P c.in_ok-event.ensures c.in-Err.ensures.given in
    let refused = c.in_ok-loading-in-Err.ensures in
    let l =
    refused_so old new (event.Load (cell_path c.args.code.now) c.args.code.now) c.in-Err.fault g
    refused.other b represents in
    (refused.ended ∙ l.0, l.1)
