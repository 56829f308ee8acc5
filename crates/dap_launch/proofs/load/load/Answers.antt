use Rattle.std.proofs.Common.{sym, subst}
use Rattle.lab_core.specs.declared.event.Event.{Event}
use Rattle.lab_core.specs.declared.event.Event.TheVariants.{Load}
use Rattle.lab_core.specs.declared.fault.EventFault.TheVariants.{OutOfMemory}
use Rattle.lab_core.specs.Events.{result_of}
use Rattle.lab_core.specs.Labs.{CarriesOut}
use Rattle.dap_launch.specs.Loading.{board_to_load_on, load_result}
use Rattle.dap_launch.proofs.LoadLemmas.{ok, err, apart, loads_start, loads_none, loads_fault, no_lack}
use Rattle.dap_launch.proofs.load.load.Goals as goal

pub returns-in-Some : goal.returns-in-Some
unfolding load_result
returns-in-Some c = λ ne.
    let a = c.in-Ok.answer in
    let lab = c.apply-answer.new.self in
    let P : Event → Type 0 = λ e. CarriesOut (result_of e) c.prepare.new.lab (ok a) lab in
    let does = subst P c.in_ok-event.ensures c.in-Ok.ensures.given in
    let b = board_to_load_on c.args.launch.now in
    loads_start (result_of (Load c.args.launch.now.program c.args.text.now) b) b a lab c.in-Some.start
    (does b c.prepare.ensures (apart a OutOfMemory)) (sym c.in-Some.ensures)

pub returns-in-None : goal.returns-in-None
unfolding load_result
returns-in-None c = λ ne.
    let a = c.in-Ok.answer in
    let lab = c.apply-answer.new.self in
    let P : Event → Type 0 = λ e. CarriesOut (result_of e) c.prepare.new.lab (ok a) lab in
    let does = subst P c.in_ok-event.ensures c.in-Ok.ensures.given in
    let b = board_to_load_on c.args.launch.now in
    loads_none (result_of (Load c.args.launch.now.program c.args.text.now) b) b a lab
    (does b c.prepare.ensures (apart a OutOfMemory)) (sym c.in-None.ensures)

pub returns-in-Err : goal.returns-in-Err
unfolding load_result
returns-in-Err c = λ ne.
    let f = c.in-Err.fault in
    let lab = c.apply-answer.new.self in
    let P : Event → Type 0 = λ e. CarriesOut (result_of e) c.prepare.new.lab (err f) lab in
    let does = subst P c.in_ok-event.ensures c.in-Err.ensures.given in
    let b = board_to_load_on c.args.launch.now in
    rw c.fault_of.ensures (loads_fault (result_of (Load c.args.launch.now.program c.args.text.now) b) b f lab
    (does b c.prepare.ensures (no_lack f (rw (← c.fault_of.ensures) ne))))
