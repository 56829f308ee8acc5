use Rattle.zmtp_wire.proofs.CommandLemmas.{passed_next, passed_all, passed_fault, empty_is, some_are}
use Rattle.zmtp_wire.proofs.command.read_properties.Goals as goal

pub returns-in_err-name-clause-none : goal.returns-in_err-name-clause-none
returns-in_err-name-clause-none c =
    rw c.from_residual.ensures (passed_fault c.args.bytes.now c.loop-rest.rest.now _ _ c.loop-rest.invariant
    (some_are c.loop-rest.rest.now c.loop-rest-test.ensures) c.in_err-name.ensures.none)

pub loop-rest-preserved : goal.loop-rest-preserved
loop-rest-preserved c =
    passed_next c.args.bytes.now c.loop-rest.rest.now c.in_ok-name.field-0.name.now
    c.in_ok-name.field-0.value.now c.in_ok-name.field-0.others.now _ _ _ _ c.loop-rest.invariant
    c.in_ok-name.ensures.found c.first_of-socket_type.ensures c.first_of-identity.ensures

pub returns-clause-found : goal.returns-clause-found
returns-clause-found c =
    passed_all c.args.bytes.now c.loop-rest.rest.now _ _ c.loop-rest.invariant
    (empty_is c.loop-rest.rest.now c.loop-rest-test.ensures)
