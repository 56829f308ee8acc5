use Rattle.std.proofs.Common.{◌∙◌, ap, ◌++◌, ◌≡◌, ◌<◌, [], arith, length}
use Rattle.std.proofs.lemmas.List.{append-nil, nil_from_length}
use Rattle.dap_stream.proofs.HeaderLemmas.{begins_name}
use Rattle.dap_stream.proofs.LineLemmas.{nameless_line, other_line, field_line}
use Rattle.dap_stream.proofs.line.read_line.Goals as goal

pub returns-in_default : goal.returns-in_default
returns-in_default c =
    let name = c.split_off.result.front.now in
    let none = nil_from_length c.split_off.result.others.now c.in_default.ensures.cases in
    λ lines f. rw (c.split_off.ensures.spelled ∙ (ap (λ l. name ++ l) none ∙ append-nil name))
    (begins_name lines name c.args.size f c.split_off.ensures.front_is)

pub returns-then-is_empty : goal.returns-then-is_empty
returns-then-is_empty c =
    let none : c.split_off.result.front.now ≡ [] = nil_from_length _ (grind (arith, c.is_empty.ensures)) in
    λ lines f. nameless_line lines c.args.bytes.now c.split_off.result.front.now c.split_off.result.others.now
    c.in-Some.after.now c.in-Some.byte.now c.args.size _ c.split_off.ensures c.in-Some.ensures.cases.0 f none
    c.read_nameless.ensures

pub returns-then-byte-ne58 : goal.returns-then-byte-ne58
returns-then-byte-ne58 c =
    let some : 0 < length c.split_off.result.front.now = grind (arith, c.is_empty.ensures) in
    λ lines f. other_line lines c.args.bytes.now c.split_off.result.front.now c.split_off.result.others.now
    c.in-Some.after.now c.in-Some.byte.now c.args.size c.split_off.ensures c.in-Some.ensures.cases.0 f some
    c.if-byte-ne58.true

pub returns : goal.returns
returns c =
    let some : 0 < length c.split_off.result.front.now = grind (arith, c.is_empty.ensures) in
    λ lines f. field_line lines c.args.bytes.now c.split_off.result.front.now c.split_off.result.others.now
    c.in-Some.after.now c.split_off-2.result.front.now c.split_off-2.result.others.now c.in-Some.byte.now
    c.args.size _ c.split_off.ensures c.in-Some.ensures.cases.0 f some c.if-byte-ne58.false
    c.split_off-2.ensures
    c.read_field.ensures
