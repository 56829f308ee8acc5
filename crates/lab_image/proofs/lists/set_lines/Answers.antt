use Rattle.std.proofs.Common.{◌≡◌, ◌∙◌, ◌<◌, arith, length}
use Rattle.std.proofs.lemmas.Bool.Decides.{nat_tests}
use Rattle.lab_image.proofs.ListLemmas.{lines_gone, lines_absent, lines_kept, lines_new}
use Rattle.lab_image.proofs.lists.set_lines.Goals as goal

pub returns-in-Some-clause-ok : goal.returns-in-Some-clause-ok
returns-in-Some-clause-ok c =
    let none : length c.args.lines.now ≡ 0 = grind (arith, nat_tests) in
    let found = rw c.deref.ensures.value at c.in-Some.ensures in
    c.remove.ensures.items
    ∙ lines_gone c.args.source c.in-Some.place c.args.lines.now c.args.lists.now.items none found

pub returns-in_default-clause-ok : goal.returns-in_default-clause-ok
returns-in_default-clause-ok c =
    let none : length c.args.lines.now ≡ 0 = grind (arith, nat_tests) in
    let missing = rw c.deref.ensures.value at c.in_default.ensures in
    lines_absent c.args.source c.args.lines.now c.args.lists.now.items none missing

pub returns-in-Some-place-clause-ok : goal.returns-in-Some-place-clause-ok
returns-in-Some-place-clause-ok c =
    let some : 0 < length c.args.lines.now = grind (arith, nat_tests) in
    let found = rw c.deref.ensures.value at c.in-Some-place.ensures in
    rw c.in_ok-list.ensures
    (lines_kept c.args.source c.in-Some-place.place c.args.lines.now c.args.lists.now.items some found)

pub returns-in_ok-push-in-None-clause-ok : goal.returns-in_ok-push-in-None-clause-ok
returns-in_ok-push-in-None-clause-ok c =
    let some : 0 < length c.args.lines.now = grind (arith, nat_tests) in
    let missing = rw c.deref.ensures.value at c.in-None.ensures in
    c.in_ok-push-in-None.ensures.items
    ∙ rw c.in_ok-list.ensures (lines_new c.args.source c.args.lines.now c.args.lists.now.items some missing)
