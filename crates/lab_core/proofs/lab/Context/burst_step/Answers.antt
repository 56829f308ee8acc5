use Rattle.std.proofs.Common.{◌≡◌, ◌∙◌, sym}
use Rattle.lab_core.proofs.StandsLemmas.{finds_no_undefined}
use Rattle.lab_core.proofs.QuietLemmas.{stands_quiet, quiet_done, quiet_settled, quiet_keeps_sp, done-devices}
use Rattle.lab_core.proofs.FollowLemmas.{finds_owed, keeps_owed, advances_owed, owed_in_burst, owed_ends}
use Rattle.i80_exec.specs.declared.registers.Kind.TheVariants as kind
use Rattle.lab_core.proofs.lab.Context.burst_step.Goals as goal

pub is_quiet-requires : goal.is_quiet-requires
is_quiet-requires c = record {
  within = λ quiet.
      (let same = quiet_keeps_sp _ _ _ quiet c.settled_step-kind.ensures.settles in
      rw (c.sp-sp.ensures, same) c.requires.ready.within);
}

pub returns-then-is_quiet-clause-undefined : goal.returns-then-is_quiet-clause-undefined
returns-then-is_quiet-clause-undefined c = λ lab b traffic s.
    let quiet = c.is_quiet.ensures.quiet c.if-is_quiet.true in
    let done = quiet_done c.settled_step-kind.result c.settled_step-kind.new.machine quiet in
    finds_no_undefined _ b traffic _ _ _ s (c.settled_step-kind.ensures.step b.past s.devices)
    (λ opcode is. (let no = sym done ∙ is in cc))

pub returns-then-is_quiet-clause-made : goal.returns-then-is_quiet-clause-made
returns-then-is_quiet-clause-made c = λ none lab b traffic s.
    let quiet = c.is_quiet.ensures.quiet c.if-is_quiet.true in
    let within = rw c.sp-sp.ensures at (c.is_quiet.ensures.within c.if-is_quiet.true) in
    let only_fetch = c.requires.ready.only_fetch in
    stands_quiet _ b traffic _ _ _ s (c.settled_step-kind.ensures.step b.past s.devices)
    c.settled_step-kind.ensures.sp only_fetch.goes_on only_fetch.has_moved
    (quiet_done c.settled_step-kind.result c.settled_step-kind.new.machine quiet)
    (c.requires.ready.above _ within)

pub returns-then-is_quiet-clause-on : goal.returns-then-is_quiet-clause-on
returns-then-is_quiet-clause-on c = λ now is.
    let same : now ≡ c.args.frame_floor = cc in
    let quiet = c.is_quiet.ensures.quiet c.if-is_quiet.true in
    let only_fetch = c.requires.ready.only_fetch in
    rw same (record {
      only_fetch = record {
        goes_on = only_fetch.goes_on;
        has_moved = only_fetch.has_moved;
        undone =
            sym (done-devices c.args.self.now.request c.args.self.now c.settled_step-kind.new.devices)
            ∙ only_fetch.undone;
        unlatched = c.settled_step-kind.ensures.unlatched;
      };
      settled = quiet_settled _ _ _ quiet c.settled_step-kind.ensures.settles;
      within = rw c.sp-sp.ensures at (c.is_quiet.ensures.within c.if-is_quiet.true);
      above = c.requires.ready.above;
    })

pub returns-in-Moved-clause-undefined : goal.returns-in-Moved-clause-undefined
returns-in-Moved-clause-undefined c = λ lab b traffic s.
    finds_owed lab b traffic _ _ _ _ _ s (c.in-Moved.ensures.step b.past s.devices) _ _ c.advance.result
    c.pc-pc.ensures
    c.advance.ensures.follows

pub returns-in-Moved-clause-ended : goal.returns-in-Moved-clause-ended
returns-in-Moved-clause-ended c = λ some lab b traffic s.
    keeps_owed lab b traffic _ _ _ _ _ s (c.in-Moved.ensures.step b.past s.devices) _ _ c.advance.result
    c.advance.ensures.follows some

pub returns-in-Moved-clause-made : goal.returns-in-Moved-clause-made
returns-in-Moved-clause-made c = λ none lab b traffic s.
    let only_fetch = c.requires.ready.only_fetch in
    advances_owed lab b traffic _ _ _ _ _ s (c.in-Moved.ensures.step b.past s.devices) _ _ c.advance.result
    c.pc-pc.ensures
    c.in-Moved.ensures.sp only_fetch.has_moved c.advance.ensures.follows none

pub returns-in-Moved-clause-on : goal.returns-in-Moved-clause-on
returns-in-Moved-clause-on c = λ now is.
    owed_in_burst kind.Moved _ _ _ _ _ _ _ now c.advance.result c.requires.ready c.in-Moved.ensures.unlatched
    c.in-Moved.ensures.settles c.advance.ensures.follows c.advance.ensures.on is

pub returns-in-Called-clause-undefined : goal.returns-in-Called-clause-undefined
returns-in-Called-clause-undefined c = λ lab b traffic s.
    finds_owed lab b traffic _ _ _ _ _ s (c.in-Called.ensures.step b.past s.devices) _ _
    c.advance-in-Called.result c.pc-pc.ensures
    c.advance-in-Called.ensures.follows

pub returns-in-Called-clause-ended : goal.returns-in-Called-clause-ended
returns-in-Called-clause-ended c = λ some lab b traffic s.
    keeps_owed lab b traffic _ _ _ _ _ s (c.in-Called.ensures.step b.past s.devices) _ _
    c.advance-in-Called.result
    c.advance-in-Called.ensures.follows some

pub returns-in-Called-clause-made : goal.returns-in-Called-clause-made
returns-in-Called-clause-made c = λ none lab b traffic s.
    let only_fetch = c.requires.ready.only_fetch in
    advances_owed lab b traffic _ _ _ _ _ s (c.in-Called.ensures.step b.past s.devices) _ _
    c.advance-in-Called.result c.pc-pc.ensures
    c.in-Called.ensures.sp only_fetch.has_moved c.advance-in-Called.ensures.follows none

pub returns-in-Called-clause-on : goal.returns-in-Called-clause-on
returns-in-Called-clause-on c = λ now is.
    owed_in_burst kind.Called _ _ _ _ _ _ _ now c.advance-in-Called.result c.requires.ready
    c.in-Called.ensures.unlatched
    c.in-Called.ensures.settles c.advance-in-Called.ensures.follows c.advance-in-Called.ensures.on is

pub returns-in-Returned-clause-undefined : goal.returns-in-Returned-clause-undefined
returns-in-Returned-clause-undefined c = λ lab b traffic s.
    finds_owed lab b traffic _ _ _ _ _ s (c.in-Returned.ensures.step b.past s.devices) _ _
    c.advance-in-Returned.result c.pc-pc.ensures
    c.advance-in-Returned.ensures.follows

pub returns-in-Returned-clause-ended : goal.returns-in-Returned-clause-ended
returns-in-Returned-clause-ended c = λ some lab b traffic s.
    keeps_owed lab b traffic _ _ _ _ _ s (c.in-Returned.ensures.step b.past s.devices) _ _
    c.advance-in-Returned.result
    c.advance-in-Returned.ensures.follows some

pub returns-in-Returned-clause-made : goal.returns-in-Returned-clause-made
returns-in-Returned-clause-made c = λ none lab b traffic s.
    let only_fetch = c.requires.ready.only_fetch in
    advances_owed lab b traffic _ _ _ _ _ s (c.in-Returned.ensures.step b.past s.devices) _ _
    c.advance-in-Returned.result c.pc-pc.ensures
    c.in-Returned.ensures.sp only_fetch.has_moved c.advance-in-Returned.ensures.follows none

pub returns-in-Returned-clause-on : goal.returns-in-Returned-clause-on
returns-in-Returned-clause-on c = λ now is.
    owed_in_burst kind.Returned _ _ _ _ _ _ _ now c.advance-in-Returned.result c.requires.ready
    c.in-Returned.ensures.unlatched
    c.in-Returned.ensures.settles c.advance-in-Returned.ensures.follows c.advance-in-Returned.ensures.on is

pub returns-in_default-clause-undefined : goal.returns-in_default-clause-undefined
returns-in_default-clause-undefined c = λ lab b traffic s.
    finds_owed lab b traffic _ _ _ _ _ s (c.settled_step-kind.ensures.step b.past s.devices) _ _
    c.advance-in_default.result c.pc-pc.ensures
    c.advance-in_default.ensures.follows

pub returns-in_default-clause-ended : goal.returns-in_default-clause-ended
returns-in_default-clause-ended c = λ some lab b traffic s.
    keeps_owed lab b traffic _ _ _ _ _ s (c.settled_step-kind.ensures.step b.past s.devices) _ _
    c.advance-in_default.result
    c.advance-in_default.ensures.follows some

pub returns-in_default-clause-made : goal.returns-in_default-clause-made
returns-in_default-clause-made c = λ none lab b traffic s.
    let only_fetch = c.requires.ready.only_fetch in
    advances_owed lab b traffic _ _ _ _ _ s (c.settled_step-kind.ensures.step b.past s.devices) _ _
    c.advance-in_default.result c.pc-pc.ensures
    c.settled_step-kind.ensures.sp only_fetch.has_moved c.advance-in_default.ensures.follows none

pub returns-in_default-clause-on : goal.returns-in_default-clause-on
returns-in_default-clause-on c = λ now is.
    owed_in_burst c.settled_step-kind.result _ _ _ _ _ _ _ now c.advance-in_default.result c.requires.ready
    c.settled_step-kind.ensures.unlatched
    c.settled_step-kind.ensures.settles c.advance-in_default.ensures.follows
    c.advance-in_default.ensures.on is

pub returns-in-Moved-clause-last : goal.returns-in-Moved-clause-last
returns-in-Moved-clause-last c = λ is.
    owed_ends kind.Moved c.args.machine.now _ c.args.self.now _ _ _
    c.advance.result c.in-Moved.ensures.settles c.advance.ensures.follows
    c.advance.ensures.last is

pub returns-in-Called-clause-last : goal.returns-in-Called-clause-last
returns-in-Called-clause-last c = λ is.
    owed_ends kind.Called c.args.machine.now _ c.args.self.now _ _ _
    c.advance-in-Called.result c.in-Called.ensures.settles c.advance-in-Called.ensures.follows
    c.advance-in-Called.ensures.last is

pub returns-in-Returned-clause-last : goal.returns-in-Returned-clause-last
returns-in-Returned-clause-last c = λ is.
    owed_ends kind.Returned c.args.machine.now _ c.args.self.now _ _ _
    c.advance-in-Returned.result c.in-Returned.ensures.settles c.advance-in-Returned.ensures.follows
    c.advance-in-Returned.ensures.last is

pub returns-in_default-clause-last : goal.returns-in_default-clause-last
returns-in_default-clause-last c = λ is.
    owed_ends c.settled_step-kind.result c.args.machine.now _ c.args.self.now _ _ _
    c.advance-in_default.result c.settled_step-kind.ensures.settles c.advance-in_default.ensures.follows
    c.advance-in_default.ensures.last is
