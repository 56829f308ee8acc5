use Rattle.std.proofs.Common.{◌∙◌, sym, ap}
use Rattle.i80_exec.specs.Step.{is_moved}
use Rattle.i80_exec.proofs.AliasLemmas.{undefined_left, undefined_keeps, row_is_strict, aliased}
use Rattle.i80_exec.proofs.machine.Machine.step_opcode.Goals as goal

pub step_alias-requires-clause-opcode : goal.step_alias-requires-clause-opcode
step_alias-requires-clause-opcode g c =
    let alias = c.is_alias.ensures.alias c.if-is_alias.true in
    rw (undefined_keeps c.args.opcode _ c.args.self.now _ _ alias.0 c.step_strict-kind.ensures.outcome.0)
    c.requires.opcode

pub step_alias-requires-clause-settled : goal.step_alias-requires-clause-settled
step_alias-requires-clause-settled g c =
    let alias = c.is_alias.ensures.alias c.if-is_alias.true in
    rw (undefined_keeps c.args.opcode _ c.args.self.now _ _ alias.0 c.step_strict-kind.ensures.outcome.0)
    c.requires.settled

pub step_alias-requires-clause-undefined : goal.step_alias-requires-clause-undefined
step_alias-requires-clause-undefined g c =
    let alias = c.is_alias.ensures.alias c.if-is_alias.true in
    let n = undefined_left c.args.opcode _ c.args.self.now _ _ alias.0
    c.step_strict-kind.ensures.outcome.0.answer_is in
    n.row_is

pub returns-then-is_alias : goal.returns-then-is_alias
returns-then-is_alias g c =
    let alias = c.is_alias.ensures.alias c.if-is_alias.true in
    let o = c.step_strict-kind.ensures.outcome in
    let same = undefined_keeps c.args.opcode _ c.args.self.now _ _ alias.0 o.0 in
    record {
      outcome =
          aliased c.args.opcode c.args.self.now _ _ _ _ _ _ alias.0 (rw same at alias.1) o
          c.step_alias.ensures.outcome;
      settles = rw same at c.step_alias.ensures.settles;
      moved = c.step_alias.ensures.moved ∙ sym (ap is_moved alias.0) ∙ c.step_strict-kind.ensures.moved;
    }

pub returns : goal.returns
returns g c =
    let o = c.step_strict-kind.ensures.outcome in
    let strict = c.is_alias.ensures.other c.if-is_alias.false in
    record {
      outcome =
          rw (row_is_strict c.args.opcode _ c.args.self.now _ _ o.0.answer_is (λ undefined.
          (let same = undefined_keeps c.args.opcode _ c.args.self.now _ _ undefined o.0 in
          rw same at (strict undefined)))) o;
      settles = c.step_strict-kind.ensures.settles;
      moved = c.step_strict-kind.ensures.moved;
    }
