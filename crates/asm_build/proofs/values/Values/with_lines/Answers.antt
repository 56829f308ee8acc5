use Rattle.std.proofs.Common.{◌≡◌, ◌∙◌, ◌+◌, ◌<◌, ◌∷◌, [], length, take, sym, ap, arith}
use Rattle.std.proofs.lemmas.List.{take_all}
use Rattle.std.proofs.lemmas.Result.{err_from_is_err_and}
use Rattle.asm_build.specs.Reading.{symbol_at, or_else, only_set, defined_on, last_set}
use Rattle.asm_build.specs.Meaning.{output_of}
use Rattle.asm_build.specs.State.{lines_of, output_in}
use Rattle.asm_build.proofs.LayoutLemmas.{lines_none}
use Rattle.asm_build.proofs.ValueLemmas.{lines_take, lines_taken, output_none, output_goes, output_fails}
use Rattle.asm_build.proofs.values.Values.with_lines.Goals as goal

pub loop-i-init : goal.loop-i-init
loop-i-init c =
    let ss = c.args.cell.statements.now in
    record {
      done = output_none c.args.cell.kept.now _ ss (output_in c.args.self.now) c.requires.none;
      sets =
          λ x. ap (λ es. symbol_at es x) c.requires.sets
          ∙ ap (λ ps. last_set ps x) (sym (lines_none [] ss));
    }

pub returns-in_err-with_line : goal.returns-in_err-with_line
returns-in_err-with_line c =
    let p =
    err_from_is_err_and c.from_residual.result c.from_residual.ensures.1
    in
    rw (p.1, p.2) (output_fails c.in_err-with_line.field-0.0 c.args.cell.kept.now c.args.cell.layout.now.own
    c.loop-i.sets
    c.args.cell.statements.now c.args.cell.layout.now.rows.items (output_in c.loop-i.self) c.loop-i.i
    c.index-statements-i.result c.index-row.result.now
    c.requires.laid_out.own c.requires.laid_out.rows (omega arith) c.index-statements-i.is c.index-row.ensures
    c.loop-i.invariant.sets c.loop-i.invariant.done
    c.in_err-with_line.ensures)

pub loop-i-preserved : goal.loop-i-preserved
loop-i-preserved c =
    let ss = c.args.cell.statements.now in
    let rs = c.args.cell.layout.now.rows.items in
    let i = c.loop-i.i in
    let s = c.index-statements-i.result in
    let r = c.index-row.result.now in
    let kept = c.args.cell.kept.now in
    let lt : i < length ss = omega arith in
    let more : lines_of [] ss (take (i + 1) rs) ≡ (s, r) ∷ lines_of [] ss (take i rs) =
    lines_take ss rs i s r c.requires.laid_out.rows lt c.index-statements-i.is c.index-row.ensures in
    record {
      done = ap (output_of kept (lines_of [] ss rs)) more
          ∙ output_goes kept c.args.cell.layout.now.own c.loop-i.sets (lines_of [] ss rs)
          (lines_of [] ss (take i rs)) (output_in c.loop-i.self)
          (output_in c.with_line.new.self) i (s, r) c.requires.laid_out.own c.loop-i.invariant.sets
          (lines_taken ss rs i c.requires.laid_out.rows lt)
          c.loop-i.invariant.done c.in_ok-with_line.ensures;
      sets = λ x. c.in_ok-note_set.ensures x
          ∙ ap (or_else (only_set (defined_on (s, r) x))) (c.loop-i.invariant.sets x)
          ∙ ap (λ ps. last_set ps x) (sym more);
    }

pub returns : goal.returns
returns c =
    let rows = c.requires.laid_out.rows in
    let ss = c.args.cell.statements.now in
    let rs = c.args.cell.layout.now.rows.items in
    ap (λ q. output_of c.args.cell.kept.now (lines_of [] ss rs) (lines_of [] ss q))
    (sym (take_all c.loop-i.i rs (omega (arith, rows))))
    ∙ c.loop-i.invariant.done
