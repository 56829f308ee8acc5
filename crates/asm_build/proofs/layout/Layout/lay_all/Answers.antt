use Rattle.std.proofs.Common.{◌≡◌, ◌∙◌, ◌+◌, ◌∷◌, [], length, drop, length-append, sym, ap, subst, arith}
use Rattle.std.proofs.lemmas.Result.{err_from_is_err_and}
use Rattle.asm_build.specs.Reading.{Lines}
use Rattle.asm_build.specs.Layout.{layout}
use Rattle.asm_build.specs.State.{lines_of, IsLayoutAfter}
use Rattle.asm_build.proofs.LayoutLemmas.{stands_next, lines_none, lines_more, lines_length, layout_goes}
use Rattle.asm_build.proofs.LayoutLemmas.{layout_fails, layout_ends}
use Rattle.asm_build.proofs.layout.Layout.lay_all.Goals as goal

pub loop-i-init : goal.loop-i-init
loop-i-init c =
    let ss = c.args.statements.now in
    let old = c.args.self.now in
    let none : lines_of [] ss old.rows.items ≡ [] =
    ap (lines_of [] ss) c.requires.rows ∙ lines_none [] ss in
    record {
      small = omega (arith, c.requires.represents.place);
      rows = ap length c.requires.rows;
      represents = subst (λ (e : Lines). IsLayoutAfter e old) (sym none) c.requires.represents;
      goes_on = ap (λ e. layout c.args.kept.now e ss) none;
    }

pub returns-in_err-lay-clause-exact : goal.returns-in_err-lay-clause-exact
returns-in_err-lay-clause-exact c =
    let p = err_from_is_err_and c.from_residual.result c.from_residual.ensures.1 in
    let ss = c.args.statements.now in
    let rs = c.loop-i.self.rows.items in
    let long : length (lines_of [] ss rs) ≡ c.loop-i.i =
    omega (arith, lines_length [] ss rs (omega (arith, c.loop-i.invariant.rows)), c.loop-i.invariant.rows)
    in
    rw (p.1, p.2) (layout_fails c.in_err-lay.field-0.0 c.args.kept.now (lines_of [] ss rs) ss c.loop-i.self
    c.loop-i.i c.index-statements-i.result _
    (omega arith) c.index-statements-i.is c.loop-i.invariant.represents long c.in_err-lay.ensures.exact
    c.loop-i.invariant.goes_on)

pub loop-i-preserved : goal.loop-i-preserved
loop-i-preserved c =
    let ss = c.args.statements.now in
    let s = c.index-statements-i.result in
    let r = c.in_ok-lay.field-0 in
    let rs = c.loop-i.self.rows.items in
    let goes = c.in_ok-lay.ensures.advances in
    let was = c.loop-i.invariant in
    let long : length (lines_of [] ss rs) ≡ c.loop-i.i =
    omega (arith, lines_length [] ss rs (omega (arith, was.rows)), was.rows) in
    let more : lines_of [] ss c.lay.new.self.rows.items ≡ (s, r) ∷ lines_of [] ss rs =
    ap (lines_of [] ss) goes.rows
    ∙ lines_more [] ss rs s r c.loop-i.i (sym was.rows) (omega arith) c.index-statements-i.is in
    record {
      small = c.in_ok-lay.ensures.small;
      rows = ap length goes.rows ∙ length-append rs (r ∷ []) ∙ ap (λ n. n + 1) was.rows;
      represents =
          subst (λ (e : Lines). IsLayoutAfter e c.lay.new.self) (sym more)
          (stands_next (lines_of [] ss rs) c.loop-i.self c.lay.new.self s r was.represents goes);
      goes_on = ap (λ e. layout c.args.kept.now e (drop (c.loop-i.i + 1) ss)) more
          ∙ layout_goes c.args.kept.now (lines_of [] ss rs) ss c.loop-i.self c.loop-i.i s r _
          (omega arith) c.index-statements-i.is was.represents long c.in_ok-lay.ensures.exact was.goes_on;
    }

pub returns-clause-exact : goal.returns-clause-exact
returns-clause-exact c =
    layout_ends c.args.kept.now (lines_of [] c.args.statements.now c.loop-i.self.rows.items)
    c.args.statements.now c.loop-i.i _
    (omega arith) c.loop-i.invariant.goes_on
