use Rattle.std.proofs.Common.{◌≡◌, Some, sym, subst}
use Rattle.lab_image.specs.Sources.{source_at}
use Rattle.lab_image.specs.Breakpoints.{with_lines}
use Rattle.lab_core.specs.Labs.{LabState, RepresentsBoard}
use Rattle.lab_core.proofs.LabLemmas.{gives_breakpoints, stands_listed}
use Rattle.lab_core.proofs.lab.Lab.set_breakpoints.Goals as goal

pub returns-in_ok-set-in-Some-clause-applied : goal.returns-in_ok-set-in-Some-clause-applied
returns-in_ok-set-in-Some-clause-applied c = λ b s-now ne.
    let P : LabState → Type 0 = λ lab. RepresentsBoard lab b in
    let s = subst P (sym c.self.view_is) s-now in
    let found : source_at b.sources c.args.path.now ≡ Some (c.in-Some.number, c.in-Some.text.now) =
    rw (← s.sources) (sym c.in-Some.ensures.found) in
    let done = c.in_ok-set-in-Some.ensures in (
      record b { breakpoints = with_lines c.in-Some.number c.args.lines.now b.breakpoints },
      gives_breakpoints b c.args.path.now c.args.lines.now c.in-Some.number c.in-Some.text.now _ found
          c.in_ok-answer-in-Some.ensures,
      stands_listed _ b _ c.in-Some.number c.args.lines.now s done.lists (done.represents b.loads s.origins),
    )
