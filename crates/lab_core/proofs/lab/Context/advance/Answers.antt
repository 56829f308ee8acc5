use Rattle.std.proofs.Common.{◌≡◌, ◌<◌, ◌∙◌, ap, refl, arith}
use Rattle.lab_core.specs.declared.lab.Context.{Context}
use Rattle.lab_core.proofs.QuietLemmas.{below_frame_floor}
use Rattle.lab_core.proofs.lab.Context.advance.Goals as goal

pub returns-then-is_last : goal.returns-then-is_last
returns-then-is_last c =
    let left : c.follow.new.self.frames ≡ c.advance-left.new.self =
    ap (λ (context : Context). context.frames) c.follow.ensures.rest in
    record {
      follows = rw (← c.report-answer.ensures, ← c.sp-sp.ensures) (record {
        defined = c.in_default.not-Undefined;
        frames = rw left c.advance-left.ensures.live;
        left = c.advance-left.result;
        oldest = c.advance-left.ensures.oldest;
        older = c.follow.ensures.older;
        gone = c.follow.ensures.gone;
        rest = c.follow.ensures.rest ∙ rw (left, c.is_halt-self.ensures) refl;
      });
      on = λ frame_floor is. cc;
      last = λ is. c.is_last.ensures.last c.if-is_last.true;
    }

pub returns : goal.returns
returns c =
    let small : c.sp-sp.result < 65536 = omega arith in
    let left : c.follow.new.self.frames ≡ c.advance-left.new.self =
    ap (λ (context : Context). context.frames) c.follow.ensures.rest in
    record {
      follows = rw (← c.report-answer.ensures, ← c.sp-sp.ensures) (record {
        defined = c.in_default.not-Undefined;
        frames = rw left c.advance-left.ensures.live;
        left = c.advance-left.result;
        oldest = c.advance-left.ensures.oldest;
        older = c.follow.ensures.older;
        gone = c.follow.ensures.gone;
        rest = c.follow.ensures.rest ∙ rw (left, c.is_halt-self.ensures) refl;
      });
      on = λ frame_floor is.
          (let same : frame_floor ≡ c.frame_floor.result = cc in
          rw (same, ← c.sp-sp.ensures) (record {
            not_last = c.is_last.ensures.on c.if-is_last.false;
            undone = c.is_last.ensures.undone c.if-is_last.false;
            within =
                below_frame_floor c.sp-sp.result c.frame_floor.result c.follow.new.self.frames small
                (rw left c.advance-left.ensures.above) c.frame_floor.ensures.frame_floor;
            above = c.frame_floor.ensures.above;
          }));
      last = λ is. cc;
    }
