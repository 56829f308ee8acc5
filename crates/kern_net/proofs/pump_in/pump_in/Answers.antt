use Rattle.std.proofs.Common.{◌∙◌, ℕ, subst, take, arith}
use Rattle.base_streams.specs.Told.{Gave}
use Rattle.kern_net.proofs.ReadLemmas.{held_refused, stopped_first, stopped, under_way_on, ended_there}
use Rattle.kern_net.proofs.ReadLemmas.{failed_there, read_enough, positive}
use Rattle.kern_net.proofs.pump_in.pump_in.Goals as goal

pub returns-in-Err : goal.returns-in-Err
returns-in-Err g c =
    let end = c.in-Err.ensures in
    record {
      same = end.same;
      woke = end.woke;
      told = end.told;
      read =
          held_refused _ c.args.peer _ _ _ _ c.requires.readable end.submitted.1 end.submitted.0;
    }

pub returns-in-Err-take_piece : goal.returns-in-Err-take_piece
returns-in-Err-take_piece g c =
    let held = c.in-Ok.ensures in
    let end = c.in-Err-take_piece.ensures in
    record {
      same = (end.same.0, end.same.1 ∙ held.same.1);
      woke = (let a = held.woke in let b = end.woke in omega (arith, a, b));
      told = (let a = held.told in let b = end.told in omega (arith, a, b));
      read =
          stopped_first _ c.args.peer _ _ _ _ _ _ c.requires.readable held.submitted end.submitted.1
          end.submitted.0;
    }

pub returns-in-Err-take_piece-2 : goal.returns-in-Err-take_piece-2
returns-in-Err-take_piece-2 g c =
    let some = positive c.in-Ok-read.count c.in-Ok-read.count-test.1 in
    record {
      same = (
        c.in-Err-take_piece-2.ensures.same.0,
        c.in-Err-take_piece-2.ensures.same.1 ∙ c.loop-reads.invariant.seat,
      );
      woke = (let a = c.loop-reads.invariant.woke in let b = c.in-Err-take_piece-2.ensures.woke in
          omega (arith, a, b));
      told = (let a = c.loop-reads.invariant.told in let b = c.in-Err-take_piece-2.ensures.told in
          omega (arith, a, b));
      read =
          stopped _ _ _ _ _ _ _ _ _ _ _ _ _ c.loop-reads.invariant.read c.in-Ok-read.ensures.given
          c.read.ensures.reads c.loop-reads-test.true (
            c.in-Ok-read.ensures.ended.0 some ∙ c.loop-reads.invariant.readable.0,
            c.in-Ok-read.ensures.failed ∙ c.loop-reads.invariant.readable.1,
          )
          c.in-Err-take_piece-2.ensures.submitted.1 c.in-Err-take_piece-2.ensures.submitted.0;
    }

pub returns-in-Ok-eq0 : goal.returns-in-Ok-eq0
returns-in-Ok-eq0 g c =
    let i = c.loop-reads.invariant in
    let P : ℕ → Type 0 = λ n. Gave (g.I.Inlet.state c.loop-reads.from) (g.I.Inlet.state c.read.new.self)
    (take n c.read.new.buffer) in
    record {
      same = (i.own, i.seat);
      woke = i.woke;
      told = i.told;
      read =
          ended_there _ _ _ _ (g.I.Inlet.state c.read.new.self) _ _ _ _ i.read
          (subst P c.in-Ok-eq0.field-0-test c.in-Ok-eq0.ensures.given) c.read.ensures.reads
          c.loop-reads-test.true (c.in-Ok-eq0.ensures.ended.1 c.in-Ok-eq0.field-0-test)
          (c.in-Ok-eq0.ensures.failed ∙ i.readable.1);
    }

pub returns-in-Err-read : goal.returns-in-Err-read
returns-in-Err-read g c =
    let i = c.loop-reads.invariant in
    record {
      same = (i.own, i.seat);
      woke = i.woke;
      told = i.told;
      read =
          failed_there _ _ _ _ (g.I.Inlet.state c.read.new.self) _ _ _ _ i.read c.in-Err-read.ensures.given
          c.read.ensures.reads c.loop-reads-test.true (c.in-Err-read.ensures.ended ∙ i.readable.0)
          c.in-Err-read.ensures.failed;
    }

pub loop-reads-preserved : goal.loop-reads-preserved
loop-reads-preserved g c =
    let some = positive c.in-Ok-read.count c.in-Ok-read.count-test.1 in
    record {
      own = c.in-Ok-take_piece-2.ensures.same.0;
      seat = c.in-Ok-take_piece-2.ensures.same.1 ∙ c.loop-reads.invariant.seat;
      woken = c.in-Ok-take_piece-2.ensures.woken;
      woke = (let a = c.loop-reads.invariant.woke in let b = c.in-Ok-take_piece-2.ensures.woke in
          omega (arith, a, b));
      told = (let a = c.loop-reads.invariant.told in let b = c.in-Ok-take_piece-2.ensures.told in
          omega (arith, a, b));
      readable = (
        c.in-Ok-read.ensures.ended.0 some ∙ c.loop-reads.invariant.readable.0,
        c.in-Ok-read.ensures.failed ∙ c.loop-reads.invariant.readable.1,
      );
      read =
          under_way_on _ _ _ _ _ _ _ _ _ _ _ _ c.loop-reads.invariant.read c.in-Ok-read.ensures.given
          c.read.ensures.reads c.loop-reads-test.true c.in-Ok-take_piece-2.ensures.submitted;
    }

pub returns : goal.returns
returns g c =
    let i = c.loop-reads.invariant in
    record {
      same = (i.own, i.seat);
      woke = i.woke;
      told = i.told;
      read = read_enough _ _ _ _ _ _ _ _ i.read c.loop-reads-test.false i.readable;
    }
