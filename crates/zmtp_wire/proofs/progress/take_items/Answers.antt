use Rattle.std.proofs.Common.{arith, None, take, drop, length-drop}
use Rattle.std.proofs.lemmas.List.{take_rest}
use Rattle.zmtp_wire.specs.Stream.{Stays}
use Rattle.zmtp_wire.specs.Progress.{got_in}
use Rattle.zmtp_wire.proofs.ProgressLemmas.{kept_first, kept_step, reads_step}
use Rattle.zmtp_wire.proofs.progress.take_items.Goals as goal

pub loop-place-init : goal.loop-place-init
loop-place-init c = record { within = omega arith; kept = λ e. kept_first _ _ e; read = λ before. Stays _ _ }

pub loop-place-preserved : goal.loop-place-preserved
loop-place-preserved c =
    let rest = drop c.loop-place.place c.args.bytes.now in
    let e = rw (c.in-Item.is, take_rest c.args.bytes.now c.loop-place.place) at c.in_ok-size.ensures.ok in
    let fits = e.1 in
    record {
      within = omega (arith, fits, length-drop c.loop-place.place c.args.bytes.now);
      kept = λ h. kept_step c.args.role c.args.progress.now.frames (got_in c.loop-place.progress None)
          (got_in c.take_item.new.progress None) (take c.in-Item.size rest) (e.2 None)
          (c.loop-place.invariant.kept h);
      read = λ before. reads_step c.args.role (got_in c.args.progress.now before)
          (got_in c.loop-place.progress before) (got_in c.take_item.new.progress before) c.args.bytes.now
          c.loop-place.place c.in-Item.size (c.loop-place.invariant.read before) (e.2 before);
    }
