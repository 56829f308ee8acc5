use Rattle.std.proofs.Common.{◌≡◌, ◌∙◌, ◌+◌, ◌++◌, ◌∷◌, [], List, Some, Err, length, refl, ap, sym, subst}
use Rattle.std.proofs.Common.{take, length-append}
use Rattle.std.proofs.lemmas.Bool.{iff_false}
use Rattle.std.proofs.lemmas.List.{take_more, take_all}
use Rattle.std.proofs.lemmas.Option.{slice_get_read}
use Rattle.std.specs.List.{slice_get}
use Rattle.lab_core.specs.declared.event.Event.{Event}
use Rattle.lab_core.specs.declared.fault.EventFault.TheVariants.{OutOfMemory}
use Rattle.lab_core.specs.Labs.{RunsOn}
use Rattle.lab_core.proofs.EventLemmas.{Runs-append}
use Rattle.lab_core.proofs.lab.Lab.run.Goals as goal

pub loop-event-preserved : goal.loop-event-preserved
loop-event-preserved c =
    let inv = c.loop-event.invariant in
    let items =
    c.push_reserved.ensures.items ∙ ap (λ xs. xs ++ c.apply-answer.result ∷ []) c.reserve.ensures.items in
    let done = take c.loop-event.event-index c.args.events.now in
    let more =
    take_more c.args.events.now c.loop-event.event-index c.event-item.result c.loop-event-test.true
    ∙ ap (λ e. done ++ e ∷ []) (sym c.event-item.is) in
    record {
      runs = λ b s.
          let before = inv.runs b s in
          let after =
          c.apply-answer.ensures.applied before.0 before.2
          (iff_false c.is_out_of_memory.ensures c.if-is_out_of_memory.false) in
          (after.0, rw (items, more) (Runs-append b before.0 after.0 _ _ _ _ before.1 after.1), after.2);
      count =
          rw items (length-append c.loop-event.answers.items (c.apply-answer.result ∷ [])
          ∙ ap (λ n. n + 1) inv.count);
    }

pub returns-then-is_err : goal.returns-then-is_err
returns-then-is_err c = record {
  ok = tt;
  stopped =
      rw (c.from.ensures, c.reserve.ensures.items, c.loop-event.invariant.count) c.loop-event.invariant.runs;
  fewer =
      rw (c.from.ensures, c.reserve.ensures.items, c.loop-event.invariant.count) c.loop-event-test.true;
  wanted = λ is. cc;
}

-- an event that ran out of memory left the lab unchanged
unchanged : (c : goal.Joined-answer) → c.apply-answer.new.self ≡ c.loop-event.self
unchanged c =
    let lacking : c.apply-answer.result ≡ Err OutOfMemory =
    c.is_out_of_memory.ensures.0 c.if-is_out_of_memory.true in
    rw lacking at c.apply-answer.ensures.err

pub returns-then-is_out_of_memory : goal.returns-then-is_out_of_memory
returns-then-is_out_of_memory c =
    let events = c.args.events.now in
    let i = c.loop-event.event-index in
    let lacking : c.apply-answer.result ≡ Err OutOfMemory =
    c.is_out_of_memory.ensures.0 c.if-is_out_of_memory.true in
    let there : slice_get events i ≡ Some c.event-item.result =
    slice_get_read events (length events) i c.event-item.result refl c.loop-event-test.true c.event-item.is in
    record {
      ok = tt;
      stopped =
          rw (
            c.from-then-is_out_of_memory.ensures,
            c.reserve.ensures.items,
            c.loop-event.invariant.count,
            unchanged c,
          )
          c.loop-event.invariant.runs;
      fewer =
          rw (
            c.from-then-is_out_of_memory.ensures,
            c.reserve.ensures.items,
            c.loop-event.invariant.count,
          )
          c.loop-event-test.true;
      wanted = λ _.
          rw (
            c.from-then-is_out_of_memory.ensures,
            c.reserve.ensures.items,
            c.loop-event.invariant.count,
            there,
            unchanged c,
          ) (c.apply-answer.ensures.memory lacking);
    }

pub returns : goal.returns
returns c =
    let P : List Event → Type 0 = λ events.
    RunsOn c.args.self.now events c.loop-event.answers.items c.loop-event.self in
    record {
      ok =
          rw c.from-2.ensures
          (subst P (take_all c.loop-event.event-index c.args.events.now c.loop-event-test.false)
          c.loop-event.invariant.runs);
      stopped = tt;
      fewer = tt;
      wanted = tt;
    }
