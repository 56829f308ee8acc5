use Rattle.std.proofs.Common.{◌≡◌, ◌∙◌, Ok, refl, sym, ap, subst, arith}
use Rattle.lab_core.specs.declared.run_state.RunState.TheVariants.{Running}
use Rattle.lab_core.specs.declared.answer.Answer.TheVariants.{Sliced}
use Rattle.lab_core.specs.Slices.{after_steps, traffic_of, left_by}
use Rattle.lab_core.specs.Labs.{LabState, RepresentsDuringSlice, RepresentsBoard}
use Rattle.lab_core.specs.Marks.{first_mark}
use Rattle.lab_core.proofs.LabLemmas.{stands_reserved, stands_taken, slices_running}
use Rattle.lab_core.proofs.GivenLemmas.{traffic_within}
use Rattle.lab_core.proofs.MarkLemmas.{first_mark_within}
use Rattle.lab_core.proofs.lab.Lab.slice_to.Goals as goal

pub returns-in_ok-reserve_out-in-Running-clause-applied
    : goal.returns-in_ok-reserve_out-in-Running-clause-applied
returns-in_ok-reserve_out-in-Running-clause-applied c = λ b s-now ne.
    let P : LabState → Type 0 = λ lab. RepresentsBoard lab b in
    let s = subst P (sym c.self.view_is) s-now in
    let running : b.run ≡ Running = sym s.run ∙ c.in-Running.is in
    let k = c.run_to-executed.result.0 in
    let ending = c.run_to-executed.result.1 in
    let new = left_by ending (after_steps k b) in
    let room = c.in_ok-reserve_out-in-Running.ensures in
    let reserved = stands_reserved _ b _ s room.panel room.operations in
    let A : LabState → Type 0 = λ lab. RepresentsDuringSlice lab new (traffic_of k b) in
    let in_slice = subst A (sym c.self-in-Running.view_is)
    (c.run_to-executed.ensures.represents b reserved) in (
      new,
      slices_running b.run (first_mark c.args.marks.now c.args.n b) b new _ running (record {
        k = k;
        ending = ending;
        slice = c.run_to-executed.ensures.slice b reserved;
        reply_is =
            ap (λ traffic. Ok (Sliced k traffic ending)) (c.take_out-traffic.ensures.taken
            ∙ in_slice.traffic_is);
        board_is = refl;
      }),
      stands_taken _ new (traffic_of k b) _ in_slice c.take_out-traffic.ensures.rest,
    )

pub returns-in_ok-reserve_out-in-Running-clause-marks
    : goal.returns-in_ok-reserve_out-in-Running-clause-marks
returns-in_ok-reserve_out-in-Running-clause-marks c = λ b s-now.
    let P : LabState → Type 0 = λ lab. RepresentsBoard lab b in
    let s = subst P (sym c.self.view_is) s-now in
    let k = c.run_to-executed.result.0 in
    let room = c.in_ok-reserve_out-in-Running.ensures in
    let reserved = stands_reserved _ b _ s room.panel room.operations in
    let A : LabState → Type 0 =
    λ lab. RepresentsDuringSlice lab (left_by c.run_to-executed.result.1 (after_steps k b)) (traffic_of k
    b) in
    let in_slice = subst A (sym c.self-in-Running.view_is)
    (c.run_to-executed.ensures.represents b reserved) in
    let within = (c.run_to-executed.ensures.slice b reserved).within in
    let few = first_mark_within c.args.marks.now c.args.n b in
    let so_many = traffic_within k b in (
      c.run_to-executed.ensures.marks b reserved,
      rw (c.take_out-traffic.ensures.taken ∙ in_slice.traffic_is) (omega arith),
    )
