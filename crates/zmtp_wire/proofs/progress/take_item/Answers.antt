use Rattle.std.proofs.Common.{ℕ, get_or, refl, sym, ap, arith, take, drop, ◌-◌, ◌+◌, ◌≡◌, ◌<◌, length, List}
use Rattle.zmtp_wire.specs.Progress.{got_in}
use Rattle.zmtp_wire.proofs.FramingLemmas.{Next, next_of}
use Rattle.zmtp_wire.proofs.StreamLemmas.{opened}
use Rattle.zmtp_wire.proofs.ReadingLemmas.{partial_wants, partial_short, fault_at}
use Rattle.zmtp_wire.proofs.ProgressLemmas.{step_of, command_fault, greet_step}
use Rattle.zmtp_wire.proofs.progress.take_item.Goals.{then-from-bytes-via-then-from-bytes}
use Rattle.zmtp_wire.proofs.progress.take_item.Goals.{then-from-bytes-via-else-from-bytes+then-size-bytes}
use Rattle.zmtp_wire.proofs.progress.take_item.Goals.{In-Sized}
use Rattle.zmtp_wire.proofs.progress.take_item.Goals as goal

short : (c : goal.Joined-then-from-bytes) → length c.args.bytes.now < c.in-Sized.from + c.in-Sized.size
short c = elim c.then-from-bytes.branch [
  | then-from-bytes-via-then-from-bytes w ↦ omega arith
  | then-from-bytes-via-else-from-bytes+then-size-bytes w ↦ omega arith
]

pub returns-then-from-bytes-clause-ok : goal.returns-then-from-bytes-clause-ok
returns-then-from-bytes-clause-ok c =
    let h = rw c.len.ensures at c.in-Sized.ensures in (
      refl,
      λ before. partial_short c.args.role (got_in c.args.progress.now before) c.args.bytes.now
          c.in-Sized.kind c.in-Sized.from c.in-Sized.size (sym h) (short c),
    )

pub returns-in-Wants-clause-ok : goal.returns-in-Wants-clause-ok
returns-in-Wants-clause-ok c =
    let h = rw c.len.ensures at c.in-Wants.ensures in
    (refl, λ before. partial_wants c.args.role (got_in c.args.progress.now before) c.args.bytes.now (sym h))

pub returns-in-Bad-clause-ok : goal.returns-in-Bad-clause-ok
returns-in-Bad-clause-ok c =
    let h = rw c.len.ensures at c.in-Bad.ensures in (
      refl,
      λ before. fault_at c.args.role (got_in c.args.progress.now before) c.args.progress.now.stage
          c.args.bytes.now c.in-Bad.cause refl (sym h),
    )

pub returns-in-Greets-clause-ok : goal.returns-in-Greets-clause-ok
returns-in-Greets-clause-ok c =
    let h = rw c.len.ensures at c.in-Greets.ensures in
    let o = opened c.args.progress.now.stage (length c.args.progress.now.frames) 64
    c.args.bytes.now refl (sym h) in (
      omega arith,
      o.whole,
      λ before. greet_step c.args.role (got_in c.args.progress.now before) 64
          c.args.bytes.now o,
    )

-- the frame at the front of the bytes, as its head says
next : (c : In-Sized)
    → Next c.args.progress.now.stage (length c.args.progress.now.frames) c.args.bytes.now c.in-Sized.kind
    c.in-Sized.from c.in-Sized.size
next c =
    let h = rw c.len.ensures at c.in-Sized.ensures in
    let low : (i : ℕ) → get_or c.args.bytes.now i 0 < 256 =
    λ i. (let k = c.type_inv.bytes i in omega (arith, k)) in
    next_of c.args.progress.now.stage _ c.args.bytes.now c.in-Sized.kind c.in-Sized.from c.in-Sized.size low
    (sym h)

body : (from size : ℕ) (bytes : List ℕ)
    → take (from + size - from) (drop from bytes) ≡ take size (drop from bytes)
body from size bytes = let k : from + size - from ≡ size = omega arith in ap (λ x. take x (drop from bytes)) k

pub returns-in-None-clause-ok : goal.returns-in-None-clause-ok
returns-in-None-clause-ok c =
    let s = c.in-Sized in
    let e = rw c.in-None.is at c.in_ok-take_body-in-Sized.ensures.ok in
    let n = next (goal.at.returns-in-None-clause-ok c).In-Sized in
    let p = n.positive in (
      omega (arith, p),
      omega arith,
      λ before. step_of c.args.role (got_in c.args.progress.now before)
          (got_in c.take_body.new.progress before)
          c.args.bytes.now _ s.kind s.from s.size n (omega arith) (body s.from s.size c.args.bytes.now)
          (e before),
    )

pub returns-in-Some-clause-ok : goal.returns-in-Some-clause-ok
returns-in-Some-clause-ok c =
    let s = c.in-Sized in
    let e = rw c.in-Some.is at c.in_ok-take_body-in-Sized.ensures.ok in
    let n = next (goal.at.returns-in-Some-clause-ok c).In-Sized in (
      e.0,
      λ before. command_fault c.args.role (got_in c.args.progress.now before) c.args.bytes.now _ s.kind s.from
          s.size
          c.in-Some.cause n (omega arith) (body s.from s.size c.args.bytes.now) e.1 e.2,
    )
