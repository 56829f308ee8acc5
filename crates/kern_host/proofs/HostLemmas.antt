-- All guests and the worker, in the one history.
use Rattle.std.proofs.Common.{◌≡◌, ℕ, ◌+◌, ◌*◌, ◌<◌, List, [], ◌∷◌, ◌++◌, length, slice_index_or, Option}
use Rattle.std.proofs.Common.{Some, None, inl, inr, refl, sym, ap, ◌∙◌, subst, arith, All, Contains}
use Rattle.std.proofs.lemmas.List.Elements.{Contains-append_left, Contains-push}
use mathlib.Core.List.{IsPrefix}
use Rattle.lab_turn.specs.History.{PassState, TurnstileState, IsHistoryOf, fresh_pass, calls_of}
use Rattle.lab_turn.proofs.HistoryLemmas.{prefix_trans}
use Rattle.kern_calls.specs.declared.call.Call.{Call}
use Rattle.kern_calls.specs.declared.call.Call.TheVariants.{Slice}
use Rattle.kern_net.specs.Gates.{WorkerPolls}
use Rattle.kern_net.specs.Work.{Sliced, SawShutdown, WorkEnds, MakesSlices, untaken}
use Rattle.kern_net.specs.declared.end.PumpEnd.TheVariants as end
use Rattle.kern_net.specs.declared.end.PumpEnd.{PumpEnd}
use Rattle.kern_host.specs.declared.guest.Passes.{Passes}
use Rattle.kern_host.specs.Guests.{GuestState, IsComing, IsSeated, AreOf, without_passes}
use Rattle.kern_host.specs.OneHistory.{History, SeatInHistory, SeesShutdown, WorkingEnds, Works}
use Rattle.kern_host.specs.Visits.{House, VisitedWith, Visited}
use Rattle.kern_host.specs.Hosting.{AtEach, HasBoth, Serves, ServesEach, seats_at}
use Rattle.kern_host.specs.Hosting.{seated_at, worker_at}
use Rattle.kern_host.proofs.AskedLemmas.{IsAt, full_there, is_part}

-- ---- before the visits

come : (desk : TurnstileState) (k : ℕ) (g : GuestState) → IsComing g → IsSeated desk (seated_at desk k g)
come desk k g c = (
  record { readable = c.readable; writable = c.writable; woken = c.woken; gate = c.gate },
  (refl, refl),
)

pub are_seated : (desk : TurnstileState) (old new : List GuestState) → All IsComing old
    → AtEach (λ k a b. b ≡ seated_at desk k a) old new → length new ≡ length old → All (IsSeated desk) new
are_seated desk old new c s n = λ k d lt.
    let h : k < length old = omega (arith, lt, n) in
    subst (IsSeated desk) (sym (s k d h)) (come desk k (slice_index_or old k d) (c k d h))

-- ---- behind them

own_of : (house : House) (desk : TurnstileState) (a b : GuestState) (p q : Option Passes) → AreOf desk p
    → VisitedWith house a b p q → AreOf desk q
own_of house desk a b (Some x) (Some y) o v = (v.reading.0 ∙ o.0, v.writing.0 ∙ o.1)
own_of house desk a b (Some x) None o v = absurd v
own_of house desk a b None (Some y) o v = absurd v
own_of house desk a b None None o v = absurd v

pub are_own : (house : House) (desk : TurnstileState) (old new : List GuestState) → All (IsSeated desk) old
    → AtEach (λ k a b. Visited house a b) old new → length new ≡ length old
    → All (λ (g : GuestState). AreOf desk g.passes) new
are_own house desk old new o v n = λ k d lt.
    let h : k < length old = omega (arith, lt, n) in
    own_of house desk (slice_index_or old k d) (slice_index_or new k d) (slice_index_or old k d).passes
    (slice_index_or new k d).passes (o k d h).1 (v k d h)

-- ---- in the one history

served_of : (house : House) (desk : TurnstileState) (k : ℕ) (a b g : GuestState) (back all : List
    (PassState Call))
    (history : History) (q : Option Passes)
    → VisitedWith house (seated_at desk k a) b (seated_at desk k a).passes q → g ≡ without_passes b
    → HasBoth back q → ((p : PassState Call) → Contains back p → Contains all p)
    → IsHistoryOf desk all history
    → Serves (seats_at house k) a g history
served_of house desk k a b g back all history None v same has more h = absurd v
served_of house desk k a b g back all history (Some after) v same has more h =
    let S : GuestState → Type 0 = λ x. Serves (seats_at house k) a x history in
    let reading = is_part desk all after.reading history h (more after.reading has.0) v.reading.0 in
    let writing = is_part desk all after.writing history h (more after.writing has.1) v.writing.0 in
    subst S (sym same) (record { end = v.end; told = v.told; visit = v.visit history reading writing })

pub serves_each : (house : House) (desk : TurnstileState) (g0 g1 g2 g3 : List GuestState)
    (back : List (PassState Call)) (working : PassState Call) (history : History)
    → AtEach (λ k a b. b ≡ seated_at desk k a) g0 g1
    → AtEach (λ k a b. Visited house a b) g1 g2
    → AtEach (λ k a b. (b ≡ without_passes a) × HasBoth back a.passes) g2 g3 → length g1 ≡ length g0
    → length g2 ≡ length g0 → IsHistoryOf desk (back ++ working ∷ []) history
    → ServesEach house g0 g3 history
serves_each house desk g0 g1 g2 g3 back working history s v t n m h = λ k d lt.
    let V : GuestState → Type 0 =
    λ a. VisitedWith house a (slice_index_or g2 k d) a.passes (slice_index_or g2 k d).passes in
    let there = t k d (omega (arith, lt, m)) in
    served_of house desk k (slice_index_or g0 k d) (slice_index_or g2 k d) (slice_index_or g3 k d) back
    (back ++ working ∷ []) history (slice_index_or g2 k d).passes
    (subst V (s k d lt) (v k d (omega (arith, lt, n)))) there.0 there.1
    (λ p c. Contains-append_left back (working ∷ []) p c) h

-- ---- the worker

saw_shutdown : (pass : PassState Call) (place : SeatInHistory) → IsAt pass place → SawShutdown pass
    → SeesShutdown place
saw_shutdown pass place a (unix_seconds, l) =
    let Q : ℕ → Type 0 = λ i. IsPrefix (l.before ++ (i, Slice unix_seconds) ∷ []) place.history in (
      unix_seconds,
      record {
        before = l.before;
        here =
            subst Q a.seat
            (prefix_trans (l.before ++ (pass.seat, Slice unix_seconds) ∷ []) pass.seen place.history l.seen
            a.seen);
        answered = l.answered;
      },
    )

working_ends : (e : PumpEnd) (pass : PassState Call) (polls : WorkerPolls) (place : SeatInHistory)
    → IsAt pass place
    → WorkEnds pass polls e → WorkingEnds place polls e
working_ends end.Ended pass polls place a (inl closed) = inl closed
working_ends end.Ended pass polls place a (inr h) = inr (h.0, saw_shutdown pass place a h.1)
working_ends end.OutOfMemory pass polls place a h = h
working_ends end.JournalFull pass polls place a h = (h.0, full_there pass place a h.1)
working_ends end.OutOfTickets pass polls place a h = h.0
working_ends _ pass polls place a h = absurd h

pub works_in : (desk : TurnstileState) (seat guests : ℕ) (old new : PassState Call) (a b : WorkerPolls)
    (e : PumpEnd) (back : List (PassState Call)) (history : History)
    → MakesSlices desk (record { pass = old; polls = a }) (record { pass = new; polls = b }) e
    → old ≡ fresh_pass desk seat → seat + 1 ≡ 2 * guests + 1 → IsHistoryOf desk (back ++ new ∷ []) history
    → Works (worker_at desk.limit guests history) a b e
works_in desk seat guests old new a b e back history w is count h =
    let p = is_part desk (back ++ new ∷ []) new history h (Contains-push back new) w.same.0 in
    let n : new.seat ≡ 2 * guests =
    w.same.1 ∙ (ap (λ (x : PassState Call). x.seat) is ∙ omega (arith, count)) in
    let F : List Call → Type 0 = λ l. Sliced l new.calls a b (untaken e) in
    let T : List Call → Type 0 = λ l. Sliced [] l a b (untaken e) in
    let own : calls_of (2 * guests) history ≡ new.calls =
    ap (λ (i : ℕ). calls_of i history) (sym n) ∙ p.own in
    let place = worker_at desk.limit guests history in
    let there : IsAt new place = record {
      seen = p.seen;
      seat = n;
      limit = ap (λ (t : TurnstileState). t.limit) w.same.0;
      fits = h.legal.fits;
    } in
    record {
      sliced = subst T (sym own) (subst F (ap (λ (x : PassState Call). x.calls) is) w.sliced);
      cause = working_ends e new b place there w.ends;
    }
