-- A kernel with all its connections.
use Rattle.std.specs.Prelude.{◌≡◌, ℕ, ◌+◌, ◌*◌, ◌<◌, ◌≤◌, List, [], Option, Some, None, Contains, length}
use Rattle.std.specs.Prelude.{slice_index_or, All}
use denote.Ref.{MutBor}
use denote.Param.Members.{Shared}
use Rattle.std.specs.Fork.{ChangesEach}
use Rattle.lab_turn.specs.History.{PassState, TurnstileState, IsLegal, fresh_pass}
use Rattle.kern_calls.specs.declared.call.Call.{Call}
use Rattle.kern_core.specs.Kernels.{JournalState}
use Rattle.kern_net.specs.Gates.{WorkerPolls, no_polls}
use Rattle.kern_host.specs.declared.end.VisitEnd.{VisitEnd}
use Rattle.kern_host.specs.declared.guest.Passes.{Passes}
use Rattle.kern_host.specs.declared.host.Hosted.{Hosted}
use Rattle.kern_host.specs.Guests.{GuestState, IsComing, line_of}
use Rattle.kern_host.specs.OneHistory.{History, SeatInHistory, Works}
use Rattle.kern_host.specs.Visits.{House, Seats, IsVisit}

-- both are among these
abbrev pub HasBoth : List (PassState Call) → Option Passes → Type 0
HasBoth all None = ⊥
HasBoth all (Some p) = Contains all p.reading × Contains all p.writing

-- at each place a relation holds of the element before and the element after
abbrev pub AtEach : {A : Type 0} → (ℕ → A → A → Type 0) → List A → List A → Type 0
AtEach P old new = (k : ℕ) (d : _) → k < length old → P k (slice_index_or old k d) (slice_index_or new k d)

-- each element is as a call of the closure left it
pub record IsChangedBy {F T : Type 0} (g : Shared F (ℕ × (MutBor T × Unit {0})) ((Unit {0}) × (MutBor T
    × Unit {0})))
    (f : F) (old new : List T) : Type 0 where
  pub each : ChangesEach g f old new

-- the guest at place k, with the new passes of the seats 2 * k and 2 * k + 1
abbrev pub seated_at : TurnstileState → ℕ → GuestState → GuestState
seated_at desk k g = record g {
  passes = Some (record { reading = fresh_pass desk (2 * k); writing = fresh_pass desk (2 * k + 1) });
}

-- the worker's place: the seat after those of this many guests
abbrev pub worker_at : ℕ → ℕ → History → SeatInHistory
worker_at limit guests history = record { history = history; seat = 2 * guests; limit = limit }

-- the seats of the guest at place k: 2 * k and 2 * k + 1, from which no call had been made
abbrev pub seats_at : House → ℕ → Seats
seats_at house k = record {
  house = house;
  reading = record { number = 2 * k; earlier = [] };
  writing = record { number = 2 * k + 1; earlier = [] };
}

-- a guest was served from these seats
pub record Serves (s : Seats) (old new : GuestState) (history : History) : Type 0 where
  pub end : VisitEnd
  pub told : new.end ≡ Some end
  pub visit : IsVisit s (line_of old) (line_of new) history end

-- each guest was served from its seats
abbrev pub ServesEach : House → List GuestState → List GuestState → History → Type 0
ServesEach house old new history = AtEach (λ k a b. Serves (seats_at house k) a b history) old new

-- the guests, and what the worker's gate was polled
pub record HostState : Type 0 where
  pub guests : List GuestState
  pub polls : WorkerPolls

abbrev pub host_with : List GuestState → WorkerPolls → HostState
host_with guests polls = record { guests = guests; polls = polls }

-- the kernel is new, there is a seat for each thread, no connection has ended, and the worker's gate wasn't
-- polled
pub record CanHost (journal : JournalState) (old : HostState) : Type 0 where
  pub kernel : journal.entries ≡ []
  pub few : length old.guests ≤ 511
  pub coming : All IsComing old.guests
  pub gate : old.polls ≡ no_polls

-- There is one legal history; every guest was served in it; the worker's calls there are Slices; and nobody
-- else's calls are there.
pub record HostsAll (house : House) (old new : HostState) (hosted : Hosted) : Type 0 where
  -- of two seats for each guest and the worker's, within the journal's limit
  pub legal : IsLegal (2 * length old.guests + 1) house.limit hosted.seated.entries
  -- as its bytes ask for, from its two seats
  pub guests : ServesEach house old.guests new.guests hosted.seated.entries
  -- as many as its gate let through, and the work ended for its cause
  pub worker : Works (worker_at house.limit (length old.guests) hosted.seated.entries) old.polls new.polls
      hosted.end
  -- none has a seat behind the worker's
  pub others : All (λ (entry : ℕ × Call). entry.0 < 2 * length old.guests + 1) hosted.seated.entries
