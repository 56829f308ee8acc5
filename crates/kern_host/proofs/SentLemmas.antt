-- What was sent, in the one history.
use Rattle.std.proofs.Common.{◌≡◌, ◌≤◌, ◌+◌, ◌-◌, ℕ, inl, inr, Bool, true, false, List, [], ◌∷◌, ◌++◌, zero}
use Rattle.std.proofs.Common.{suc, Result, Ok, Err, refl, arith, sym, ap, ◌∙◌, subst, All, append-nil}
use Rattle.std.proofs.Common.{append_assoc, take, drop, take-add}
use Rattle.std.specs.List.{filter}
use Rattle.std.proofs.lemmas.List.{map-append}
use Rattle.std.proofs.lemmas.List.Elements.{All-append, filter-append}
use mathlib.Core.List.{IsPrefix}
use Rattle.lab_turn.specs.History.{PassState}
use Rattle.lab_turn.proofs.HistoryLemmas.{prefix_trans}
use Rattle.base_text.specs.Bytes.{Bytes}
use Rattle.jup_wire.specs.declared.channel.Channel.{Channel}
use Rattle.kern_post.specs.declared.post.Post.{Post}
use Rattle.kern_post.specs.Posts.{is_to}
use Rattle.kern_calls.specs.declared.call.Call.{Call}
use Rattle.kern_calls.specs.declared.call.Call.TheVariants.{Join, Fetch}
use Rattle.kern_calls.specs.declared.call.Reply.{Reply}
use Rattle.kern_calls.specs.declared.call.Reply.TheVariants as reply
use Rattle.kern_calls.specs.declared.fault.KernelFault.{KernelFault}
use Rattle.kern_calls.specs.declared.fault.KernelFault.TheVariants as fault
use Rattle.kern_core.specs.Kernels.{is_entry}
use Rattle.kern_laws.specs.Laws.{posts_below}
use Rattle.kern_core.specs.Turns.{state_after}
use Rattle.kern_laws.proofs.NewLemmas.{new_connections, next_number}
use Rattle.kern_desk.specs.Seats.{calls_of as entry_calls_of}
use Rattle.kern_net.specs.declared.end.PumpEnd.{PumpEnd}
use Rattle.kern_net.specs.declared.end.PumpEnd.TheVariants as end
use Rattle.kern_net.specs.Routes.{Target}
use Rattle.kern_net.specs.Calls.{TurnedBy}
use Rattle.kern_net.specs.Gates.{WriterPolls}
use Rattle.kern_net.specs.Streams.{posts_in, window}
use Rattle.kern_net.specs.Out.{Writer, FetchedOn, NoFetch, OneFetch, StopsFetching, WrotePrefix, WroteAll}
use Rattle.kern_net.specs.Out.{WroteOut, OutEnds, EndsAll}
use Rattle.kern_net.proofs.CallLemmas.{entry_calls, no_entry_calls}
use Rattle.kern_net.proofs.GrowLemmas.{posts_grow}
use Rattle.kern_net.proofs.OutLemmas.{window_kept}
use Rattle.kern_host.specs.OneHistory.{History, IsPartOf, SeatInHistory, seat_in, IsAnswered, Sends, SendsIn}
use Rattle.kern_host.specs.OneHistory.{SendingEnds, OutletEnds, FetchesAll, IsFetchOf}
use Rattle.kern_host.proofs.AskedLemmas.{IsAt, part_at, full_there}

-- ---- nothing but Fetches

pub record OnlyFetches (c : ℕ) (old new : PassState Call) : Type 0 where
  pub added : List Call
  pub fetches : All (IsFetchOf c) added
  pub calls : new.calls ≡ old.calls ++ added

no_fetches : (c : ℕ) (old new : PassState Call) → new.calls ≡ old.calls → OnlyFetches c old new
no_fetches c old new same = record {
  added = [];
  fetches = λ i d h. absurd (omega (arith, h));
  calls = same ∙ sym (append-nil old.calls);
}

one_is : (c next : ℕ) → All (IsFetchOf c) (Fetch c next ∷ [])
one_is c next zero d h = (next, refl)
one_is c next (suc i) d h = absurd (omega (arith, h))

one_fetch : (c next : ℕ) (old new : PassState Call) → new.calls ≡ old.calls ++ Fetch c next ∷ []
    → OnlyFetches c old new
one_fetch c next old new same = record {
  added = Fetch c next ∷ [];
  fetches = one_is c next;
  calls = same;
}

fetches_on : (c : ℕ) (old mid new : PassState Call) → OnlyFetches c old mid → OnlyFetches c mid new
    → OnlyFetches c old new
fetches_on c old mid new a b = record {
  added = a.added ++ b.added;
  fetches = All-append (IsFetchOf c) a.added b.added a.fetches b.fetches;
  calls = b.calls ∙ ap (λ (l : List Call). l ++ b.added) a.calls ∙ append_assoc old.calls a.added b.added;
}

by_turn : (b : Bool) (c next : ℕ) (old new : PassState Call) (answer : Result Reply KernelFault)
    → is_entry answer ≡ b → TurnedBy old (Fetch c next) answer new → OnlyFetches c old new
by_turn true c next old new answer h t =
    one_fetch c next old new (entry_calls old new (Fetch c next) answer t h)
by_turn false c next old new answer h t =
    no_fetches c old new (no_entry_calls old new (Fetch c next) answer t h)

turned : (c next : ℕ) (old new : PassState Call) (answer : Result Reply KernelFault)
    → TurnedBy old (Fetch c next) answer new → OnlyFetches c old new
turned c next old new answer t = by_turn (is_entry answer) c next old new answer refl t

same_pass : (c : ℕ) (old new : PassState Call) → new ≡ old → OnlyFetches c old new
same_pass c old new s = no_fetches c old new (ap (λ (p : PassState Call). p.calls) s)

fetched_only : (c from : ℕ) (old mid : PassState Call) (next : ℕ) → FetchedOn c from old mid next
    → OnlyFetches c old mid
fetched_only c from old mid next NoFetch = no_fetches c old old refl
fetched_only c from old new next (OneFetch mid new1 at next1 posts ended f t) =
    fetches_on c old mid new (fetched_only c from old mid at f)
    (turned c at mid new (Ok (reply.Fetched posts next ended)) t)

stops_only : (c next : ℕ) (mid new : PassState Call) (e : PumpEnd) → StopsFetching c next mid new e
    → OnlyFetches c mid new
stops_only c next mid new end.Ended s = same_pass c mid new s
stops_only c next mid new end.WriteFailed s = same_pass c mid new s
stops_only c next mid new end.OutOfMemory (inl s) = same_pass c mid new s
stops_only c next mid new end.OutOfMemory (inr t) = turned c next mid new (Err fault.OutOfMemory) t
stops_only c next mid new end.JournalFull t = turned c next mid new (Err fault.JournalFull) t
stops_only c next mid new end.Lagged t = turned c next mid new (Err (fault.Lagged t.0)) t.1
stops_only c next mid new (end.Refused x) t = turned c next mid new (Err x) t.0
stops_only c next mid new end.OutOfTickets s = no_fetches c mid new (ap (λ (p : PassState Call). p.calls) s)
stops_only c next mid new end.PeerEnded s = absurd s
stops_only c next mid new end.ReadFailed s = absurd s
stops_only c next mid new (end.Wire cause) s = absurd s

-- ---- from the first post on

-- no post below its Join's number is to a connection, so those from there on are all posts to it
pub from_the_first : (place : SeatInHistory) (channel : Channel) (identity : Bytes) (c from next : ℕ)
    → IsAnswered place (Join channel identity) (Ok (reply.Joined c from)) → from ≤ next
    → window c from next (posts_in place.history) ≡ posts_below c next (posts_in place.history)
unfolding window posts_below
from_the_first place channel identity c from next a onward =
    let posts = posts_in place.history in
    let before = entry_calls_of a.before in
    let later = entry_calls_of ((place.seat, Join channel identity) ∷ a.here.0) in
    let joined : before ++ later ≡ entry_calls_of place.history =
    sym (map-append (λ (e : ℕ × Call). e.1) a.before ((place.seat, Join channel identity) ∷ a.here.0))
    ∙ ap entry_calls_of (sym (append_assoc a.before ((place.seat, Join channel identity) ∷ []) a.here.0)
    ∙ a.here.1) in
    let none : filter (is_to c) (take (from - 1) posts) ≡ [] =
    subst (λ calls. filter (is_to c) (take (from - 1) (state_after calls).posts) ≡ []) joined
    (new_connections before later channel identity c from (sym a.answered)) in
    let one = next_number before channel identity c from (sym a.answered) in
    let number : next - 1 ≡ (from - 1) + (next - from) = omega (arith, one, onward) in
    sym (ap (λ n. filter (is_to c) (take n posts)) number
    ∙ (ap (filter (is_to c)) (take-add (from - 1) (next - from) posts)
    ∙ (filter-append (is_to c) (take (from - 1) posts) (take (next - from) (drop (from - 1) posts))
    ∙ ap (λ (l : List Post). l ++ filter (is_to c) (take (next - from) (drop (from - 1) posts))) none)))

-- ---- why writing ended

outlet_ends : (e : PumpEnd) (c next : ℕ) (x : Writer) → OutEnds c next x e → OutletEnds x.outlet e
outlet_ends end.WriteFailed c next x h = h.0
outlet_ends end.Ended c next x h = h.0
outlet_ends _ c next x h = h.0

-- a Fetch that was refused stands in the history, where its refusal is an entry
fetch_stands : (c next : ℕ) (mid pass : PassState Call) (fault : KernelFault) (place : SeatInHistory)
    → is_entry (Err fault) ≡ true → TurnedBy mid (Fetch c next) (Err fault) pass → IsAt pass place
    → IsAnswered place (Fetch c next) (Err fault)
fetch_stands c next mid pass fault place h t a =
    let e = t.entered h in
    let P : History → Type 0 = λ l. IsPrefix l place.history in
    let Q : ℕ → Type 0 = λ i. IsPrefix (e.before ++ (i, Fetch c next) ∷ []) place.history in
    record {
      before = e.before;
      here = subst Q (sym t.same.1 ∙ a.seat) (subst P e.history a.seen);
      answered = e.answered;
    }

fetches_all : (c next : ℕ) (pass : PassState Call) (polls : WriterPolls) (place : SeatInHistory)
    → IsAt pass place
    → EndsAll c next pass polls → FetchesAll place c next polls
fetches_all c next pass polls place a (ended, all, cause) =
    let l = all.last in
    let Q : ℕ → Type 0 = λ i. IsPrefix (l.before ++ (i, Fetch c all.from) ∷ []) place.history in
    record {
      from = all.from;
      posts = all.posts;
      ended = ended;
      last = record {
        before = l.before;
        here =
            subst Q a.seat
            (prefix_trans (l.before ++ (pass.seat, Fetch c all.from) ∷ []) pass.seen place.history l.seen
            a.seen);
        answered = l.answered;
      };
      all = all.all;
      cause = cause;
    }

sending_ends : (e : PumpEnd) (c next : ℕ) (mid : PassState Call) (x : Writer) (place : SeatInHistory)
    → StopsFetching c next mid x.pass e → OutEnds c next x e → IsAt x.pass place
    → SendingEnds place c next x.polls e
sending_ends end.Ended c next mid x place s h a = fetches_all c next x.pass x.polls place a h.1
sending_ends end.WriteFailed c next mid x place s h a = (h.1, tt)
sending_ends end.OutOfMemory c next mid x place s h a = (h.1, tt)
sending_ends end.JournalFull c next mid x place s h a =
    (h.1, full_there x.pass place a (s.full refl).1)
sending_ends end.Lagged c next mid x place s h a =
    (h.1, (s.0, fetch_stands c next mid x.pass (fault.Lagged s.0) place refl s.1 a))
sending_ends (end.Refused f) c next mid x place s h a =
    (h.1, fetch_stands c next mid x.pass f place s.1 s.0 a)
sending_ends end.OutOfTickets c next mid x place s h a = (h.1, tt)
sending_ends end.PeerEnded c next mid x place s h a = absurd s
sending_ends end.ReadFailed c next mid x place s h a = absurd s
sending_ends (end.Wire cause) c next mid x place s h a = absurd s

-- ---- a writer that has ended

module _ (target : Target) (from : ℕ) (old new : Writer) (e : PumpEnd)
    (w : WroteOut target from old new e) where
  pub sends : (history : History) → IsPrefix new.pass.seen history
      → Sends target old.outlet new.outlet (window target.connection from w.next (posts_in history)) e
  sends history p =
      let F : List Post → Type 0 = λ x. WrotePrefix target old.outlet new.outlet x in
      let A : List Post → Type 0 = λ x. WroteAll target old.outlet new.outlet x in
      let same : window target.connection from w.next (posts_in new.pass.seen)
      ≡ window target.connection from w.next (posts_in history) =
      sym (window_kept target.connection from w.next (posts_in new.pass.seen) (posts_in history)
      (posts_grow new.pass.seen history p) w.within) in
      record {
        front = subst F same w.front;
        whole = λ h. subst A same (w.whole h);
        cause = outlet_ends e target.connection w.next new w.cause;
      }

  pub only_fetches : OnlyFetches target.connection old.pass new.pass
  only_fetches =
      let c = target.connection in
      fetches_on c old.pass w.mid new.pass (fetched_only c from old.pass w.mid w.next w.fetched)
      (stops_only c w.next w.mid new.pass e w.last)

  pub ends_sending : (place : SeatInHistory) → IsAt new.pass place
      → SendingEnds place target.connection w.next new.polls e
  ends_sending place a = sending_ends e target.connection w.next w.mid new place w.last w.cause a

  pub sends_in : (history : History) → IsPartOf new.pass history → SendsIn target from old new history e
  sends_in history p = record {
    next = w.next;
    onward = w.onward;
    sends = sends history p.seen;
    fetched = only_fetches.added;
    fetches = only_fetches.fetches;
    calls = p.own ∙ only_fetches.calls;
    cause = ends_sending (seat_in new.pass history) (part_at new.pass history p);
  }
