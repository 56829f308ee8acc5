-- One visit, in the one history.
use Rattle.std.proofs.Common.{◌≡◌, ℕ, true, false, List, [], ◌∷◌, ◌++◌, Result, Ok, Err, IfErr, Option, Some}
use Rattle.std.proofs.Common.{None, refl, sym, ap, ◌∙◌, ◌≤◌, subst, length, append-nil, append_assoc}
use Rattle.std.proofs.lemmas.Bool.{false≢true}
use mathlib.Core.List.{IsPrefix}
use Rattle.base_streams.specs.States.{InletState, OutletState}
use Rattle.zmtp_wire.specs.Wire.{Bytes}
use Rattle.zmtp_wire.specs.declared.role.Role.{Role}
use Rattle.zmtp_wire.specs.declared.head.Stage.TheVariants.{Traffic}
use Rattle.zmtp_wire.specs.declared.handshake.Peer.{Peer}
use Rattle.zmtp_wire.specs.Receiving.{Received}
use Rattle.zmtp_wire.specs.Sending as hello
use Rattle.jup_wire.specs.declared.channel.Channel.{Channel}
use Rattle.lab_turn.specs.History.{PassState, calls_of}
use Rattle.lab_turn.proofs.HistoryLemmas.{prefix_self, prefix_trans}
use Rattle.kern_calls.specs.declared.call.Call.{Call}
use Rattle.kern_calls.specs.declared.call.Call.TheVariants.{Join}
use Rattle.kern_calls.specs.declared.call.Reply.{Reply}
use Rattle.kern_calls.specs.declared.call.Reply.TheVariants as reply
use Rattle.kern_calls.specs.declared.fault.KernelFault.{KernelFault}
use Rattle.kern_calls.specs.declared.fault.KernelFault.TheVariants as fault
use Rattle.kern_core.specs.Kernels.{is_entry}
use Rattle.kern_laws.specs.Laws.{posts_below}
use Rattle.kern_desk.specs.declared.desks.Joined.{Joined}
use Rattle.kern_desk.specs.Joins.{IsUnjoined, IsRefused, IsOutOfTickets}
use Rattle.kern_net.specs.declared.end.PumpEnd.{PumpEnd}
use Rattle.kern_net.specs.Routes.{Source}
use Rattle.kern_net.specs.Calls.{TurnedBy}
use Rattle.kern_net.specs.ReadEnds.{Reader}
use Rattle.kern_net.specs.Reading.{TakesTurns, NoCall, OneMore, ReadOut}
use Rattle.kern_net.specs.Out.{writer_with}
use Rattle.kern_net.specs.Streams.{posts_in, window}
use Rattle.kern_net.proofs.CallLemmas.{turned_prefix, entry_calls, no_entry_calls}
use Rattle.kern_host.specs.declared.end.Ends.{Ends}
use Rattle.kern_host.specs.declared.end.LeaveFault.{LeaveFault}
use Rattle.kern_host.specs.declared.end.LeaveFault.TheVariants as leave
use Rattle.kern_host.specs.declared.guest.Passes.{Passes}
use Rattle.kern_host.specs.Guests.{GuestState, Line, line_of}
use Rattle.kern_host.specs.Leaves.{leaving, HasLeft, KeepsFrom}
use Rattle.kern_host.specs.OneHistory.{History, IsPartOf, SeatInHistory, IsAnswered, Sends}
use Rattle.kern_host.specs.Visits.{House, seats_of, reading_at, writing_at, role_on, identity_of, Meets}
use Rattle.kern_host.specs.Visits.{TurnsAway, IsTurnedAway, IsVisit, Visited, VisitedWith, Outgoing}
use Rattle.kern_host.specs.Visits.{SendsIfAny}
use Rattle.kern_host.specs.Writes.{WroteIfAny}
use Rattle.kern_host.specs.declared.end.VisitEnd.{VisitEnd}
use Rattle.kern_host.specs.Visits.{IsUnjoinedPeer, NoMemory, NotTaken, LeaveEnds, IsServed, Adds, seat_of}
use Rattle.kern_host.proofs.AskedLemmas.{IsAt, full_there, asks, ends_asking}
use Rattle.kern_host.proofs.SentLemmas.{sends, only_fetches, ends_sending, from_the_first}

-- ---- the Join

pub not_taken : (v w : PassState Call) (channel : Channel) (held identity : Bytes)
    (r : Result Joined KernelFault)
    → held ≡ identity → IfErr r (IsUnjoined v (Join channel held) w)
    → IfErr r (IsUnjoinedPeer v (Join channel identity) w)
not_taken v w channel held identity (Ok j) e u = tt
not_taken v w channel held identity (Err f) e u =
    let U : Bytes → Type 0 = λ i. IsUnjoined v (Join channel i) w f in NotTaken f (subst U e u)

-- a call that is an entry stands in each history that goes on from what was seen
represents : (v w : PassState Call) (call : Call) (answer : Result Reply KernelFault) (place : SeatInHistory)
    → TurnedBy v call answer w → is_entry answer ≡ true → v.seat ≡ place.seat
    → IsPrefix w.seen place.history → IsAnswered place call answer
represents v w call answer place t h s p =
    let e = t.entered h in
    let P : History → Type 0 = λ l. IsPrefix l place.history in
    let Q : ℕ → Type 0 = λ i. IsPrefix (e.before ++ (i, call) ∷ []) place.history in
    record { before = e.before; here = subst Q s (subst P e.history p); answered = e.answered }

-- where no call was made
no_calls : (v w : PassState Call) (history : History) → w.seat ≡ v.seat → w.calls ≡ v.calls
    → IsPartOf w history
    → Adds (seat_of v) history []
no_calls v w history s calls p =
    ap (λ (i : ℕ). calls_of i history) (sym s) ∙ p.own ∙ calls ∙ sym (append-nil v.calls)

pub silent : (v w : PassState Call) (history : History) → w ≡ v → IsPartOf w history
    → Adds (seat_of v) history []
silent v w history same p =
    no_calls v w history (ap (λ (x : PassState Call). x.seat) same) (ap (λ
    (x : PassState Call). x.calls) same) p

-- no call was made where the refusal is no entry
same_calls : (v w : PassState Call) (call : Call) (f : KernelFault) → is_entry (Err f) ≡ false
    → IsUnjoinedPeer v call w f → w.calls ≡ v.calls
same_calls v w call f h (NoMemory f1 e same) = ap (λ (x : PassState Call). x.calls) same
same_calls v w call f h (NotTaken f1 (IsOutOfTickets f2 e same)) = ap (λ (x : PassState Call). x.calls) same
same_calls v w call f h (NotTaken f1 (IsRefused f2 t)) = no_entry_calls v w call (Err f) t h

-- and else it was refused
refused : (v w : PassState Call) (call : Call) (f : KernelFault) → is_entry (Err f) ≡ true
    → IsUnjoinedPeer v call w f → TurnedBy v call (Err f) w
refused v w call f h (NoMemory f1 e same) =
    let E : KernelFault → Type 0 = λ x. is_entry (Err x) ≡ true in absurd (false≢true (subst E e h))
refused v w call f h (NotTaken f1 (IsOutOfTickets f2 e same)) =
    let E : KernelFault → Type 0 = λ x. is_entry (Err x) ≡ true in absurd (false≢true (subst E e h))
refused v w call f h (NotTaken f1 (IsRefused f2 t)) = t

module _ (house : House) (before : Passes) (w : PassState Call) (call : Call) (history : History)
    (s : w.seat ≡ before.reading.seat) (p : IsPartOf w history) where
  untaken : (f : KernelFault) → is_entry (Err f) ≡ false → IsUnjoinedPeer before.reading call w f
      → Adds (seat_of before.reading) history []
  untaken f h u = no_calls before.reading w history s (same_calls before.reading w call f h u) p

  taken : (f : KernelFault) → is_entry (Err f) ≡ true → IsUnjoinedPeer before.reading call w f
      → Adds (seat_of before.reading) history (call ∷ [])
      × IsAnswered (reading_at (seats_of house before) history) call (Err f)
  taken f h u =
      let t = refused before.reading w call f h u in (
        ap (λ (i : ℕ). calls_of i history) (sym s) ∙ p.own ∙ entry_calls before.reading w call (Err f) t h,
        represents before.reading w call (Err f) (reading_at (seats_of house before) history) t h refl p.seen,
      )

  refusal : (f : KernelFault) → IsUnjoinedPeer before.reading call w f
      → TurnsAway (seats_of house before) history call f
  refusal fault.OutOfMemory u = untaken fault.OutOfMemory refl u
  refusal fault.JournalFull u = untaken fault.JournalFull refl u
  refusal fault.Full u = taken fault.Full refl u
  refusal fault.NoConnection u = taken fault.NoConnection refl u
  refusal (fault.Lagged first) u = taken (fault.Lagged first) refl u

-- ---- reading

granted_onward : (old new : PassState Call) (calls : List Call) → TakesTurns old new calls
    → IsPrefix old.seen new.seen
granted_onward old new calls NoCall = prefix_self old.seen
granted_onward old new calls1 (OneMore mid new1 calls call reply g t) =
    prefix_trans old.seen mid.seen new.seen (granted_onward old mid calls g)
    (turned_prefix mid new call (Ok reply) t)

read_onward : (source : Source) (peer : Peer) (old new : Reader) (e : PumpEnd)
    → ReadOut source peer old new e → IsPrefix old.pass.seen new.pass.seen
read_onward source peer old new e r =
    let m = r.received.submitted.made in
    prefix_trans old.pass.seen m.mid.seen new.pass.seen
    (granted_onward old.pass m.mid m.granted m.turns) m.onward

-- ---- writing

-- what a writer did, in a history of which its pass is a part
sends_if_any : (house : House) (before : Passes) (w : PassState Call) (out : Outgoing) (new : Line)
    (history : History) (e : Option PumpEnd)
    → WroteIfAny out.target out.from (writer_with out.outlet before.writing out.polls)
    (writer_with new.outlet w new.polls) e
    → w.seat ≡ before.writing.seat → IsPartOf w history
    → IsAt w (writing_at (seats_of house before) history)
    → ((next : ℕ) → out.from ≤ next → window out.target.connection out.from next (posts_in history)
    ≡ posts_below out.target.connection next (posts_in history))
    → SendsIfAny (seats_of house before) out new history e
sends_if_any house before w out new history (Some e) d s q a first =
    let f = only_fetches out.target out.from _ _ e d in
    record {
      next = d.next;
      onward = d.onward;
      sends =
          subst (λ posts. Sends out.target out.outlet new.outlet posts e) (first d.next d.onward)
          (sends out.target out.from _ _ e d history q.seen);
      fetched = f.added;
      fetches = (ap (λ (i : ℕ). calls_of i history) (sym s) ∙ q.own ∙ f.calls, f.fetches);
      cause = ends_sending out.target out.from _ _ e d (writing_at (seats_of house before) history) a;
    }
sends_if_any house before w out new history None d s q a first = record {
  outlet = d.outlet;
  silent = silent before.writing w history d.pass q;
  gate = d.gate;
}

-- ---- the Leave

leave_ends : (left : Result (Unit {0}) LeaveFault) (pass : PassState Call) (place : SeatInHistory)
    → IsAt pass place
    → KeepsFrom left pass → LeaveEnds place left
leave_ends (Ok _) pass place a k = tt
leave_ends (Err leave.JournalFull) pass place a k = full_there pass place a k
leave_ends (Err leave.OutOfTickets) pass place a k = tt

-- ---- the whole visit

-- what the threads of a connection did, from its Join to its Leave
pub record Talked (house : House) (old new : Line) (before after : Passes) (ends : Ends) : Type 0 where
  pub peer : Peer
  pub inlet : InletState
  pub outlet : OutletState
  pub connection : ℕ
  pub from : ℕ
  pub joined : PassState Call
  pub read : PassState Call
  pub meets : Meets old inlet outlet peer
  pub joins : TurnedBy before.reading (Join old.channel (identity_of peer)) (Ok
      (reply.Joined connection from))
      joined
  pub reads : ReadOut (record { connection = connection; channel = old.channel; key = house.key }) peer
      (record { inlet = inlet; pass = joined }) (record { inlet = new.inlet; pass = read }) ends.reading
  pub writes : WroteIfAny (record { connection = connection; key = house.key; session = house.session }) from
      (writer_with outlet before.writing old.polls) (writer_with new.outlet after.writing new.polls)
      ends.writing
  pub leaves : HasLeft connection read after.reading ends.leave
  pub seats : (read.seat ≡ before.reading.seat) × (after.reading.seat ≡ before.reading.seat)
      × (after.writing.seat ≡ before.writing.seat)
  pub limits : (read.turnstile.limit ≡ house.limit) × (after.reading.turnstile.limit ≡ house.limit)
      × (after.writing.turnstile.limit ≡ house.limit)

in_one : (v0 v1 v2 v3 : PassState Call) (call : Call) (asked left : List Call)
    → v1.calls ≡ v0.calls ++ call ∷ []
    → v2.calls ≡ v1.calls ++ asked → v3.calls ≡ v2.calls ++ left
    → v3.calls ≡ v0.calls ++ call ∷ (asked ++ left)
in_one v0 v1 v2 v3 call asked left b c d =
    d
    ∙ ap (λ (l : List Call). l ++ left) (c ∙ ap (λ (l : List Call). l ++ asked) b)
    ∙ append_assoc (v0.calls ++ call ∷ []) asked left
    ∙ append_assoc v0.calls (call ∷ []) (asked ++ left)

module _ (house : House) (old new : Line) (before after : Passes) (ends : Ends)
    (k : Talked house old new before after ends) (history : History) (p : IsPartOf after.reading history)
    (q : IsPartOf after.writing history) where
  -- what the reader had seen when it ended is the beginning of the history
  read_at : IsAt k.read (reading_at (seats_of house before) history)
  read_at =
      let L : ℕ → Type 0 = λ n. length history ≤ n in
      record {
        seen = prefix_trans k.read.seen after.reading.seen history k.leaves.onward p.seen;
        seat = k.seats.0;
        limit = k.limits.0;
        fits = subst L k.limits.1 p.fits;
      }

  left_at : IsAt after.reading (reading_at (seats_of house before) history)
  left_at =
      let L : ℕ → Type 0 = λ n. length history ≤ n in
      record { seen = p.seen; seat = k.seats.1; limit = k.limits.1; fits = subst L k.limits.1 p.fits }

  written_at : IsAt after.writing (writing_at (seats_of house before) history)
  written_at =
      let L : ℕ → Type 0 = λ n. length history ≤ n in
      record { seen = q.seen; seat = k.seats.2; limit = k.limits.2; fits = subst L k.limits.2 q.fits }

  pub served : IsServed (seats_of house before) old new history ends
  served =
      let join = Join old.channel (identity_of k.peer) in
      let answer : Result Reply KernelFault = Ok (reply.Joined k.connection k.from) in
      let onward = prefix_trans k.joined.seen k.read.seen history
      (read_onward _ k.peer _ _ ends.reading k.reads)
      read_at.seen in
      let place = reading_at (seats_of house before) history in
      let joins = represents before.reading k.joined join answer place k.joins refl refl onward in
      let out : Outgoing = record {
        target = record { connection = k.connection; key = house.key; session = house.session };
        from = k.from;
        outlet = k.outlet;
        polls = old.polls;
      } in
      record {
        peer = k.peer;
        inlet = k.inlet;
        outlet = k.outlet;
        meets = k.meets;
        connection = k.connection;
        from = k.from;
        joins = joins;
        asked = k.reads.received.submitted.added;
        calls =
            ap (λ (i : ℕ). calls_of i history) (sym k.seats.1) ∙ p.own
            ∙ in_one before.reading k.joined k.read after.reading join k.reads.received.submitted.added
            (leaving k.connection ends.leave) (entry_calls before.reading k.joined join answer k.joins refl)
            k.reads.received.submitted.calls k.leaves.calls;
        asks = asks _ k.peer _ _ ends.reading k.reads;
        asking_ends = ends_asking _ k.peer _ _ ends.reading k.reads (reading_at
            (seats_of house before) history) read_at;
        sent =
            sends_if_any house before after.writing out new history ends.writing k.writes k.seats.2 q
            written_at
            (λ next. from_the_first place old.channel (identity_of k.peer) k.connection k.from next joins);
        leave_ends = leave_ends ends.leave after.reading (reading_at
            (seats_of house before) history) left_at k.leaves.cause;
      }

pub meets : (l : Line) (role : Role) (inlet : InletState) (outlet : OutletState) (peer : Peer)
    → role ≡ role_on l.channel → Received l.inlet inlet peer → peer.decoder.role ≡ role
    → peer.decoder.stage ≡ Traffic → hello.WroteWhole l.outlet outlet role → Meets l inlet outlet peer
meets l role inlet outlet peer is received own ready wrote =
    let W : Role → Type 0 = λ r. hello.WroteWhole l.outlet outlet r in
    record { received = received; role = own ∙ is; ready = ready; wrote = subst W is wrote }

-- ---- a visit that came to no Join

pub turned_away : (house : House) (old new : Line) (before after : Passes) (peer : Peer)
    (f : KernelFault) (history : History) → Meets old new.inlet new.outlet peer
    → IsUnjoinedPeer before.reading (Join old.channel (identity_of peer)) after.reading f
    → after.reading.seat ≡ before.reading.seat → after.writing ≡ before.writing
    → IsPartOf after.reading history → IsPartOf after.writing history
    → IsTurnedAway (seats_of house before) old new history f
turned_away house old new before after peer f history m u s same p q = record {
  peer = peer;
  meets = m;
  cause = refusal house before after.reading (Join old.channel (identity_of peer)) history s p f u;
  silent = silent before.writing after.writing history same q;
}

-- ---- a guest that was visited

pub visited : (house : House) (old seated left new : GuestState) (before after : Passes) (end : VisitEnd)
    → old.passes ≡ Some before → seated ≡ record old { passes = None }
    → new ≡ record left { passes = Some after; end = Some end }
    → (after.reading.turnstile ≡ before.reading.turnstile) × (after.reading.seat ≡ before.reading.seat)
    → (after.writing.turnstile ≡ before.writing.turnstile) × (after.writing.seat ≡ before.writing.seat)
    → left.channel ≡ seated.channel
    → ((history : History) → IsPartOf after.reading history → IsPartOf after.writing history
    → IsVisit (seats_of house before) (line_of seated) (line_of left) history end)
    → Visited house old new
visited house old seated left new before after end sat risen is reading writing channel visit =
    let last : GuestState = record left { passes = Some after; end = Some end } in
    let G : GuestState → Type 0 = λ x. Visited house old x in
    let U : Option Passes → Type 0 = λ q. VisitedWith house old last q (Some after) in
    subst G (sym is) (subst U (sym sat) (record {
      reading = reading;
      writing = writing;
      channel = channel ∙ ap (λ (x : GuestState). x.channel) risen;
      end = end;
      told = refl;
      visit = λ history p q. (let L : GuestState → Type 0 =
          λ x. IsVisit (seats_of house before) (line_of x) (line_of left) history end in
          subst L risen (visit history p q));
    }))
