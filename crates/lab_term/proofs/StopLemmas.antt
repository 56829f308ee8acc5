-- How far a cell came, and why it went no further.
use Rattle.std.proofs.Common.{◌≡◌, ℕ, Bool, true, List, [], ◌∷◌, ◌++◌, Result, Ok, Err, IfErr, ◌⊎◌, inl, inr}
use Rattle.std.proofs.Common.{⊎_elim, refl, sym, ap, ◌∙◌, subst, append-nil, append_assoc, arith, ◌≤◌}
use Rattle.base_streams.specs.States.{InletState, OutletState, IsReadable}
use Rattle.base_streams.specs.Told.{Took, TookPrefix, WasRead}
use Rattle.base_streams.proofs.TellLemmas.{told_on}
use Rattle.zmtp_wire.specs.declared.role.Role.{Role}
use Rattle.zmtp_wire.specs.declared.role.Role.TheVariants.{Dealer, Sub}
use Rattle.zmtp_wire.specs.Writing.{message_bytes}
use Rattle.zmtp_wire.specs.declared.peer_fault.PeerFault.{PeerFault}
use Rattle.zmtp_wire.specs.declared.peer_fault.PeerFault.TheVariants as peer
use Rattle.zmtp_wire.specs.declared.handshake.Peer.{Peer}
use Rattle.zmtp_wire.specs.Ends.{Blames, NoPeer}
use Rattle.zmtp_wire.specs.Receiving.{Received, most_reads}
use Rattle.zmtp_wire.specs.Sending.{WroteWhole}
use Rattle.zmtp_wire.proofs.ReceivingLemmas.{most_at, most_is, told_none}
use Rattle.zmtp_wire.proofs.SendingLemmas.{front_all, front_on}
use Rattle.lab_term.specs.declared.fault.TermFault.{TermFault}
use Rattle.lab_term.specs.declared.fault.TermFault.TheVariants.{OutOfMemory, Ended, ReadFailed, WriteFailed}
use Rattle.lab_term.specs.declared.fault.TermFault.TheVariants.{Wire}
use Rattle.lab_term.specs.declared.fault.WireCause.TheVariants.{Stream, Message}
use Rattle.lab_term.specs.declared.subscriber.Subscriber.{Subscriber}
use Rattle.lab_term.specs.declared.cell.Cell.{Cell}
use Rattle.lab_term.specs.declared.cell.CellEnd.{CellEnd}
use Rattle.lab_term.specs.Connections.{Client}
use Rattle.lab_term.specs.Causes.{FailsReading, Ungreeted, Unsent, IsBroken, Stalls, Causes}
use Rattle.lab_term.specs.Courses.{Parent, StopsAt, StopsIn, Cut}
use Rattle.lab_term.specs.Events.{ends, text_printed}
use Rattle.lab_term.specs.Faults.{term_fault_of}
use Rattle.lab_term.specs.Reading.{Holds, Starves, Unreceived, Waited}
use Rattle.lab_term.specs.Running.{Requested, parent_of, printing, subscription}
use Rattle.lab_term.specs.Stopping.{EndsStream, RequestedPrefix, Awaited, FollowedPrefix, Stopped, AtRequest}
use Rattle.lab_term.specs.Stopping.{AtCourse}
use Rattle.lab_term.proofs.CourseLemmas.{Follows, began}
use Rattle.lab_term.proofs.EventLemmas.{notices_more, none_more, printed_more}

-- ---- why

pub stalls_cut : (key : List ℕ) (before given : InletState) (s : Subscriber)
    (passed : List (List (List ℕ))) (out : OutletState) (fault : TermFault) → IsReadable given
    → StopsIn key s.queue.items out fault → Holds before given s passed
    → Stalls key before given out fault
stalls_cut key before given s passed out OutOfMemory good c h = good
stalls_cut key before given s passed out WriteFailed good c h = c.stops
stalls_cut key before given s passed out (Wire (Message cause)) good c h =
    record {
      peer = record { decoder = s.decoder; messages = h.messages; reads = s.reads };
      received = h.received;
      earlier = passed ++ c.taken;
      frames = c.stops.1;
      others = c.stops.2;
      messages_are =
          h.messages_are ∙ ap (λ (l : List (List (List ℕ))). passed ++ l)
          (c.queue_is ∙ ap (λ (l : List (List (List ℕ))). c.taken ++ l) c.stops.3)
          ∙ sym (append_assoc passed c.taken (c.stops.1 ∷ c.stops.2));
      unopened = c.stops.4;
    }
stalls_cut key before given s passed out _ good c h = absurd c.stops

pub stalls_starved : (key : List ℕ) (before g1 g2 : InletState) (out : OutletState) (s t u : Subscriber)
    (passed : List (List (List ℕ))) (fault : TermFault) → t.broken ≡ s.broken
    → Starves fault g2 u → (IsBroken fault → (u ≡ t) × (g2 ≡ g1)) → Holds before g1 s passed
    → Stalls key before g2 out fault
stalls_starved key before g1 g2 out s t u passed OutOfMemory b v k h = v
stalls_starved key before g1 g2 out s t u passed Ended b v k h = v.0
stalls_starved key before g1 g2 out s t u passed ReadFailed b v k h = inl v.1
stalls_starved key before g1 g2 out s t u passed WriteFailed b v k h = absurd v
stalls_starved key before g1 g2 out s t u passed (Wire (Stream cause)) b v k h =
    let peer : Peer = record { decoder = s.decoder; messages = h.messages; reads = s.reads } in
    let P : InletState → Type 0 = λ g. Received before g peer in
    record {
      peer = peer;
      received = subst P (sym (k tt).1) h.received;
      broken = sym h.broken_is ∙ sym b ∙ ap (λ (x : Subscriber). x.broken) (sym (k tt).0) ∙ v.1;
    }
stalls_starved key before g1 g2 out s t u passed (Wire (Message cause)) b v k h = absurd v

pub worn : (before given : InletState) (s : Subscriber) (passed : List (List (List ℕ)))
    → 4294967295 ≤ s.reads → Holds before given s passed → FailsReading before given
worn before given s passed m h =
    let within = rw most_is at h.received.within in
    let R : ℕ → Type 0 = λ n. WasRead before given n in
    inr (subst R (most_at s.reads (omega (arith, m, within))) h.received.was_read)

fails_reading : (role : Role) (from from' : InletState) → NoPeer role from from' peer.ReadFailed
    → FailsReading from from'
fails_reading role from from' p =
    let R : ℕ → Type 0 = λ n. WasRead from from' n in
    ⊎_elim (λ (f : from'.failed ≡ true). inl f)
    (λ (m : p.ends.reads ≡ most_reads). inr (subst R m p.ends.was_read))
    p.ends.fails_by

shell_caused : (key : List ℕ) (old new : Client) (cause : PeerFault)
    → Blames cause new.shell.from new.shell.to → NoPeer Dealer old.shell.from new.shell.from cause
    → IsReadable new.iopub.from → Causes key old new (term_fault_of cause)
shell_caused key old new peer.OutOfMemory u p g = (u.0, g)
shell_caused key old new peer.PeerEnded u p g = inl u.0
shell_caused key old new peer.ReadFailed u p g = inl (fails_reading Dealer old.shell.from new.shell.from p)
shell_caused key old new peer.WriteFailed u p g = inl u.1
shell_caused key old new (peer.Wire cause) u p g = inl p

pub cause_shell : (key : List ℕ) (old new : Client) (fault : TermFault)
    → Ungreeted Dealer old.shell new.shell fault → IsReadable new.iopub.from → Causes key old new fault
cause_shell key old new fault u g =
    let P : TermFault → Type 0 = λ x. Causes key old new x in
    subst P (sym u.fault_is) (shell_caused key old new u.cause u.blames u.lost g)

iopub_caused : (key : List ℕ) (old new : Client) (cause : PeerFault)
    → Blames cause new.iopub.from new.iopub.to → NoPeer Sub old.iopub.from new.iopub.from cause
    → IsReadable new.shell.from → Causes key old new (term_fault_of cause)
iopub_caused key old new peer.OutOfMemory u p g = (g, u.0)
iopub_caused key old new peer.PeerEnded u p g = inr u.0
iopub_caused key old new peer.ReadFailed u p g = inr (fails_reading Sub old.iopub.from new.iopub.from p)
iopub_caused key old new peer.WriteFailed u p g = inr (inl u.1)
iopub_caused key old new (peer.Wire cause) u p g = inr (inl p)

pub cause_iopub : (key : List ℕ) (old new : Client) (fault : TermFault)
    → Ungreeted Sub old.iopub new.iopub fault → IsReadable new.shell.from → Causes key old new fault
cause_iopub key old new fault u g =
    let P : TermFault → Type 0 = λ x. Causes key old new x in
    subst P (sym u.fault_is) (iopub_caused key old new u.cause u.blames u.lost g)

-- a message wasn't sent by one of the two writers
pub cause_unsent : (key : List ℕ) (old new : Client) (to : OutletState) (fault : TermFault)
    → (to.failed ≡ true → (new.shell.to.failed ≡ true) ⊎ (new.iopub.to.failed ≡ true))
    → IsReadable new.shell.from → IsReadable new.iopub.from → Unsent to fault → Causes key old new fault
cause_unsent key old new to OutOfMemory w g g' u = (g, g')
cause_unsent key old new to WriteFailed w g g' u =
    ⊎_elim (λ (x : new.shell.to.failed ≡ true). inl x) (λ (x : new.iopub.to.failed ≡ true). inr (inl x)) (w u)
cause_unsent key old new to _ w g g' u = absurd u

pub cause_stalls : (key : List ℕ) (old new : Client) (to : OutletState) (fault : TermFault)
    → (to.failed ≡ true → new.output.failed ≡ true) → IsReadable new.shell.from
    → Stalls key old.iopub.from new.iopub.from to fault → Causes key old new fault
cause_stalls key old new to OutOfMemory w g s = (g, s)
cause_stalls key old new to Ended w g s = inr s
cause_stalls key old new to ReadFailed w g s = inr s
cause_stalls key old new to WriteFailed w g s = inr (inr (w s))
cause_stalls key old new to (Wire (Stream cause)) w g s = inr (inr s)
cause_stalls key old new to (Wire (Message cause)) w g s = s

-- the causes of a cell that was followed
pub causes_followed : (result : Result CellEnd TermFault) (key : List ℕ) (old new : Client)
    (given : InletState) (s : Subscriber) → Waited key old.iopub.from given s → IsReadable new.shell.from
    → IfErr result (λ fault. (before : InletState) (passed : List (List (List ℕ)))
    → Holds before given s passed → Stalls key before new.iopub.from new.output fault)
    → IfErr result (Causes key old new)
causes_followed (Ok end) key old new given s w g i = tt
causes_followed (Err fault) key old new given s w g i =
    cause_stalls key old new new.output fault (λ h. h) g (i old.iopub.from w.passed w.holds)

-- ---- how far

-- no read failed
pub unreceived_none : (given : InletState) (fault : TermFault) → Unreceived given given fault
unreceived_none given fault = record { bytes = []; gave = told_none given.given; all = inl refl }

-- nothing was taken after the last read
pub front_here : (parent : Parent) (before g1 g2 : InletState) (s : Subscriber)
    (passed : List (List (List ℕ))) (out o1 : OutletState) (failed : Bool) (fault : TermFault)
    → Unreceived g1 g2 fault → (EndsStream fault → s.queue.items ≡ [])
    → Follows parent before g1 s passed out o1 failed
    → FollowedPrefix parent passed (record { from = before; to = out }) (record { from = g2; to = o1 }) fault
front_here parent before g1 g2 s passed out o1 failed fault u none w = record {
  decoder = s.decoder;
  messages = w.holds.messages;
  received = w.holds.received.stream;
  unreceived = u.bytes;
  gave = told_on before.given g1.given g2.given w.holds.received.stream u.bytes w.holds.received.gave u.gave;
  all = u.all;
  represents = w.holds.received.represents;
  taken = w.taken;
  others = s.queue.items;
  messages_are = w.holds.messages_are;
  notices = w.notices;
  are = w.are;
  busy = w.busy;
  wrote = front_all out.taken o1.taken (text_printed parent.header w.notices) w.wrote;
  whole = λ e. (none e, w.wrote);
}

stops_within : (key : List ℕ) (others : List (List (List ℕ))) (to : OutletState) (fault : TermFault)
    → StopsAt key others to fault → EndsStream fault → ⊥
stops_within key others to Ended s e = s
stops_within key others to ReadFailed s e = s
stops_within key others to (Wire (Stream cause)) s e = s
stops_within key others to _ s e = e

-- some messages were taken
pub front_cut : (parent : Parent) (before given : InletState) (s : Subscriber)
    (passed : List (List (List ℕ))) (out o1 o2 : OutletState) (failed : Bool)
    (fault : TermFault) → Cut parent s.queue.items o1 o2 fault
    → Follows parent before given s passed out o1 failed
    → FollowedPrefix parent passed (record { from = before; to = out })
    (record { from = given; to = o2 }) fault
front_cut parent before given s passed out o1 o2 failed fault c w =
    let P : List ℕ → Type 0 = λ l. TookPrefix out o2 l in
    record {
      decoder = s.decoder;
      messages = w.holds.messages;
      received = w.holds.received.stream;
      unreceived = [];
      gave =
          told_on before.given given.given given.given w.holds.received.stream [] w.holds.received.gave
          (told_none given.given);
      all = inl refl;
      represents = w.holds.received.represents;
      taken = w.taken ++ c.taken;
      others = c.others;
      messages_are =
          w.holds.messages_are ∙ ap (λ (l : List (List (List ℕ))). (passed ++ w.taken) ++ l) c.queue_is
          ∙ sym (append_assoc (passed ++ w.taken) c.taken c.others)
          ∙ ap (λ (l : List (List (List ℕ))). l ++ c.others) (append_assoc passed w.taken c.taken);
      notices = w.notices ++ c.notices;
      are = notices_more parent.key w.taken c.taken w.notices c.notices w.are c.are;
      busy = none_more (ends parent.header) w.notices c.notices w.busy c.busy;
      wrote =
          subst P (sym (printed_more parent.header w.notices c.notices))
          (front_on out.taken o1.taken o2.taken (text_printed parent.header w.notices)
          (text_printed parent.header c.notices) w.wrote c.wrote);
      whole = λ e. absurd (stops_within parent.key c.others o2 fault c.stops e);
    }

awaited : (key : List ℕ) (before given : InletState) (s : Subscriber) → Waited key before given s
    → Awaited key before given
awaited key before given s w = record {
  peer = record { decoder = s.decoder; messages = w.holds.messages; reads = s.reads };
  received = w.holds.received;
  passed = w.passed;
  others = s.queue.items;
  messages_are = w.holds.messages_are;
  notices = w.notices;
  are = w.are;
  status = w.status;
}

-- it stopped while it sent its request
pub stopped_requesting : (cell : Cell) (old new : Client) (a b : OutletState) (s : Subscriber)
    (fault : TermFault)
    → WroteWhole old.shell.to a Dealer → RequestedPrefix cell a new.shell.to fault
    → WroteWhole old.iopub.to b Sub
    → Took b new.iopub.to (message_bytes subscription)
    → Waited cell.key.now old.iopub.from new.iopub.from s → new.output ≡ old.output
    → Stopped cell old new fault
stopped_requesting cell old new a b s fault x asks y told w e =
    AtRequest a x asks (record { between = b; handshake = y; took = told })
    (awaited cell.key.now old.iopub.from new.iopub.from s w) e

-- it stopped after its request
pub stopped_after : (cell : Cell) (old new : Client) (header shown : List ℕ) (a b : OutletState)
    (given : InletState) (s : Subscriber) (fault : TermFault) → shown ≡ header
    → WroteWhole old.shell.to a Dealer → Requested cell header a new.shell.to → WroteWhole old.iopub.to b Sub
    → Took b new.iopub.to (message_bytes subscription) → (w : Waited cell.key.now old.iopub.from given s)
    → FollowedPrefix (parent_of cell shown) w.passed (printing old) (printing new) fault
    → Stopped cell old new fault
stopped_after cell old new header shown a b given s fault is x requested y told w f =
    let P : List ℕ
    → Type 0 = λ l. FollowedPrefix (parent_of cell l) w.passed (printing old) (printing new) fault in
    AtCourse (record {
      header = header;
      passed = w.passed;
      began = began cell old new header a b old.iopub.from given s x requested y told w;
      followed = subst P is f;
    })
