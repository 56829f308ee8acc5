-- What was asked for, in the one history.
use Rattle.std.proofs.Common.{◌≡◌, ℕ, ◌≤◌, List, [], ◌∷◌, ◌++◌, length, refl, sym, ap, ◌∙◌, subst, Contains}
use Rattle.std.proofs.Common.{arith, Err, length-append}
use Rattle.std.proofs.lemmas.List.{append_cancel_left}
use Rattle.std.proofs.lemmas.List.Elements.{All-contains}
use mathlib.Core.List.{IsPrefix}
use Rattle.base_streams.specs.Told.{Gave}
use Rattle.lab_turn.specs.History.{PassState, TurnstileState, IsHistoryOf, calls_of}
use Rattle.kern_calls.specs.declared.call.Call.{Call}
use Rattle.zmtp_wire.specs.Stream.{DecoderState}
use Rattle.zmtp_wire.specs.declared.handshake.Peer.{Peer}
use Rattle.kern_calls.specs.declared.fault.KernelFault.{KernelFault}
use Rattle.kern_net.specs.declared.end.PumpEnd.{PumpEnd}
use Rattle.kern_net.specs.declared.end.PumpEnd.TheVariants as end
use Rattle.kern_net.specs.Routes.{Source}
use Rattle.kern_net.specs.ReadEnds.{Reader, EndsBy, LastAnswer}
use Rattle.kern_net.specs.Reading.{ReadOut}
use Rattle.kern_host.specs.OneHistory.{History, IsPartOf, SeatInHistory, seat_in, Asks, AsksIn, AskingEnds}
use Rattle.kern_host.specs.OneHistory.{InletEnds, LastIsRefused, IsFull}

pub is_part : (turnstile : TurnstileState) (passes : List (PassState Call)) (pass : PassState Call)
    (history : History) → IsHistoryOf turnstile passes history → Contains passes pass
    → pass.turnstile ≡ turnstile → IsPartOf pass history
is_part turnstile passes pass history h c own =
    let L : TurnstileState → Type 0 = λ (t : TurnstileState). length history ≤ t.limit in
    record {
      seen = All-contains (λ (p : PassState Call). IsPrefix p.seen history) passes pass h.seen c;
      own = All-contains (λ (p : PassState Call). calls_of p.seat history ≡ p.calls) passes pass h.own c;
      fits = subst L (sym own) h.legal.fits;
    }

-- ---- a pass that stopped somewhere in a history

-- all that the pass has seen is the beginning of the history that the place is in
pub record IsAt (pass : PassState Call) (place : SeatInHistory) : Type 0 where
  pub seen : IsPrefix pass.seen place.history
  pub seat : pass.seat ≡ place.seat
  pub limit : pass.turnstile.limit ≡ place.limit
  pub fits : length place.history ≤ place.limit

pub part_at : (pass : PassState Call) (history : History) → IsPartOf pass history
    → IsAt pass (seat_in pass history)
part_at pass history p = record { seen = p.seen; seat = refl; limit = refl; fits = p.fits }

-- a journal that was full is still
pub full_there : (pass : PassState Call) (place : SeatInHistory) → IsAt pass place
    → length pass.seen ≡ pass.turnstile.limit → IsFull place
full_there pass place a full =
    let n = ap length a.seen.1 in let l = a.limit in let f = a.fits in
    omega (arith, n, l, f, full, length-append pass.seen a.seen.0)

-- ---- why reading ended

inlet_ends : (e : PumpEnd) (old new : Reader) (decoder : DecoderState) (reads : ℕ)
    → EndsBy e old new decoder reads
    → InletEnds new.inlet decoder reads e
inlet_ends end.PeerEnded old new decoder reads h = h
inlet_ends end.ReadFailed old new decoder reads h = h
inlet_ends (end.Wire cause) old new decoder reads h = h
inlet_ends end.OutOfMemory old new decoder reads h = h.0
inlet_ends end.JournalFull old new decoder reads h = h.0
inlet_ends (end.Refused fault) old new decoder reads h = h.0
inlet_ends end.OutOfTickets old new decoder reads h = h.0
inlet_ends end.WriteFailed old new decoder reads h = absurd h.1
inlet_ends end.Lagged old new decoder reads h = absurd h.1
inlet_ends end.Ended old new decoder reads h = absurd h.1

last_refused : (old : List Call) (asked : List Call) (pass : PassState Call) (place : SeatInHistory)
    (fault : KernelFault)
    → pass.calls ≡ old ++ asked → IsAt pass place → LastAnswer old pass (Err fault)
    → LastIsRefused place asked fault
last_refused old asked pass place fault calls a l =
    let P : History → Type 0 = λ h. IsPrefix h place.history in
    let Q : ℕ → Type 0 = λ i. IsPrefix (l.before ++ (i, l.call) ∷ []) place.history in
    record {
      earlier = l.earlier;
      call = l.call;
      split = append_cancel_left old asked (l.earlier ++ l.call ∷ []) (sym calls ∙ l.own);
      represents = record {
        before = l.before;
        here = subst Q a.seat (subst P l.history a.seen);
        answered = sym l.answered;
      };
    }

asking_ends : (e : PumpEnd) (old new : Reader) (decoder : DecoderState) (reads : ℕ) (asked : List Call)
    (place : SeatInHistory)
    → EndsBy e old new decoder reads → new.pass.calls ≡ old.pass.calls ++ asked → IsAt new.pass place
    → AskingEnds place asked e
asking_ends end.PeerEnded old new decoder reads asked place h calls a = tt
asking_ends end.ReadFailed old new decoder reads asked place h calls a = tt
asking_ends (end.Wire cause) old new decoder reads asked place h calls a = tt
asking_ends end.OutOfMemory old new decoder reads asked place h calls a = tt
asking_ends end.OutOfTickets old new decoder reads asked place h calls a = tt
asking_ends end.JournalFull old new decoder reads asked place h calls a = full_there new.pass place a h.1
asking_ends (end.Refused fault) old new decoder reads asked place h calls a =
    last_refused old.pass.calls asked new.pass place fault calls a h.1
asking_ends end.WriteFailed old new decoder reads asked place h calls a = absurd h.1
asking_ends end.Lagged old new decoder reads asked place h calls a = absurd h.1
asking_ends end.Ended old new decoder reads asked place h calls a = absurd h.1

-- ---- a reader that was read out

module _ (source : Source) (peer : Peer) (old new : Reader) (e : PumpEnd)
    (r : ReadOut source peer old new e) where
  pub asks : Asks source peer old.inlet new.inlet r.received.submitted.added e
  asks =
      let f = r.received in
      let s = f.submitted in
      let G : List ℕ → Type 0 = λ b. Gave old.inlet new.inlet b in
      record {
        taken = f.taken;
        unread = f.unread;
        gave = subst G f.bytes_are r.gave;
        after = r.after;
        messages = f.messages;
        reads = f.reads;
        front = s.front;
        others = s.others;
        split = s.messages_are;
        submits = s.submits;
        all = λ h. (f.all h, s.all h);
        count = r.reads;
        was_read = r.was_read;
        within = r.within;
        cause = inlet_ends e old new r.after r.reads r.cause;
      }

  pub ends_asking : (place : SeatInHistory) → IsAt new.pass place
      → AskingEnds place r.received.submitted.added e
  ends_asking place a =
      asking_ends e old new r.after r.reads r.received.submitted.added place r.cause
      r.received.submitted.calls a

  pub asks_in : (history : History) → IsPartOf new.pass history → AsksIn source peer old new history e
  asks_in history p = record {
    asked = r.received.submitted.added;
    asks = asks;
    calls = p.own ∙ r.received.submitted.calls;
    cause = ends_asking (seat_in new.pass history) (part_at new.pass history p);
  }
