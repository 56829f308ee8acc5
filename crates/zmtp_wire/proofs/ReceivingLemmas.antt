-- What was received in a handshake, piece by piece.
use Rattle.std.proofs.Common.{◌≡◌, ◌↔◌, IsTrue, ℕ, ◌+◌, ◌<◌, ◌≤◌, inl, inr, Bool, false, List, [], ◌++◌}
use Rattle.std.proofs.Common.{true, Option, Some, None, refl, sym, ap, subst, arith, append-nil}
use Rattle.zmtp_wire.specs.declared.fault.StreamFault.{StreamFault}
use Rattle.zmtp_wire.specs.declared.role.Role.{Role}
use Rattle.zmtp_wire.specs.declared.head.Stage.TheVariants.{Traffic}
use Rattle.zmtp_wire.specs.Stream.{DecoderState, HasReadMessages, Completes}
use Rattle.base_streams.specs.States.{InletState, OutletState, IsWritable}
use Rattle.base_streams.specs.Told.{Told, Gave, WasRead}
use Rattle.base_streams.proofs.TellLemmas.{told_on, counts_on, counts_none}
use Rattle.zmtp_wire.specs.declared.peer_fault.PeerFault.{PeerFault}
use Rattle.zmtp_wire.specs.declared.peer_fault.PeerFault.TheVariants.{OutOfMemory, PeerEnded, ReadFailed}
use Rattle.zmtp_wire.specs.declared.peer_fault.PeerFault.TheVariants.{WriteFailed, Wire}
use Rattle.zmtp_wire.specs.Ends.{Ends, Explains, FailsBy, NoPeer, Stops, Blames}
use Rattle.zmtp_wire.specs.Receiving.{Received, most_reads}
use Rattle.zmtp_wire.specs.declared.handshake.Peer.{Peer}
use Rattle.zmtp_wire.proofs.QuietLemmas.{decoder_quiet}

-- nothing was told
pub told_none : (given : Option (List ℕ)) → Told given given []
told_none None = tt
told_none (Some v) = ap Some (sym (append-nil v))

abbrev pub peer_of : DecoderState → List (List (List ℕ)) → ℕ → Peer
peer_of decoder messages reads = record { decoder = decoder; messages = messages; reads = reads }

-- nothing has been received yet
pub received_first : (inlet : InletState) (p : Peer) → HasReadMessages p.decoder [] [] → p.messages ≡ []
    → p.reads ≡ 0 → Received inlet inlet p
unfolding most_reads
received_first inlet p k e z =
    let P : List (List (List ℕ)) → Type 0 = λ l. HasReadMessages p.decoder [] l in
    let R : ℕ → Type 0 = λ n. WasRead inlet inlet n in
    record {
      stream = [];
      gave = told_none inlet.given;
      represents = subst P (sym e) k;
      was_read = subst R (sym z) (counts_none inlet.reads);
      within = omega (arith, z);
    }

pub most_below : (n : ℕ) → n < 4294967295 → n + 1 ≤ most_reads
unfolding most_reads
most_below n h = omega (arith, h)

-- one piece more, before READY
pub received_on : (g h k : InletState) (s : Peer) (t : DecoderState) (x : List ℕ) (out : List (List (List ℕ)))
    → (s.decoder.stage ≡ Traffic → ⊥) → s.reads < 4294967295 → Completes s.decoder x out t → Gave h k x
    → WasRead h k 1 → Received g h s → Received g k (peer_of t out (s.reads + 1))
received_on g h k s t x out unready left r o w p =
    let P : List (List (List ℕ)) → Type 0 = λ l. HasReadMessages t (p.stream ++ x) (l ++ out) in
    record {
      stream = p.stream ++ x;
      gave = told_on g.given h.given k.given p.stream x p.gave o;
      represents = subst P (decoder_quiet s.decoder p.stream s.messages unready p.represents)
          (r.represents p.stream s.messages p.represents);
      was_read = counts_on g.reads h.reads k.reads s.reads 1 p.was_read w;
      within = most_below s.reads left;
    }

pub gave_whole : (g h : InletState) (x : List ℕ) → Gave g h x → Gave g h (x ++ [])
gave_whole g h x o = let P : List ℕ → Type 0 = λ l. Gave g h l in subst P (sym (append-nil x)) o

-- the reader ended or failed
pub explains_stop : (fault : PeerFault) (k : InletState) (s : DecoderState) → Stops fault k
    → Explains fault s []
explains_stop PeerEnded k s h = refl
explains_stop ReadFailed k s h = refl
explains_stop _ k s h = absurd h

pub fails_stop : (fault : PeerFault) (k : InletState) (n : ℕ) → Stops fault k → FailsBy fault k n
fails_stop PeerEnded k n h = tt
fails_stop ReadFailed k n h = inl h.1
fails_stop _ k n h = absurd h

pub failed_stop : (fault : PeerFault) (k : InletState) → Stops fault k → fault ≡ ReadFailed → k.failed ≡ true
failed_stop ReadFailed k h e = h.1
failed_stop PeerEnded k h e = absurd cc
failed_stop _ k h e = absurd h

pub blames_stop : (fault : PeerFault) (from : InletState) (to : OutletState) → Stops fault from
    → IsWritable to → Blames fault from to
blames_stop PeerEnded from to h w = (h.0, h.1, w)
blames_stop ReadFailed from to h w = (h.0, w)
blames_stop _ from to h w = absurd h

-- the reader ended or failed before READY
pub lost_stop : (g h k : InletState) (s : Peer) (fault : PeerFault) → (s.decoder.stage ≡ Traffic → ⊥)
    → s.reads < 4294967295 → Stops fault k → Gave h k [] → WasRead h k 1 → Received g h s
    → NoPeer s.decoder.role g k fault
lost_stop g h k s fault unready left stops o w p = record {
  decoder = s.decoder;
  messages = s.messages;
  ends = record {
    received = p.stream;
    unreceived = [];
    gave = told_on g.given h.given k.given p.stream [] p.gave o;
    role_is = refl;
    represents = p.represents;
    explains = explains_stop fault k s.decoder stops;
    reads = s.reads + 1;
    was_read = counts_on g.reads h.reads k.reads s.reads 1 p.was_read w;
    within = most_below s.reads left;
    fails_by = fails_stop fault k (s.reads + 1) stops;
  };
  unready = λ r. unready;
}

-- memory was wanting after this piece was read
pub lost_memory : (g h k : InletState) (s : Peer) (x : List ℕ) → s.reads < 4294967295 → Gave h k x
    → WasRead h k 1 → Received g h s → NoPeer s.decoder.role g k OutOfMemory
lost_memory g h k s x left o w p = record {
  decoder = s.decoder;
  messages = s.messages;
  ends =
      record {
        received = p.stream;
        unreceived = x;
        gave = told_on g.given h.given k.given p.stream x p.gave o;
        role_is = refl;
        represents = p.represents;
        explains = tt;
        reads = s.reads + 1;
        was_read = counts_on g.reads h.reads k.reads s.reads 1 p.was_read w;
        within = most_below s.reads left;
        fails_by = tt;
      };
  unready = λ r. absurd r;
}

-- all that the reader gave was received
ends_whole : (g k : InletState) (role : Role) (t : Peer) (fault : PeerFault) → t.decoder.role ≡ role
    → Received g k t → Explains fault t.decoder [] → FailsBy fault k t.reads
    → Ends role g k fault t.decoder t.messages
ends_whole g k role t fault e p why fails = record {
  received = p.stream;
  unreceived = [];
  gave = gave_whole g k p.stream p.gave;
  role_is = e;
  represents = p.represents;
  explains = why;
  reads = t.reads;
  was_read = p.was_read;
  within = p.within;
  fails_by = fails;
}

-- the stream is broken before READY
pub lost_wire : (g k : InletState) (role : Role) (t : Peer) (cause : StreamFault) → t.decoder.role ≡ role
    → (t.decoder.stage ≡ Traffic → ⊥) → t.decoder.fault ≡ Some cause → Received g k t
    → NoPeer role g k (Wire cause)
lost_wire g k role t cause e unready broken p = record {
  decoder = t.decoder;
  messages = t.messages;
  ends = ends_whole g k role t (Wire cause) e p (refl, broken) tt;
  unready = λ r. unready;
}

lost_write : (g k : InletState) (role : Role) (t : Peer) → t.decoder.role ≡ role → Received g k t
    → NoPeer role g k WriteFailed
lost_write g k role t e p = record {
  decoder = t.decoder;
  messages = t.messages;
  ends = ends_whole g k role t WriteFailed e p refl tt;
  unready = λ r. absurd r;
}

-- the writer failed
pub lost_writer : (g k : InletState) (role : Role) (t : Peer) (fault : PeerFault) → fault ≡ WriteFailed
    → t.decoder.role ≡ role → Received g k t → NoPeer role g k fault
lost_writer g k role t fault w e p =
    let P : PeerFault → Type 0 = λ (x : PeerFault). NoPeer role g k x in
    subst P (sym w) (lost_write g k role t e p)

pub lost_as : (g k : InletState) (role other : Role) (fault : PeerFault) → other ≡ role
    → NoPeer other g k fault → NoPeer role g k fault
lost_as g k role other fault e p =
    let P : Role → Type 0 = λ (x : Role). NoPeer x g k fault in
    subst P e p

pub most_at : (n : ℕ) → n ≡ 4294967295 → n ≡ most_reads
unfolding most_reads
most_at n e = e

-- as many reads were made as a conversation may make
pub lost_most : (g k : InletState) (role : Role) (t : Peer) → t.reads ≡ 4294967295 → t.decoder.role ≡ role
    → (t.decoder.stage ≡ Traffic → ⊥) → Received g k t → NoPeer role g k ReadFailed
lost_most g k role t most e unready p = record {
  decoder = t.decoder;
  messages = t.messages;
  ends = ends_whole g k role t ReadFailed e p refl (inr (most_at t.reads most));
  unready = λ r. unready;
}

-- a decoder that isn't ready
pub unready_by : (b : Bool) (s : DecoderState) → IsTrue b ↔ (s.stage ≡ Traffic) → b ≡ false
    → s.stage ≡ Traffic → ⊥
unready_by b s same e t = absurd (let i = same.1 t in cc)

pub most_is : most_reads ≡ 4294967295
unfolding most_reads
most_is = refl
