-- From pieces of the stream to all of it.
use Rattle.std.proofs.Common.{◌≡◌, ◌∙◌, ℕ, ◌+◌, ◌-◌, ◌^◌, ◌<◌, inl, inr, true, List, [], ◌++◌, Some, None}
use Rattle.std.proofs.Common.{refl, sym}
use Rattle.std.proofs.Common.{zero, suc, ap, subst, append_assoc, append-nil, arith}
use Rattle.std.proofs.lemmas.Bool.{false≢true}
use Rattle.base_streams.specs.States.{InletState, OutletState, IsReadable, IsWritable}
use Rattle.base_streams.specs.Told.{Gave, Took, WasRead}
use Rattle.base_streams.proofs.TellLemmas.{told_on, counts_on, counts_none}
use Rattle.zmtp_wire.specs.Wire.{Bytes, Messages}
use Rattle.zmtp_wire.specs.declared.role.Role.TheVariants.{Router}
use Rattle.zmtp_wire.specs.declared.peer_fault.PeerFault.{PeerFault}
use Rattle.zmtp_wire.specs.declared.peer_fault.PeerFault.TheVariants.{OutOfMemory, PeerEnded, ReadFailed}
use Rattle.zmtp_wire.specs.declared.peer_fault.PeerFault.TheVariants.{WriteFailed, Wire}
use Rattle.zmtp_wire.specs.Connections.{connection}
use Rattle.zmtp_wire.specs.Ends.{Blames, Stops, Refuses}
use Rattle.zmtp_wire.specs.Sending.{IsHandshakeOf, WrotePrefix as HandshakeBegun}
use Rattle.zmtp_wire.specs.Sending.{WroteWhole as HandshakeWritten}
use Rattle.zmtp_wire.specs.declared.fault.StreamFault.{StreamFault}
use Rattle.zmtp_wire.specs.Stream.{DecoderState, HasReadMessages, Completes}
use Rattle.zmtp_wire.proofs.EchoLemmas.{blames_refused, completes_none}
use Rattle.zmtp_wire.proofs.ReceivingLemmas.{told_none, blames_stop, gave_whole}
use Rattle.zmtp_wire.proofs.SendingLemmas.{front_all, front_on}
use Rattle.kern_core.specs.States.{KernelState, kernel_before_calls}
use Rattle.kern_core.specs.Represents.{KernelFields, RepresentsKernel}
use Rattle.lab80_web.specs.Outputs.{Output, IsStreamOf, WroteAll, WrotePrefix}
use Rattle.lab80_web.specs.Session.{state_after_messages, outputs_from, outputs_of}
use Rattle.lab80_web.specs.Steps.{Served, server, AnsweredPiece, FailedPiece, StopsBy}
use Rattle.lab80_web.specs.Serving.{IsWrittenAs, Breaks, is_whole, FailsBy, Serves}
use Rattle.lab80_web.proofs.OutputLemmas.{no_outputs, stream-append, began_all, began_none}
use Rattle.lab80_web.proofs.SessionLemmas.{outputs_on, state_on}

abbrev pub served : DecoderState → KernelFields → OutletState → Served
served decoder kernel outlet = record { decoder = decoder; server = server kernel outlet }

-- all that was read in so many reads was answered
pub record Reached (from from' : InletState) (to : OutletState) (now : Served) (reads : ℕ) : Type 0 where
  pub stream : Bytes
  pub gave : Gave from from' stream
  pub was_read : WasRead from from' reads
  pub messages : Messages
  pub read : HasReadMessages now.decoder stream messages
  pub role : now.decoder.role ≡ Router
  pub good : now.decoder.fault ≡ None
  pub represents : RepresentsKernel now.server.kernel (state_after_messages kernel_before_calls messages)
  pub handshake : Bytes
  pub is_handshake : IsHandshakeOf handshake Router
  pub written : Bytes
  pub is_stream : IsStreamOf (outputs_of messages) written
  pub took : Took to now.server.outlet (handshake ++ written)

pub reached_first : (from : InletState) (to to' : OutletState) (d : DecoderState) (k : KernelFields)
    → HasReadMessages d [] [] → d.role ≡ Router → d.fault ≡ None → RepresentsKernel k kernel_before_calls
    → HandshakeWritten to to' Router → Reached from from to (served d k to') 0
reached_first from to to' d k h r f p w = record {
  stream = [];
  gave = told_none from.given;
  was_read = counts_none from.reads;
  messages = [];
  read = h;
  role = r;
  good = f;
  represents = p;
  handshake = w.handshake;
  is_handshake = w.is;
  written = [];
  is_stream = no_outputs;
  took = subst (λ (l : Bytes). Took to to' l) (sym (append-nil w.handshake)) w.took;
}

-- the handshake and more outputs
spelled_on : (handshake a b : Bytes) (xs ys : List Output) → IsHandshakeOf handshake Router → IsStreamOf xs a
    → IsStreamOf ys b → IsWrittenAs (xs ++ ys) ((handshake ++ a) ++ b)
spelled_on handshake a b xs ys h s t = record {
  handshake = handshake;
  is_handshake = h;
  stream = a ++ b;
  is_stream = stream-append xs ys a b s t;
  spelled = append_assoc handshake a b;
}

-- one piece more
pub reached_on : (from from' from'' : InletState) (to : OutletState) (now then : Served) (reads : ℕ)
    (piece : Bytes) → Gave from' from'' piece → WasRead from' from'' 1
    → (r : Reached from from' to now reads)
    → AnsweredPiece (state_after_messages kernel_before_calls r.messages) piece now then
    → Reached from from'' to then (reads + 1)
reached_on from from' from'' to now then reads piece g w r a =
    let s = state_after_messages kernel_before_calls r.messages in
    record {
      stream = r.stream ++ piece;
      gave = told_on from.given from'.given from''.given r.stream piece r.gave g;
      was_read = counts_on from.reads from'.reads from''.reads reads 1 r.was_read w;
      messages = r.messages ++ a.messages;
      read = a.completes.represents r.stream r.messages r.read;
      role = a.completes.role ∙ r.role;
      good = a.good;
      represents = rw (state_on kernel_before_calls r.messages a.messages) a.represents;
      handshake = r.handshake;
      is_handshake = r.is_handshake;
      written = r.written ++ a.wrote.bytes;
      is_stream = rw (outputs_on kernel_before_calls r.messages a.messages)
          (stream-append (outputs_of r.messages) (outputs_from s a.messages) r.written a.wrote.bytes
          r.is_stream
          a.wrote.stream);
      took = subst (λ (l : Bytes). Took to then.server.outlet l)
          (append_assoc r.handshake r.written a.wrote.bytes)
          (told_on to.taken now.server.outlet.taken then.server.outlet.taken (r.handshake ++ r.written)
          a.wrote.bytes r.took a.wrote.took);
    }

pub positive : (n : ℕ) → (n ≡ 0 → ⊥) → 0 < n
positive zero other = absurd (other refl)
positive (suc n) other = omega arith

-- ---- one piece

pub piece_answered : (s : KernelState) (piece : Bytes) (d d' : DecoderState) (k k' : KernelFields)
    (o o' : OutletState) (messages : Messages) → Completes d piece messages d' → d'.fault ≡ None
    → WroteAll o o' (outputs_from s messages) × IsWritable o'
    → RepresentsKernel k' (state_after_messages s messages)
    → AnsweredPiece s piece (served d k o) (served d' k' o')
piece_answered s piece d d' k k' o o' messages completes good w r = record {
  messages = messages;
  completes = completes;
  good = good;
  wrote = w.0;
  writable = w.1;
  represents = r;
}

pub piece_broken : (s : KernelState) (piece : Bytes) (d d' : DecoderState) (k k' : KernelFields)
    (o o' : OutletState) (messages : Messages) (cause : StreamFault) → Completes d piece messages d'
    → d'.fault ≡ Some cause → WroteAll o o' (outputs_from s messages) × IsWritable o'
    → FailedPiece s piece (served d k o) (served d' k' o') (Wire cause)
piece_broken s piece d d' k k' o o' messages cause completes broken w = record {
  read = piece;
  unread = [];
  split = sym (append-nil piece);
  all = λ _. refl;
  messages = messages;
  completes = completes;
  front = began_all o o' _ w.0;
  whole = λ _. w.0;
  stops = (broken, w.1);
}

stops_refused : (e : PeerFault) (now : Served) → Refuses e now.server.outlet → StopsBy e now
stops_refused OutOfMemory now refuses = refuses
stops_refused WriteFailed now refuses = refuses
stops_refused _ now refuses = absurd refuses

refused_whole : (e : PeerFault) (o : OutletState) → Refuses e o → is_whole e ≡ true → ⊥
refused_whole OutOfMemory o refuses h = false≢true h
refused_whole WriteFailed o refuses h = false≢true h
refused_whole _ o refuses h = refuses

pub piece_cut : (s : KernelState) (piece : Bytes) (d d' : DecoderState) (k k' : KernelFields)
    (o o' : OutletState) (messages : Messages) (e : PeerFault) → Completes d piece messages d'
    → WrotePrefix o o' (outputs_from s messages) × Refuses e o'
    → FailedPiece s piece (served d k o) (served d' k' o') e
piece_cut s piece d d' k k' o o' messages e completes w = record {
  read = piece;
  unread = [];
  split = sym (append-nil piece);
  all = λ _. refl;
  messages = messages;
  completes = completes;
  front = w.0;
  whole = λ h. absurd (refused_whole e o' w.1 h);
  stops = stops_refused e (served d' k' o') w.1;
}

-- memory was wanting before the piece was read
pub piece_unread : (s : KernelState) (piece : Bytes) (d d' : DecoderState) (k : KernelFields)
    (o : OutletState) → d' ≡ d → IsWritable o → FailedPiece s piece (served d k o) (served d' k o) OutOfMemory
piece_unread s piece d d' k o same w = record {
  read = [];
  unread = piece;
  split = refl;
  all = λ other. absurd (other refl);
  messages = [];
  completes = subst (λ (x : DecoderState). Completes d [] [] x) (sym same) (completes_none d);
  front = began_none o [];
  whole = λ h. absurd (false≢true h);
  stops = w;
}

-- ---- ends

breaks_stop : (e : PeerFault) (k : InletState) (d : DecoderState) → Stops e k → d.fault ≡ None → Breaks e d
breaks_stop PeerEnded k d stops good = good
breaks_stop ReadFailed k d stops good = good
breaks_stop _ k d stops good = absurd stops

fails_stop : (e : PeerFault) (old k : InletState) → Stops e k → FailsBy e old k
fails_stop PeerEnded old k stops = tt
fails_stop ReadFailed old k stops = inl stops.1
fails_stop _ old k stops = absurd stops

-- all that was read was answered, and the end comes from reading
reached_end : (from from' : InletState) (to : OutletState) (now : Served) (reads : ℕ) (e : PeerFault)
    → Reached from from' to now reads → Breaks e now.decoder → Blames e from' now.server.outlet
    → FailsBy e from from' → Serves (connection from to) (connection from' now.server.outlet) e
reached_end from from' to now reads e r breaks blames fails = record {
  read = r.stream;
  unread = [];
  gave = gave_whole from from' r.stream r.gave;
  all = λ _. refl;
  messages = r.messages;
  spells = record { decoder = now.decoder; role = r.role; reads = r.read; breaks = breaks };
  front = record {
    begun = outputs_of r.messages;
    others = [];
    split = sym (append-nil (outputs_of r.messages));
    bytes = r.handshake ++ r.written;
    written =
        record {
          handshake = r.handshake;
          is_handshake = r.is_handshake;
          stream = r.written;
          is_stream = r.is_stream;
          spelled = refl;
        };
    front = front_all to.taken now.server.outlet.taken (r.handshake ++ r.written) r.took;
  };
  whole = λ _. record {
    bytes = r.handshake ++ r.written;
    written =
        record {
          handshake = r.handshake;
          is_handshake = r.is_handshake;
          stream = r.written;
          is_stream = r.is_stream;
          spelled = refl;
        };
    took = r.took;
  };
  blames = blames;
  fails_by = fails;
}

reached_later : (from from' from'' : InletState) (to : OutletState) (now : Served) (reads : ℕ)
    → Gave from' from'' [] → WasRead from' from'' 1 → Reached from from' to now reads
    → Reached from from'' to now (reads + 1)
reached_later from from' from'' to now reads g w r = record {
  stream = r.stream;
  gave = subst (λ (l : Bytes). Gave from from'' l) (append-nil r.stream)
      (told_on from.given from'.given from''.given r.stream [] r.gave g);
  was_read = counts_on from.reads from'.reads from''.reads reads 1 r.was_read w;
  messages = r.messages;
  read = r.read;
  role = r.role;
  good = r.good;
  represents = r.represents;
  handshake = r.handshake;
  is_handshake = r.is_handshake;
  written = r.written;
  is_stream = r.is_stream;
  took = r.took;
}

-- the reader ended or failed
pub ended_reading : (from from' from'' : InletState) (to : OutletState) (now : Served) (reads : ℕ)
    (e : PeerFault) → Gave from' from'' [] → WasRead from' from'' 1 → IsWritable now.server.outlet
    → Stops e from'' → Reached from from' to now reads
    → Serves (connection from to) (connection from'' now.server.outlet) e
ended_reading from from' from'' to now reads e g w writable stops r =
    reached_end from from'' to now (reads + 1) e (reached_later from from' from'' to now reads g w r)
    (breaks_stop e from'' now.decoder stops r.good) (blames_stop e from'' now.server.outlet stops writable)
    (fails_stop e from from'' stops)

-- as many reads were made as are counted
pub ended_most : (from from' : InletState) (to : OutletState) (now : Served) (reads : ℕ)
    → reads ≡ 2 ^ 64 - 1 → IsReadable from' → IsWritable now.server.outlet → Reached from from' to now reads
    → Serves (connection from to) (connection from' now.server.outlet) ReadFailed
ended_most from from' to now reads most readable writable r =
    reached_end from from' to now reads ReadFailed r r.good (readable.0, writable)
    (inr (subst (λ (n : ℕ). WasRead from from' n) most r.was_read))

breaks_piece : (e : PeerFault) (now : Served) → StopsBy e now → Breaks e now.decoder
breaks_piece (Wire cause) now stops = stops.0
breaks_piece OutOfMemory now stops = tt
breaks_piece WriteFailed now stops = tt
breaks_piece _ now stops = absurd stops

blames_piece : (e : PeerFault) (now : Served) (from : InletState) → StopsBy e now → IsReadable from
    → Blames e from now.server.outlet
blames_piece (Wire cause) now from stops readable = (readable, stops.1)
blames_piece OutOfMemory now from stops readable = (readable, stops)
blames_piece WriteFailed now from stops readable = (readable, stops)
blames_piece _ now from stops readable = absurd stops

fails_piece : (e : PeerFault) (now : Served) (old new : InletState) → StopsBy e now → FailsBy e old new
fails_piece (Wire cause) now old new stops = tt
fails_piece OutOfMemory now old new stops = tt
fails_piece WriteFailed now old new stops = tt
fails_piece _ now old new stops = absurd stops

-- the stream broke in a piece, or not all of what answers it was written
pub ended_piece : (from from' from'' : InletState) (to : OutletState) (now then : Served) (reads : ℕ)
    (piece : Bytes) (e : PeerFault) → Gave from' from'' piece → IsReadable from''
    → (r : Reached from from' to now reads)
    → FailedPiece (state_after_messages kernel_before_calls r.messages) piece now then e
    → Serves (connection from to) (connection from'' then.server.outlet) e
ended_piece from from' from'' to now then reads piece e g readable r f =
    let s = state_after_messages kernel_before_calls r.messages in
    let given : piece ≡ f.read ++ f.unread = f.split in
    let gave = told_on from.given from'.given from''.given r.stream piece r.gave g in
    let outputs : outputs_of (r.messages ++ f.messages) ≡ outputs_of r.messages ++ outputs_from s f.messages =
    outputs_on kernel_before_calls r.messages f.messages in
    record {
      read = r.stream ++ f.read;
      unread = f.unread;
      gave = subst (λ (l : Bytes). Gave from from'' l)
          (ap (λ (l : Bytes). r.stream ++ l) given ∙ sym (append_assoc r.stream f.read f.unread)) gave;
      all = f.all;
      messages = r.messages ++ f.messages;
      spells =
          record {
            decoder = then.decoder;
            role = f.completes.role ∙ r.role;
            reads = f.completes.represents r.stream r.messages r.read;
            breaks = breaks_piece e then f.stops;
          };
      front =
          record {
            begun = outputs_of r.messages ++ f.front.begun;
            others = f.front.others;
            split = outputs ∙ ap (λ l. outputs_of r.messages ++ l) f.front.split
                ∙ sym (append_assoc (outputs_of r.messages) f.front.begun f.front.others);
            bytes = (r.handshake ++ r.written) ++ f.front.bytes;
            written = spelled_on r.handshake r.written f.front.bytes _ _ r.is_handshake r.is_stream
                f.front.stream;
            front = front_on to.taken now.server.outlet.taken then.server.outlet.taken
                (r.handshake ++ r.written) f.front.bytes r.took f.front.front;
          };
      whole = λ h. let all = f.whole h in record {
        bytes = (r.handshake ++ r.written) ++ all.bytes;
        written = subst (λ l. IsWrittenAs l ((r.handshake ++ r.written) ++ all.bytes)) (sym outputs)
            (spelled_on r.handshake r.written all.bytes _ _ r.is_handshake r.is_stream all.stream);
        took = told_on to.taken now.server.outlet.taken then.server.outlet.taken (r.handshake ++ r.written)
            all.bytes r.took all.took;
      };
      blames = blames_piece e then from'' f.stops readable;
      fails_by = fails_piece e then from from'' f.stops;
    }

breaks_refused : (e : PeerFault) (o : OutletState) (d : DecoderState) → Refuses e o → Breaks e d
breaks_refused OutOfMemory o d refuses = tt
breaks_refused WriteFailed o d refuses = tt
breaks_refused _ o d refuses = absurd refuses

fails_refused : (e : PeerFault) (o : OutletState) (old new : InletState) → Refuses e o → FailsBy e old new
fails_refused OutOfMemory o old new refuses = tt
fails_refused WriteFailed o old new refuses = tt
fails_refused _ o old new refuses = absurd refuses

pub handshake_begun : (to to' : OutletState) → HandshakeWritten to to' Router → HandshakeBegun to to' Router
handshake_begun to to' w =
    record { handshake = w.handshake; is = w.is; front = front_all to.taken to'.taken w.handshake w.took }

-- not all of the handshake was written, or there was no memory for the kernel
pub ended_first : (from : InletState) (to to' : OutletState) (d : DecoderState) (e : PeerFault)
    → HasReadMessages d [] [] → d.role ≡ Router → IsReadable from → Refuses e to'
    → HandshakeBegun to to' Router → Serves (connection from to) (connection from to') e
ended_first from to to' d e h r readable refuses w = record {
  read = [];
  unread = [];
  gave = told_none from.given;
  all = λ _. refl;
  messages = [];
  spells = record { decoder = d; role = r; reads = h; breaks = breaks_refused e to' d refuses };
  front =
      record {
        begun = [];
        others = [];
        split = refl;
        bytes = w.handshake;
        written =
            record {
              handshake = w.handshake;
              is_handshake = w.is;
              stream = [];
              is_stream = no_outputs;
              spelled = sym (append-nil w.handshake);
            };
        front = w.front;
      };
  whole = λ h. absurd (refused_whole e to' refuses h);
  blames = blames_refused e from to' refuses readable;
  fails_by = fails_refused e to' from from refuses;
}
