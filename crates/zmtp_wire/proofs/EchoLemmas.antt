-- What was echoed, message by message and piece by piece.
use Rattle.std.proofs.Common.{◌≡◌, ℕ, ◌+◌, ◌≤◌, ◌<◌, inl, inr, true, List, [], ◌∷◌, ◌++◌, length, take}
use Rattle.std.proofs.Common.{drop, get_or, Option, Some, refl, sym, ap, ◌∙◌, subst, arith, append-nil}
use Rattle.std.proofs.Common.{append_assoc}
use Rattle.std.proofs.lemmas.List.{take_more, take-append-drop}
use Rattle.std.proofs.lemmas.Grind.{flat_map-append}
use Rattle.zmtp_wire.specs.declared.fault.StreamFault.{StreamFault}
use Rattle.zmtp_wire.specs.declared.role.Role.TheVariants.{Rep}
use Rattle.zmtp_wire.specs.Stream.{DecoderState, HasReadMessages, Completes}
use Rattle.zmtp_wire.specs.Writing.{message_bytes}
use Rattle.base_streams.specs.States.{InletState, OutletState, IsReadable}
use Rattle.base_streams.specs.Told.{Told, ToldPrefix, Gave, Took, TookPrefix, WasRead}
use Rattle.base_streams.proofs.TellLemmas.{told_on, counts_on, counts_none}
use Rattle.zmtp_wire.specs.declared.peer_fault.PeerFault.{PeerFault}
use Rattle.zmtp_wire.specs.declared.peer_fault.PeerFault.TheVariants.{OutOfMemory, ReadFailed, WriteFailed}
use Rattle.zmtp_wire.specs.declared.peer_fault.PeerFault.TheVariants.{Wire}
use Rattle.zmtp_wire.specs.Ends.{Ends, EndsReading, Explains, FailsBy, NoPeer, Stops, Refuses, Blames}
use Rattle.zmtp_wire.specs.Receiving.{Received, most_reads}
use Rattle.zmtp_wire.specs.declared.handshake.Peer.{Peer}
use Rattle.zmtp_wire.specs.Sending.{IsHandshakeOf, WrotePrefix, WroteWhole, messages_bytes, Echoes}
use Rattle.zmtp_wire.specs.Beating.{Conversation, EchoedPiece, EchoedRound, LostPiece, LostRound}
use Rattle.zmtp_wire.proofs.ReceivingLemmas.{explains_stop, failed_stop, gave_whole, most_at, most_below}
use Rattle.zmtp_wire.proofs.ReceivingLemmas.{most_is, peer_of, told_none}
use Rattle.zmtp_wire.proofs.SendingLemmas.{front_all, front_before, front_on}

pub bytes_on : (m n : List (List (List ℕ))) → messages_bytes (m ++ n) ≡ messages_bytes m ++ messages_bytes n
bytes_on m n = flat_map-append message_bytes m n

bytes_one : (m : List (List ℕ)) → messages_bytes (m ∷ []) ≡ message_bytes m
bytes_one m = append-nil (message_bytes m)

-- one message more was written
pub echo_on : (a b c : Option (List ℕ)) (items : List (List (List ℕ))) (i : ℕ) (m : List (List ℕ))
    → i < length items → m ≡ get_or items i m → Told a b (messages_bytes (take i items))
    → Told b c (message_bytes m) → Told a c (messages_bytes (take (i + 1) items))
echo_on a b c items i m fits e o p =
    let P : List ℕ → Type 0 = λ l. Told a c l in
    let bytes =
    ap (λ (l : List ℕ). messages_bytes (take i items) ++ l) (sym (bytes_one m))
    ∙ sym (bytes_on (take i items) (m ∷ [])) ∙ ap messages_bytes
    (ap (λ (y : List (List ℕ)). take i items ++ y ∷ []) e ∙ sym (take_more items i m fits)) in
    subst P bytes (told_on a b c (messages_bytes (take i items)) (message_bytes m) o p)

-- a prefix of one message more was written
pub echo_cut : (a b c : Option (List ℕ)) (items : List (List (List ℕ))) (i : ℕ) (m : List (List ℕ))
    → i < length items → m ≡ get_or items i m → Told a b (messages_bytes (take i items))
    → ToldPrefix b c (message_bytes m) → ToldPrefix a c (messages_bytes items)
echo_cut a b c items i m fits e o f =
    let P : List ℕ → Type 0 = λ l. ToldPrefix a c l in
    let bytes =
    ap (λ (l : List ℕ). messages_bytes (take i items) ++ l) (sym (bytes_one m))
    ∙ sym (bytes_on (take i items) (m ∷ [])) ∙ ap messages_bytes
    (ap (λ (y : List (List ℕ)). take i items ++ y ∷ []) e ∙ sym (take_more items i m fits)) in
    let whole =
    sym (bytes_on (take (i + 1) items) (drop (i + 1) items))
    ∙ ap messages_bytes (take-append-drop (i + 1) items) in
    subst P whole (front_before a c (messages_bytes (take (i + 1) items))
    (messages_bytes (drop (i + 1) items))
    (subst P bytes (front_on a b c (messages_bytes (take i items)) (message_bytes m) o f)))

-- a side completes nothing of no bytes
pub completes_none : (s : DecoderState) → Completes s [] [] s
completes_none s = record {
  role = refl;
  represents = λ stream messages k.
      let P : List ℕ → Type 0 = λ l. HasReadMessages s l (messages ++ []) in
      let Q : List (List (List ℕ)) → Type 0 = λ l. HasReadMessages s stream l in
      subst P (sym (append-nil stream)) (subst Q (sym (append-nil messages)) k);
}

-- the faults of a writer, or of memory
explains_refused : (fault : PeerFault) (to : OutletState) (s : DecoderState) → Refuses fault to
    → Explains fault s []
explains_refused OutOfMemory to s h = tt
explains_refused WriteFailed to s h = refl
explains_refused _ to s h = absurd h

fails_refused : (fault : PeerFault) (to : OutletState) (from : InletState) (n : ℕ) → Refuses fault to
    → FailsBy fault from n
fails_refused OutOfMemory to from n h = tt
fails_refused WriteFailed to from n h = tt
fails_refused _ to from n h = absurd h

failed_refused : (fault : PeerFault) (to : OutletState) (from : InletState) → Refuses fault to
    → fault ≡ ReadFailed → from.failed ≡ true
failed_refused OutOfMemory to from h e = absurd cc
failed_refused WriteFailed to from h e = absurd cc
failed_refused _ to from h e = absurd h

refused_reading : (fault : PeerFault) (to : OutletState) → Refuses fault to → EndsReading fault → ⊥
refused_reading OutOfMemory to h r = r
refused_reading WriteFailed to h r = r
refused_reading _ to h r = h

pub blames_refused : (fault : PeerFault) (from : InletState) (to : OutletState) → Refuses fault to
    → IsReadable from → Blames fault from to
blames_refused OutOfMemory from to h r = (r, h)
blames_refused WriteFailed from to h r = (r, h)
blames_refused _ from to h r = absurd h

abbrev pub conversation : InletState → DecoderState → OutletState → Conversation
conversation from s to = record { inlet = from; decoder = s; outlet = to }

-- memory was wanting before the side took the piece
pub piece_memory : (piece : List ℕ) (from : InletState) (s t : DecoderState) (to : OutletState) → t ≡ s
    → LostPiece piece (conversation from s to) (conversation from t to) OutOfMemory
piece_memory piece from s t to e =
    let P : DecoderState → Type 0 = λ (x : DecoderState). Completes s [] [] x in
    record {
      received = [];
      unreceived = piece;
      piece_is = refl;
      messages = [];
      completes = subst P (sym e) (completes_none s);
      explains = tt;
      failed = λ e. absurd cc;
      front = front_all to.taken to.taken [] (told_none to.taken);
      whole = λ r. absurd r;
    }

-- the writer failed, or memory was wanting, while the messages were written
pub piece_refused : (piece : List ℕ) (from : InletState) (s t : DecoderState) (to to' : OutletState)
    (messages : List (List (List ℕ))) (fault : PeerFault) → Completes s piece messages t → Refuses fault to'
    → TookPrefix to to' (messages_bytes messages)
    → LostPiece piece (conversation from s to) (conversation from t to') fault
piece_refused piece from s t to to' messages fault r h f = record {
  received = piece;
  unreceived = [];
  piece_is = sym (append-nil piece);
  messages = messages;
  completes = r;
  explains = explains_refused fault to' t h;
  failed = failed_refused fault to' from h;
  front = f;
  whole = λ e. absurd (refused_reading fault to' h e);
}

-- the stream is broken after the messages
pub piece_wire : (piece : List ℕ) (from : InletState) (s t : DecoderState) (to to' : OutletState)
    (messages : List (List (List ℕ))) (cause : StreamFault) → Completes s piece messages t
    → t.fault ≡ Some cause → Took to to' (messages_bytes messages)
    → LostPiece piece (conversation from s to) (conversation from t to') (Wire cause)
piece_wire piece from s t to to' messages cause r e o = record {
  received = piece;
  unreceived = [];
  piece_is = sym (append-nil piece);
  messages = messages;
  completes = r;
  explains = (refl, e);
  failed = λ x. absurd cc;
  front = front_all to.taken to'.taken (messages_bytes messages) o;
  whole = λ _. o;
}

-- the reader ended or failed
pub round_stop : (from from' : InletState) (s : DecoderState) (to : OutletState) (fault : PeerFault)
    → Gave from from' [] → WasRead from from' 1 → Stops fault from'
    → LostRound (conversation from s to) (conversation from' s to) fault
round_stop from from' s to fault o w h = record {
  piece = [];
  gave = o;
  was_read = w;
  lost = record {
    received = [];
    unreceived = [];
    piece_is = refl;
    messages = [];
    completes = completes_none s;
    explains = explains_stop fault from' s h;
    failed = failed_stop fault from' h;
    front = front_all to.taken to.taken [] (told_none to.taken);
    whole = λ _. told_none to.taken;
  };
}

-- what the reader gave wasn't echoed whole
pub round_lost : (from from' : InletState) (piece : List ℕ) (s t : DecoderState) (to to' : OutletState)
    (fault : PeerFault) → Gave from from' piece → WasRead from from' 1
    → ((x : InletState) → LostPiece piece (conversation x s to) (conversation x t to') fault)
    → LostRound (conversation from s to) (conversation from' t to') fault
round_lost from from' piece s t to to' fault o w lost = let l = lost from' in record {
  piece = piece;
  gave = o;
  was_read = w;
  lost = record {
    received = l.received;
    unreceived = l.unreceived;
    piece_is = l.piece_is;
    messages = l.messages;
    completes = l.completes;
    explains = l.explains;
    failed = l.failed;
    front = l.front;
    whole = l.whole;
  };
}

-- how far a heartbeat has come: all that was read was received, and its messages were written after the
-- handshake
pub record Beats (from from' : InletState) (to to' : OutletState) (decoder : DecoderState) (reads : ℕ)
    : Type 0 where
  pub messages : List (List (List ℕ))
  pub received : Received from from' (peer_of decoder messages reads)
  pub role : decoder.role ≡ Rep
  pub handshake : List ℕ
  pub is : IsHandshakeOf handshake Rep
  pub took : Took to to' (handshake ++ messages_bytes messages)

abbrev pub Ended : InletState → InletState → OutletState → OutletState → PeerFault → Type 0
Ended from from' to to' fault =
    (decoder : DecoderState) × (messages : List (List (List ℕ)))
    × Ends Rep from from' fault decoder messages × Echoes to to' decoder messages fault

-- the handshake gave no peer
pub ended_early : (from from' : InletState) (to to' : OutletState) (fault : PeerFault)
    → NoPeer Rep from from' fault → WrotePrefix to to' Rep → Ended from from' to to' fault
ended_early from from' to to' fault n w = (
  n.decoder,
  n.messages,
  n.ends,
  record {
    handshake = w.handshake;
    is = w.is;
    front = front_before to.taken to'.taken w.handshake (messages_bytes n.messages) w.front;
    whole = λ r t. absurd (n.unready r t);
  },
)

-- the messages that came with READY were written
pub beats_first : (from from' : InletState) (to t1 t2 : OutletState) (p : Peer)
    → p.decoder.role ≡ Rep → Received from from' p → WroteWhole to t1 Rep
    → Took t1 t2 (messages_bytes p.messages) → Beats from from' to t2 p.decoder p.reads
beats_first from from' to t1 t2 p e h w o = record {
  messages = p.messages;
  received = h;
  role = e;
  handshake = w.handshake;
  is = w.is;
  took = told_on to.taken t1.taken t2.taken w.handshake (messages_bytes p.messages) w.took o;
}

pub ended_first : (from from' : InletState) (to t1 t2 : OutletState) (p : Peer) (fault : PeerFault)
    → p.decoder.role ≡ Rep → Received from from' p → WroteWhole to t1 Rep → Refuses fault t2
    → TookPrefix t1 t2 (messages_bytes p.messages) → Ended from from' to t2 fault
ended_first from from' to t1 t2 p fault e h w r f = (
  p.decoder,
  p.messages,
  record {
    received = h.stream;
    unreceived = [];
    gave = gave_whole from from' h.stream h.gave;
    role_is = e;
    represents = h.represents;
    explains = explains_refused fault t2 p.decoder r;
    reads = p.reads;
    was_read = h.was_read;
    within = h.within;
    fails_by = fails_refused fault t2 from' p.reads r;
  },
  record {
    handshake = w.handshake;
    is = w.is;
    front = front_on to.taken t1.taken t2.taken w.handshake (messages_bytes p.messages) w.took f;
    whole = λ q. absurd (refused_reading fault t2 r q);
  },
)

wrote_on : (to t1 t2 : OutletState) (h : List ℕ) (m n : List (List (List ℕ)))
    → Took to t1 (h ++ messages_bytes m) → Took t1 t2 (messages_bytes n)
    → Took to t2 (h ++ messages_bytes (m ++ n))
wrote_on to t1 t2 h m n o p =
    let P : List ℕ → Type 0 = λ l. Took to t2 l in
    subst P (append_assoc h (messages_bytes m) (messages_bytes n)
    ∙ ap (λ (l : List ℕ). h ++ l) (sym (bytes_on m n)))
    (told_on to.taken t1.taken t2.taken (h ++ messages_bytes m) (messages_bytes n) o p)

wrote_front : (to t1 t2 : OutletState) (h : List ℕ) (m n : List (List (List ℕ)))
    → Took to t1 (h ++ messages_bytes m) → TookPrefix t1 t2 (messages_bytes n)
    → TookPrefix to t2 (h ++ messages_bytes (m ++ n))
wrote_front to t1 t2 h m n o p =
    let P : List ℕ → Type 0 = λ l. TookPrefix to t2 l in
    subst P (append_assoc h (messages_bytes m) (messages_bytes n)
    ∙ ap (λ (l : List ℕ). h ++ l) (sym (bytes_on m n)))
    (front_on to.taken t1.taken t2.taken (h ++ messages_bytes m) (messages_bytes n) o p)

-- one piece more
pub beats_piece : (from g1 g2 : InletState) (to t1 t2 : OutletState) (piece : List ℕ) (s t : DecoderState)
    (n c : ℕ) → n + c ≤ most_reads → Gave g1 g2 piece → WasRead g1 g2 c → EchoedPiece piece s t t1 t2
    → Beats from g1 to t1 s n → Beats from g2 to t2 t (n + c)
beats_piece from g1 g2 to t1 t2 piece s t n c fits o w p b =
    record {
      messages = b.messages ++ p.messages;
      received = record {
        stream = b.received.stream ++ piece;
        gave = told_on from.given g1.given g2.given b.received.stream piece b.received.gave o;
        represents = p.completes.represents b.received.stream b.messages b.received.represents;
        was_read = counts_on from.reads g1.reads g2.reads n c b.received.was_read w;
        within = fits;
      };
      role = p.completes.role ∙ b.role;
      handshake = b.handshake;
      is = b.is;
      took = wrote_on to t1 t2 b.handshake b.messages p.messages b.took p.took;
    }

-- of no bytes
pub beats_none : (from g1 : InletState) (to t1 t2 : OutletState) (s t : DecoderState) (n : ℕ)
    → EchoedPiece [] s t t1 t2 → Beats from g1 to t1 s n → Beats from g1 to t2 t n
beats_none from g1 to t1 t2 s t n p b =
    let B : ℕ → Type 0 = λ k. Beats from g1 to t2 t k in
    let same : n + 0 ≡ n = omega arith in
    let fits = b.received.within in
    subst B same (beats_piece from g1 g1 to t1 t2 [] s t n 0 (omega (arith, fits)) (told_none g1.given)
    (counts_none g1.reads) p b)

pub beats_round : (from g1 g2 : InletState) (to t1 t2 : OutletState) (s t : DecoderState) (n : ℕ)
    → n < 4294967295 → EchoedRound (conversation g1 s t1) (conversation g2 t t2) → Beats from g1 to t1 s n
    → Beats from g2 to t2 t (n + 1)
beats_round from g1 g2 to t1 t2 s t n left r b =
    beats_piece from g1 g2 to t1 t2 r.piece s t n 1 (most_below n left) r.gave r.was_read r.echoed b

fails_round : (fault : PeerFault) (from : InletState) (n : ℕ) → (fault ≡ ReadFailed → from.failed ≡ true)
    → FailsBy fault from n
fails_round ReadFailed from n f = inl (f refl)
fails_round _ from n f = tt

-- a piece ended it
ended_piece : (from g1 g2 : InletState) (to t1 t2 : OutletState) (s t : DecoderState) (piece : List ℕ)
    (n c : ℕ) (fault : PeerFault) → n + c ≤ most_reads → Gave g1 g2 piece → WasRead g1 g2 c
    → LostPiece piece (conversation g1 s t1) (conversation g2 t t2) fault
    → Beats from g1 to t1 s n → Ended from g2 to t2 fault
ended_piece from g1 g2 to t1 t2 s t piece n c fault fits o w l b =
    let P : List ℕ → Type 0 = λ x. Gave from g2 x in (
      t,
      b.messages ++ l.messages,
      record {
        received = b.received.stream ++ l.received;
        unreceived = l.unreceived;
        gave =
            subst P (ap (λ (x : List ℕ). b.received.stream ++ x) l.piece_is
            ∙ sym (append_assoc b.received.stream l.received l.unreceived))
            (told_on from.given g1.given g2.given b.received.stream piece b.received.gave o);
        role_is = l.completes.role ∙ b.role;
        represents = l.completes.represents b.received.stream b.messages b.received.represents;
        explains = l.explains;
        reads = n + c;
        was_read = counts_on from.reads g1.reads g2.reads n c b.received.was_read w;
        within = fits;
        fails_by = fails_round fault g2 (n + c) l.failed;
      },
      record {
        handshake = b.handshake;
        is = b.is;
        front = wrote_front to t1 t2 b.handshake b.messages l.messages b.took l.front;
        whole = λ e _. wrote_on to t1 t2 b.handshake b.messages l.messages b.took (l.whole e);
      },
    )

-- a round ended it, which could be made
pub ended_beat : (from g1 g2 : InletState) (to t1 t2 : OutletState) (s t : DecoderState) (n : ℕ)
    (fault : PeerFault) → n < 4294967295 → LostRound (conversation g1 s t1) (conversation g2 t t2) fault
    → Beats from g1 to t1 s n → Ended from g2 to t2 fault
ended_beat from g1 g2 to t1 t2 s t n fault left r b =
    ended_piece from g1 g2 to t1 t2 s t r.piece n 1 fault (most_below n left) r.gave r.was_read r.lost b

-- the piece of no bytes ended it
pub ended_none : (from g1 : InletState) (to t1 t2 : OutletState) (s t : DecoderState) (n : ℕ)
    (fault : PeerFault)
    → ((x : InletState) → LostPiece [] (conversation x s t1) (conversation x t t2) fault)
    → Beats from g1 to t1 s n → Ended from g1 to t2 fault
ended_none from g1 to t1 t2 s t n fault lost b =
    let fits = b.received.within in
    ended_piece from g1 g1 to t1 t2 s t [] n 0 fault (omega (arith, fits)) (told_none g1.given)
    (counts_none g1.reads) (lost g1) b

-- as many reads were made as a conversation may make
pub ended_most : (from g1 : InletState) (to t1 : OutletState) (s : DecoderState) (n : ℕ) → 4294967295 ≤ n
    → Beats from g1 to t1 s n → Ended from g1 to t1 ReadFailed
ended_most from g1 to t1 s n most b = let within = rw most_is at b.received.within in (
  s,
  b.messages,
  record {
    received = b.received.stream;
    unreceived = [];
    gave = gave_whole from g1 b.received.stream b.received.gave;
    role_is = b.role;
    represents = b.received.represents;
    explains = refl;
    reads = n;
    was_read = b.received.was_read;
    within = b.received.within;
    fails_by = inr (most_at n (omega (arith, most, within)));
  },
  record {
    handshake = b.handshake;
    is = b.is;
    front = front_all to.taken t1.taken (b.handshake ++ messages_bytes b.messages) b.took;
    whole = λ _ _. b.took;
  },
)
