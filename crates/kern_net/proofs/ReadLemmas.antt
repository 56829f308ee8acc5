-- From messages to pieces, and from pieces to a whole stream.
use Rattle.std.proofs.Common.{◌≡◌, ◌∙◌, ◌≤◌, ◌<◌, ◌+◌, ◌⊎◌, zero, suc, inl, inr, ℕ, true, false, List, []}
use Rattle.std.proofs.Common.{◌∷◌, ◌++◌, refl, sym, ap, subst, append_assoc, append-nil, arith}
use Rattle.base_streams.specs.States.{InletState, IsReadable}
use Rattle.base_streams.specs.Told.{Gave, WasRead}
use Rattle.base_streams.proofs.TellLemmas.{told_on, counts_on, counts_none}
use Rattle.zmtp_wire.specs.Stream.{DecoderState, HasReadMessages, Completes}
use Rattle.zmtp_wire.specs.declared.handshake.Peer.{Peer}
use Rattle.zmtp_wire.proofs.EchoLemmas.{completes_none}
use Rattle.zmtp_wire.proofs.ReceivingLemmas.{told_none, most_at, most_below, most_is}
use Rattle.zmtp_wire.specs.Receiving.{most_reads}
use Rattle.lab_turn.specs.History.{PassState}
use Rattle.kern_calls.specs.declared.call.Call.{Call}
use Rattle.kern_net.specs.declared.end.PumpEnd.{PumpEnd}
use Rattle.kern_net.specs.declared.end.PumpEnd.TheVariants as pump
use Rattle.kern_net.specs.Submitting.{Submits, NoMore, Submitted, Dropped}
use Rattle.kern_net.specs.Routes.{Source}
use Rattle.kern_net.specs.ReadEnds.{Reader, IsRefusal, StopsBy, StopsPiece, EndsBy, submits_all}
use Rattle.kern_net.specs.Reading.{TakesTurns, NoCall, OneMore, TakesTurnsUntil, SubmittedAll}
use Rattle.kern_net.specs.Reading.{SubmittedPrefix, Receiver, ReceivedAll, ReceivedPrefix, ReadOut}
use Rattle.kern_net.proofs.SubmitLemmas.{submitted_none, not_all}
use Rattle.kern_net.proofs.CallLemmas.{calls_on}

-- ---- ends

-- what comes after more calls comes after fewer
later : (e : PumpEnd) (old mid added : List Call) (pass : PassState Call) → mid ≡ old ++ added
    → StopsBy e mid pass → StopsBy e old pass
later (pump.Refused fault) old mid added pass is stops = record {
  before = stops.before;
  call = stops.call;
  earlier = added ++ stops.earlier;
  history = stops.history;
  own = calls_on old mid pass.calls added (stops.earlier ++ stops.call ∷ []) is stops.own
      ∙ ap (λ (l : List Call). old ++ l) (sym (append_assoc added stops.earlier (stops.call ∷ [])));
  answered = stops.answered;
}
later _ old mid added pass is stops = stops

later_piece : (e : PumpEnd) (old mid added : List Call) (pass : PassState Call) (decoder : DecoderState)
    → mid ≡ old ++ added
    → StopsPiece e mid pass decoder → StopsPiece e old pass decoder
later_piece (pump.Wire cause) old mid added pass decoder is stops = stops
later_piece e old mid added pass decoder is stops = later e old mid added pass is stops

pub stops_piece : (e : PumpEnd) (old : List Call) (pass : PassState Call) (decoder : DecoderState)
    → StopsBy e old pass → StopsPiece e old pass decoder
stops_piece (pump.Wire cause) old pass decoder stops = absurd stops
stops_piece _ old pass decoder stops = stops

ends_by : (e : PumpEnd) (old new : Reader) (decoder : DecoderState) (reads : ℕ)
    → IsReadable new.inlet → StopsPiece e old.pass.calls new.pass decoder → EndsBy e old new decoder reads
ends_by pump.PeerEnded old new decoder reads good stops = absurd stops
ends_by pump.ReadFailed old new decoder reads good stops = absurd stops
ends_by _ old new decoder reads good stops = (good, stops)

-- ---- what a side completes

completes_on : (s t u : DecoderState) (x y : List ℕ) (m n : List (List (List ℕ))) → Completes s x m t
    → Completes t y n u
    → Completes s (x ++ y) (m ++ n) u
completes_on s t u x y m n p q = record {
  role = q.role ∙ p.role;
  represents = λ stream messages k.
      let P : List ℕ → Type 0 = λ l. HasReadMessages u l (messages ++ (m ++ n)) in
      let Q : List (List (List ℕ)) → Type 0 = λ l. HasReadMessages u ((stream ++ x) ++ y) l in
      subst P (append_assoc stream x y) (subst Q (append_assoc messages m n)
      (q.represents (stream ++ x) (messages ++ m) (p.represents stream messages k)));
}

-- ---- calls

granted_on : (a b c : PassState Call) (x y : List Call) → TakesTurns a b x → TakesTurns b c y
    → TakesTurns a c (x ++ y)
granted_on a b c x y p NoCall =
    let P : List Call → Type 0 = λ l. TakesTurns a b l in subst P (sym (append-nil x)) p
granted_on a b c x y p (OneMore mid new calls call reply q turned) =
    let P : List Call → Type 0 = λ l. TakesTurns a c l in
    subst P (append_assoc x calls (call ∷ []))
    (OneMore mid c (x ++ calls) call reply (granted_on a b mid x calls p q) turned)

made_all : (old new : PassState Call) (added : List Call) (e : PumpEnd) → TakesTurns old new added
    → TakesTurnsUntil old new added e
made_all old new added e p =
    record { mid = new; granted = added; turns = p; onward = ([], append-nil new.seen); last = inl refl }

last_on : (x added granted : List Call) (e : PumpEnd)
    → (added ≡ granted) ⊎ (IsRefusal e × ((call : Call) × (added ≡ granted ++ call ∷ [])))
    → (x ++ added ≡ x ++ granted) ⊎
    (IsRefusal e × ((call : Call) × (x ++ added ≡ (x ++ granted) ++ call ∷ [])))
last_on x added granted e (inl same) = inl (ap (λ (l : List Call). x ++ l) same)
last_on x added granted e (inr (refusal, (call, is))) =
    inr (refusal, (call, ap (λ (l : List Call). x ++ l) is ∙ sym (append_assoc x granted (call ∷ []))))

made_on : (old mid new : PassState Call) (x y : List Call) (e : PumpEnd) → TakesTurns old mid x
    → TakesTurnsUntil mid new y e → TakesTurnsUntil old new (x ++ y) e
made_on old mid new x y e p m = record {
  mid = m.mid;
  granted = x ++ m.granted;
  turns = granted_on old mid m.mid x m.granted p m.turns;
  onward = m.onward;
  last = last_on x y m.granted e m.last;
}

-- ---- messages

submits_on : (source : Source) (a b : List (List (List ℕ))) (x y : List Call) → Submits source a x
    → Submits source b y
    → Submits source (a ++ b) (x ++ y)
submits_on source a b x y NoMore q = q
submits_on source a b x y (Submitted frames messages call calls submitted p) q =
    Submitted frames (messages ++ b) call (calls ++ y) submitted (submits_on source messages b calls y p q)
submits_on source a b x y (Dropped frames messages calls dropped p) q =
    Dropped frames (messages ++ b) (calls ++ y) dropped (submits_on source messages b calls y p q)

all_none : (source : Source) (old : PassState Call) → SubmittedAll source [] old old
all_none source old =
    record { added = []; submits = NoMore; calls = sym (append-nil old.calls); turns = NoCall }

-- all of these messages, then all of those
all_on : (source : Source) (m n : List (List (List ℕ))) (old mid new : PassState Call)
    → SubmittedAll source m old mid → SubmittedAll source n mid new → SubmittedAll source (m ++ n) old new
all_on source m n old mid new p q = record {
  added = p.added ++ q.added;
  submits = submits_on source m n p.added q.added p.submits q.submits;
  calls = calls_on old.calls mid.calls new.calls p.added q.added p.calls q.calls;
  turns = granted_on old mid new p.added q.added p.turns q.turns;
}

-- or a prefix of those
front_on : (source : Source) (m n : List (List (List ℕ))) (old mid new : PassState Call) (e : PumpEnd)
    → SubmittedAll source m old mid → SubmittedPrefix source n mid new e
    → SubmittedPrefix source (m ++ n) old new e
front_on source m n old mid new e p q = record {
  front = m ++ q.front;
  others = q.others;
  messages_are =
      ap (λ (l : List (List (List ℕ))). m ++ l) q.messages_are ∙ sym (append_assoc m q.front q.others);
  added = p.added ++ q.added;
  submits = submits_on source m q.front p.added q.added p.submits q.submits;
  calls = calls_on old.calls mid.calls new.calls p.added q.added p.calls q.calls;
  made = made_on old mid new p.added q.added e p.turns q.made;
  all = q.all;
}

-- a prefix of these messages is one of these and more
front_before : (source : Source) (m n : List (List (List ℕ))) (old new : PassState Call) (e : PumpEnd)
    → submits_all e ≡ false → SubmittedPrefix source m old new e → SubmittedPrefix source (m ++ n) old new e
front_before source m n old new e no_all p = record {
  front = p.front;
  others = p.others ++ n;
  messages_are = ap (λ (l : List (List (List ℕ))). l ++ n) p.messages_are ∙ append_assoc p.front p.others n;
  added = p.added;
  submits = p.submits;
  calls = p.calls;
  made = p.made;
  all = λ h. absurd cc;
}

front_whole : (source : Source) (m : List (List (List ℕ))) (old new : PassState Call) (e : PumpEnd)
    → SubmittedAll source m old new → SubmittedPrefix source m old new e
front_whole source m old new e p = record {
  front = m;
  others = [];
  messages_are = sym (append-nil m);
  added = p.added;
  submits = p.submits;
  calls = p.calls;
  made = made_all old new p.added e p.turns;
  all = λ _. refl;
}

-- all but the rest were submitted
pub record Coming (source : Source) (messages rest : List (List (List ℕ))) (old new : PassState Call)
    : Type 0 where
  pub done : List (List (List ℕ))
  pub split : messages ≡ done ++ rest
  pub submitted : SubmittedAll source done old new

pub coming_first : (source : Source) (messages rest : List (List (List ℕ))) (old : PassState Call)
    → rest ≡ messages → Coming source messages rest old old
coming_first source messages rest old e = record { done = []; split = sym e; submitted = all_none source old }

pub coming_on : (source : Source) (messages rest rest' : List (List (List ℕ))) (frames : List (List ℕ))
    (old mid new : PassState Call) → Coming source messages rest old mid → rest ≡ frames ∷ rest'
    → SubmittedAll source (frames ∷ []) mid new → Coming source messages rest' old new
coming_on source messages rest rest' frames old mid new p e q = record {
  done = p.done ++ frames ∷ [];
  split =
      p.split ∙ ap (λ (l : List (List (List ℕ))). p.done ++ l) e
      ∙ sym (append_assoc p.done (frames ∷ []) rest');
  submitted = all_on source p.done (frames ∷ []) old mid new p.submitted q;
}

pub coming_refused : (source : Source) (messages rest rest' : List (List (List ℕ)))
    (frames : List (List ℕ))
    (old mid new : PassState Call) (e : PumpEnd) → Coming source messages rest old mid → rest ≡ frames ∷ rest'
    → StopsBy e mid.calls new → SubmittedPrefix source (frames ∷ []) mid new e
    → SubmittedPrefix source messages old new e
coming_refused source messages rest rest' frames old mid new e p is stops q =
    let one = front_on source p.done (frames ∷ []) old mid new e p.submitted q in
    let no_all = not_all e mid.calls new stops in
    let all = front_before source (p.done ++ frames ∷ []) rest' old new e no_all one in
    let C : List (List (List ℕ)) → Type 0 = λ l. SubmittedPrefix source l old new e in
    subst C (append_assoc p.done (frames ∷ []) rest'
    ∙ sym (p.split ∙ ap (λ (l : List (List (List ℕ))). p.done ++ l) is)) all

pub coming_stops : (source : Source) (messages rest : List (List (List ℕ)))
    (old mid new : PassState Call)
    (e : PumpEnd) → Coming source messages rest old mid → StopsBy e mid.calls new → StopsBy e old.calls new
coming_stops source messages rest old mid new e p stops =
    later e old.calls mid.calls p.submitted.added new p.submitted.calls stops

pub coming_end : (source : Source) (messages rest : List (List (List ℕ))) (old new : PassState Call)
    → Coming source messages rest old new → rest ≡ [] → SubmittedAll source messages old new
coming_end source messages rest old new p e =
    let C : List (List (List ℕ)) → Type 0 = λ l. SubmittedAll source l old new in
    subst C (sym (p.split ∙ ap (λ (l : List (List (List ℕ))). p.done ++ l) e ∙ append-nil p.done)) p.submitted

-- ---- pieces

abbrev pub receiver : DecoderState → PassState Call → Receiver
receiver decoder pass = record { decoder = decoder; pass = pass }

pub receives_piece : (source : Source) (s t : DecoderState) (bytes : List ℕ)
    (messages : List (List (List ℕ)))
    (old new : PassState Call) → Completes s bytes messages t → SubmittedAll source messages old new
    → ReceivedAll source [] bytes (receiver s old) (receiver t new)
receives_piece source s t bytes messages old new reads submitted =
    record { messages = messages; reads = reads; submitted = submitted }

receives_whole : (source : Source) (held : List (List (List ℕ))) (bytes : List ℕ) (old new : Receiver)
    (e : PumpEnd) → ReceivedAll source held bytes old new → ReceivedPrefix source held bytes old new e
receives_whole source held bytes old new e h = record {
  taken = bytes;
  unread = [];
  messages = h.messages;
  bytes_are = sym (append-nil bytes);
  reads = h.reads;
  submitted = front_whole source (held ++ h.messages) old.pass new.pass e h.submitted;
  all = λ _. refl;
}

-- all was submitted, and the stream is broken after it
pub receives_broken : (source : Source) (s t : DecoderState) (bytes : List ℕ)
    (messages : List (List (List ℕ)))
    (old new : PassState Call) (e : PumpEnd) → Completes s bytes messages t
    → SubmittedAll source messages old new
    → ReceivedPrefix source [] bytes (receiver s old) (receiver t new) e
receives_broken source s t bytes messages old new e reads submitted =
    receives_whole source [] bytes (receiver s old) (receiver t new) e
    (receives_piece source s t bytes messages old new reads submitted)

receives_front : (source : Source) (s t : DecoderState) (held : List (List (List ℕ))) (bytes : List ℕ)
    (messages : List (List (List ℕ))) (old new : PassState Call) (e : PumpEnd) → Completes s bytes messages t
    → SubmittedPrefix source (held ++ messages) old new e
    → ReceivedPrefix source held bytes (receiver s old) (receiver t new) e
receives_front source s t held bytes messages old new e reads submitted = record {
  taken = bytes;
  unread = [];
  messages = messages;
  bytes_are = sym (append-nil bytes);
  reads = reads;
  submitted = submitted;
  all = λ _. refl;
}

pub receives_refused : (source : Source) (s t : DecoderState) (bytes : List ℕ)
    (messages : List (List (List ℕ)))
    (old new : PassState Call) (e : PumpEnd) → Completes s bytes messages t
    → SubmittedPrefix source messages old new e
    → ReceivedPrefix source [] bytes (receiver s old) (receiver t new) e
receives_refused source s t bytes messages old new e reads submitted =
    receives_front source s t [] bytes messages old new e reads submitted

-- the piece wasn't taken
pub receives_not : (source : Source) (s t : DecoderState) (bytes : List ℕ) (old : PassState Call)
    → t ≡ s
    → ReceivedPrefix source [] bytes (receiver s old) (receiver t old) pump.OutOfMemory
receives_not source s t bytes old decoder = record {
  taken = [];
  unread = bytes;
  messages = [];
  bytes_are = refl;
  reads = (let C : DecoderState → Type 0 = λ u. Completes s [] [] u in subst C (sym decoder)
      (completes_none s));
  submitted = submitted_none source [] old;
  all = λ h. absurd cc;
}

receives_held : (source : Source) (s : DecoderState) (held : List (List (List ℕ)))
    (old new : PassState Call)
    → SubmittedAll source held old new → ReceivedAll source held [] (receiver s old) (receiver s new)
receives_held source s held old new submitted = record {
  messages = [];
  reads = completes_none s;
  submitted =
      (let A : List (List (List ℕ)) → Type 0 = λ l. SubmittedAll source l old new in
      subst A (sym (append-nil held)) submitted);
}

front_held : (source : Source) (s : DecoderState) (held : List (List (List ℕ)))
    (old new : PassState Call)
    (e : PumpEnd) → SubmittedPrefix source held old new e
    → ReceivedPrefix source held [] (receiver s old) (receiver s new) e
front_held source s held old new e submitted =
    let A : List (List (List ℕ)) → Type 0 = λ l. SubmittedPrefix source l old new e in
    receives_front source s s held [] [] old new e (completes_none s)
    (subst A (sym (append-nil held)) submitted)

receives_on : (source : Source) (held : List (List (List ℕ))) (x y : List ℕ) (old mid new : Receiver)
    → ReceivedAll source held x old mid → ReceivedAll source [] y mid new
    → ReceivedAll source held (x ++ y) old new
receives_on source held x y old mid new p q =
    let A : List (List (List ℕ)) → Type 0 = λ l. SubmittedAll source l old.pass new.pass in
    record {
      messages = p.messages ++ q.messages;
      reads = completes_on old.decoder mid.decoder new.decoder x y p.messages q.messages p.reads q.reads;
      submitted =
          subst A (append_assoc held p.messages q.messages)
          (all_on source (held ++ p.messages) q.messages old.pass mid.pass new.pass p.submitted q.submitted);
    }

stops_on : (source : Source) (held : List (List (List ℕ))) (x y : List ℕ) (old mid new : Receiver)
    (e : PumpEnd) → ReceivedAll source held x old mid → ReceivedPrefix source [] y mid new e
    → ReceivedPrefix source held (x ++ y) old new e
stops_on source held x y old mid new e p q =
    let A : List (List (List ℕ)) → Type 0 = λ l. SubmittedPrefix source l old.pass new.pass e in
    record {
      taken = x ++ q.taken;
      unread = q.unread;
      messages = p.messages ++ q.messages;
      bytes_are = ap (λ (l : List ℕ). x ++ l) q.bytes_are ∙ sym (append_assoc x q.taken q.unread);
      reads = completes_on old.decoder mid.decoder new.decoder x q.taken p.messages q.messages p.reads
          q.reads;
      submitted =
          subst A (append_assoc held p.messages q.messages)
          (front_on source (held ++ p.messages) q.messages old.pass mid.pass new.pass e p.submitted
          q.submitted);
      all = q.all;
    }

-- ---- the stream

abbrev pub reader : InletState → PassState Call → Reader
reader inlet pass = record { inlet = inlet; pass = pass }

-- all that came in so many reads was submitted
pub record UnderWay (source : Source) (peer : Peer) (from from' : InletState) (old : PassState Call)
    (new : Receiver) (reads : ℕ) : Type 0 where
  pub bytes : List ℕ
  pub gave : Gave from from' bytes
  pub received : ReceivedAll source peer.messages bytes (receiver peer.decoder old) new
  pub was_read : WasRead from from' reads
  pub within : reads ≤ most_reads

none_read : 0 ≤ most_reads
none_read = omega arith

pub under_way : (source : Source) (peer : Peer) (from : InletState) (t : DecoderState)
    (old mid new : PassState Call)
    → SubmittedAll source peer.messages old mid
    → ReceivedAll source [] [] (receiver peer.decoder mid) (receiver t new)
    → UnderWay source peer from from old (receiver t new) 0
under_way source peer from t old mid new p q = record {
  bytes = [];
  gave = told_none from.given;
  received =
      receives_on source peer.messages [] [] (receiver peer.decoder old) (receiver peer.decoder mid)
      (receiver t new)
      (receives_held source peer.decoder peer.messages old mid p) q;
  was_read = counts_none from.reads;
  within = none_read;
}

pub under_way_on : (source : Source) (peer : Peer) (g h k : InletState) (t u : DecoderState) (reads : ℕ)
    (x : List ℕ) (old mid new : PassState Call) → UnderWay source peer g h old (receiver t mid) reads
    → Gave h k x → WasRead h k 1 → reads < 4294967295
    → ReceivedAll source [] x (receiver t mid) (receiver u new)
    → UnderWay source peer g k old (receiver u new) (reads + 1)
under_way_on source peer g h k t u reads x old mid new p told was left q =
    record {
      bytes = p.bytes ++ x;
      gave = told_on g.given h.given k.given p.bytes x p.gave told;
      received =
          receives_on source peer.messages p.bytes x (receiver peer.decoder old) (receiver t mid)
          (receiver u new)
          p.received q;
      was_read = counts_on g.reads h.reads k.reads reads 1 p.was_read was;
      within = most_below reads left;
    }

pub positive : (count : ℕ) → (count ≡ 0 → ⊥) → 0 < count
positive zero some = absurd (some refl)
positive (suc count) some = omega arith

-- refused in the messages that were held
pub held_refused : (source : Source) (peer : Peer) (from : InletState) (old new : PassState Call)
    (e : PumpEnd)
    → IsReadable from → StopsBy e old.calls new → SubmittedPrefix source peer.messages old new e
    → ReadOut source peer (reader from old) (reader from new) e
held_refused source peer from old new e good stops submitted = record {
  bytes = [];
  after = peer.decoder;
  gave = told_none from.given;
  received = front_held source peer.decoder peer.messages old new e submitted;
  reads = 0;
  was_read = counts_none from.reads;
  within = none_read;
  cause =
      ends_by e (reader from old) (reader from new) peer.decoder 0 good
      (stops_piece e old.calls new peer.decoder stops);
}

-- stopped at a fault behind READY
pub stopped_first : (source : Source) (peer : Peer) (from : InletState) (t : DecoderState)
    (old mid new : PassState Call) (e : PumpEnd) → IsReadable from → SubmittedAll source peer.messages old mid
    → StopsPiece e mid.calls new t
    → ReceivedPrefix source [] [] (receiver peer.decoder mid) (receiver t new) e
    → ReadOut source peer (reader from old) (reader from new) e
stopped_first source peer from t old mid new e good p stops q = record {
  bytes = [];
  after = t;
  gave = told_none from.given;
  received =
      stops_on source peer.messages [] [] (receiver peer.decoder old) (receiver peer.decoder mid)
      (receiver t new) e
      (receives_held source peer.decoder peer.messages old mid p) q;
  reads = 0;
  was_read = counts_none from.reads;
  within = none_read;
  cause =
      ends_by e (reader from old) (reader from new) t 0 good
      (later_piece e old.calls mid.calls p.added new t p.calls stops);
}

-- stopped in a piece
pub stopped : (source : Source) (peer : Peer) (g h k : InletState) (t u : DecoderState) (reads : ℕ)
    (x : List ℕ)
    (old mid new : PassState Call) (e : PumpEnd) → UnderWay source peer g h old (receiver t mid) reads
    → Gave h k x → WasRead h k 1 → reads < 4294967295 → IsReadable k → StopsPiece e mid.calls new u
    → ReceivedPrefix source [] x (receiver t mid) (receiver u new) e
    → ReadOut source peer (reader g old) (reader k new) e
stopped source peer g h k t u reads x old mid new e p told was left good stops q = record {
  bytes = p.bytes ++ x;
  after = u;
  gave = told_on g.given h.given k.given p.bytes x p.gave told;
  received =
      stops_on source peer.messages p.bytes x (receiver peer.decoder old) (receiver t mid) (receiver u new) e
      p.received q;
  reads = reads + 1;
  was_read = counts_on g.reads h.reads k.reads reads 1 p.was_read was;
  within = most_below reads left;
  cause =
      ends_by e (reader g old) (reader k new) u (reads + 1) good
      (later_piece e old.calls mid.calls p.received.submitted.added new u p.received.submitted.calls stops);
}

gave_more : (g h k : InletState) (x : List ℕ) → Gave g h x → Gave h k [] → Gave g k x
gave_more g h k x p q =
    let T : List ℕ → Type 0 = λ l. Gave g k l in
    subst T (append-nil x) (told_on g.given h.given k.given x [] p q)

-- one read more gave nothing, and reading ended so
ends_there : (source : Source) (peer : Peer) (g h k : InletState) (t : DecoderState) (reads : ℕ)
    (old new : PassState Call) (e : PumpEnd) → UnderWay source peer g h old (receiver t new) reads
    → Gave h k [] → WasRead h k 1 → reads < 4294967295
    → EndsBy e (reader g old) (reader k new) t (reads + 1)
    → ReadOut source peer (reader g old) (reader k new) e
ends_there source peer g h k t reads old new e p told was left cause = record {
  bytes = p.bytes;
  after = t;
  gave = gave_more g h k p.bytes p.gave told;
  received = receives_whole source peer.messages p.bytes (receiver peer.decoder old) (receiver t new) e
      p.received;
  reads = reads + 1;
  was_read = counts_on g.reads h.reads k.reads reads 1 p.was_read was;
  within = most_below reads left;
  cause = cause;
}

pub ended_there : (source : Source) (peer : Peer) (g h k : InletState) (t : DecoderState) (reads : ℕ)
    (old new : PassState Call) → UnderWay source peer g h old (receiver t new) reads → Gave h k []
    → WasRead h k 1 → reads < 4294967295 → k.ended ≡ true → k.failed ≡ false
    → ReadOut source peer (reader g old) (reader k new) pump.PeerEnded
ended_there source peer g h k t reads old new p told was left end good =
    ends_there source peer g h k t reads old new pump.PeerEnded p told was left (end, good)

pub failed_there : (source : Source) (peer : Peer) (g h k : InletState) (t : DecoderState) (reads : ℕ)
    (old new : PassState Call) → UnderWay source peer g h old (receiver t new) reads → Gave h k []
    → WasRead h k 1 → reads < 4294967295 → k.ended ≡ false → k.failed ≡ true
    → ReadOut source peer (reader g old) (reader k new) pump.ReadFailed
failed_there source peer g h k t reads old new p told was left on bad =
    ends_there source peer g h k t reads old new pump.ReadFailed p told was left (on, inl bad)

pub read_enough : (source : Source) (peer : Peer) (g h : InletState) (t : DecoderState) (reads : ℕ)
    (old new : PassState Call) → UnderWay source peer g h old (receiver t new) reads → 4294967295 ≤ reads
    → IsReadable h → ReadOut source peer (reader g old) (reader h new) pump.ReadFailed
read_enough source peer g h t reads old new p enough good =
    let within = rw most_is at p.within in
    record {
      bytes = p.bytes;
      after = t;
      gave = p.gave;
      received =
          receives_whole source peer.messages p.bytes (receiver peer.decoder old) (receiver t new)
          pump.ReadFailed
          p.received;
      reads = reads;
      was_read = p.was_read;
      within = p.within;
      cause = (good.0, inr (good.1, most_at reads (omega (arith, enough, within))));
    }

-- ---- for the goals of each function

pub ruleset comings = (coming_first, coming_on, coming_refused, coming_end)

pub ruleset receivings = (receives_piece, receives_broken, receives_refused, receives_not, stops_piece)
