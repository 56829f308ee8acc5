-- How a cell goes, message by message.
use Rattle.std.proofs.Common.{◌≡◌, ℕ, Bool, true, false, ◌&&◌, ◌||◌, if◌then◌else◌, List, [], ◌∷◌, ◌++◌, refl}
use Rattle.std.proofs.Common.{sym, ap, ◌∙◌, subst, append-nil, append_assoc, ◌+◌, ◌<◌}
use Rattle.base_streams.specs.States.{InletState, OutletState, IsWritable}
use Rattle.base_streams.specs.Told.{Gave, Took, TookPrefix, WasRead}
use Rattle.base_streams.proofs.TellLemmas.{told_on, counts_on}
use Rattle.zmtp_wire.proofs.ReceivingLemmas.{told_none, most_below}
use Rattle.zmtp_wire.proofs.SendingLemmas.{front_all, front_on}
use Rattle.lab_term.specs.declared.fault.TermFault.{TermFault}
use Rattle.lab_term.specs.declared.fault.TermFault.TheVariants.{OutOfMemory, WriteFailed, Wire}
use Rattle.lab_term.specs.declared.fault.WireCause.TheVariants.{Message}
use Rattle.lab_term.specs.declared.follow.Course.{Course}
use Rattle.lab_term.specs.Events.{Notice, IsNotice, IsUnopened, AreNotices, NoNotice, is_of, is_error}
use Rattle.lab_term.specs.Events.{is_idle, is_status, text_of, text_shown, text_printed, has_error, ends}
use Rattle.zmtp_wire.specs.Stream.{DecoderState, HasReadMessages, Completes}
use Rattle.zmtp_wire.specs.Writing.{message_bytes}
use Rattle.zmtp_wire.specs.declared.role.Role.TheVariants.{Dealer, Sub}
use Rattle.zmtp_wire.specs.Sending.{WroteWhole}
use Rattle.lab_term.specs.declared.cell.Cell.{Cell}
use Rattle.lab_term.specs.declared.cell.CellEnd.{CellEnd}
use Rattle.lab_term.specs.Connections.{Ports, Client}
use Rattle.lab_term.specs.Running.{Followed, Requested, Began, Ran, parent_of, printing, subscription}
use Rattle.lab_term.specs.Running.{end_by, cell_end}
use Rattle.zmtp_wire.specs.declared.handshake.Peer.{Peer}
use Rattle.zmtp_wire.specs.Receiving.{Received}
use Rattle.lab_term.specs.declared.subscriber.Subscriber.{Subscriber}
use Rattle.lab_term.specs.Reading.{Holds, Waited}
use Rattle.lab_term.specs.Courses.{Parent, HasNo, EndsIn, EndsInStatus, StopsAt, StopsIn, Passes, Takes}
use Rattle.lab_term.specs.Courses.{TakesOne, Cut}
use Rattle.lab_term.proofs.EventLemmas.{notices_more, notice_one, printed_more, printed_one, error_more}
use Rattle.lab_term.proofs.EventLemmas.{idle_text, none_more, none_one}

-- ---- one message

pub one_other : (parent : Parent) (frames : List (List ℕ)) (out : OutletState) (n : Notice)
    (course : Course) → IsNotice parent.key frames n → is_of parent.header n ≡ false → course.is_idle ≡ false
    → course.has_failed ≡ false → TakesOne parent frames out out course
one_other parent frames out n course is e i f =
    let P : Bool → Type 0 = λ b. Took out out (if b then text_of n else []) in
    record {
      notice = n;
      is = is;
      wrote = subst P (sym e) (told_none out.taken);
      failed = f ∙ sym (ap (λ (b : Bool). b && is_error n) e);
      idle = i ∙ sym (ap (λ (b : Bool). b && is_idle n) e);
    }

pub one_own : (parent : Parent) (frames : List (List ℕ)) (out out' : OutletState) (n : Notice)
    (course : Course) → IsNotice parent.key frames n → is_of parent.header n ≡ true
    → Took out out' (text_of n)
    → course.is_idle ≡ is_idle n → course.has_failed ≡ is_error n → TakesOne parent frames out out' course
one_own parent frames out out' n course is e o i f =
    let P : Bool → Type 0 = λ b. Took out out' (if b then text_of n else []) in
    record {
      notice = n;
      is = is;
      wrote = subst P (sym e) o;
      failed = f ∙ sym (ap (λ (b : Bool). b && is_error n) e);
      idle = i ∙ sym (ap (λ (b : Bool). b && is_idle n) e);
    }

pub one_idle : (parent : Parent) (frames : List (List ℕ)) (out : OutletState) (n : Notice)
    (course : Course) → IsNotice parent.key frames n → is_of parent.header n ≡ true → is_idle n ≡ true
    → course.is_idle ≡ true → course.has_failed ≡ is_error n → TakesOne parent frames out out course
one_idle parent frames out n course is e d i f =
    let P : List ℕ → Type 0 = λ l. Took out out l in
    one_own parent frames out out n course is e (subst P (sym (idle_text n d)) (told_none out.taken))
    (i ∙ sym d) f

stops_unopened : (key : List ℕ) (frames : List (List ℕ)) (rest : List (List (List ℕ))) (to : OutletState)
    (fault : TermFault) → IsWritable to → IsUnopened key frames fault
    → StopsAt key (frames ∷ rest) to fault
stops_unopened key frames rest to OutOfMemory e u = e
stops_unopened key frames rest to (Wire (Message cause)) e u = (e, frames, rest, refl, u)
stops_unopened key frames rest to _ e u = absurd u

pub cut_unopened : (parent : Parent) (frames : List (List ℕ)) (rest : List (List (List ℕ)))
    (out : OutletState) (fault : TermFault) → IsWritable out → IsUnopened parent.key frames fault
    → Cut parent (frames ∷ rest) out out fault
cut_unopened parent frames rest out fault e u = record {
  taken = [];
  others = frames ∷ rest;
  queue_is = refl;
  notices = [];
  are = NoNotice;
  busy = refl;
  wrote = front_all out.taken out.taken [] (told_none out.taken);
  stops = stops_unopened parent.key frames rest out fault e u;
}

stops_any : (key : List ℕ) (others : List (List (List ℕ))) (to : OutletState) (fault : TermFault)
    → StopsAt [] [] to fault → StopsAt key others to fault
stops_any key others to OutOfMemory s = s
stops_any key others to WriteFailed s = s
stops_any key others to (Wire (Message cause)) s = absurd (let e = s.3 in cc)
stops_any key others to _ s = absurd s

pub cut_printing : (parent : Parent) (frames : List (List ℕ)) (out out' : OutletState) (n : Notice)
    (fault : TermFault) → IsNotice parent.key frames n → is_of parent.header n ≡ true
    → is_idle n ≡ false
    → TookPrefix out out' (text_of n) → StopsAt [] [] out' fault
    → Cut parent (frames ∷ []) out out' fault
cut_printing parent frames out out' n fault is e d f s =
    let P : Bool → Type 0 = λ b. TookPrefix out out' (if b then text_of n else []) in
    let Q : List ℕ → Type 0 = λ l. TookPrefix out out' l in
    record {
      taken = frames ∷ [];
      others = [];
      queue_is = refl;
      notices = n ∷ [];
      are = notice_one parent.key frames n is;
      busy = none_one (ends parent.header) n (ap (λ (b : Bool). b && is_idle n) e ∙ d);
      wrote = subst Q (sym (printed_one parent.header n)) (subst P (sym e) f);
      stops = stops_any parent.key [] out' fault s;
    }

-- the lemmas on taking one message
pub ruleset one_message = (one_other, one_own, one_idle, cut_unopened, cut_printing)

-- ---- many

-- the messages before the rest of the queue were taken, and none of them was the request's idle
pub record Going (parent : Parent) (queue queue' : List (List (List ℕ))) (out out' : OutletState)
    (failed : Bool) : Type 0 where
  pub taken : List (List (List ℕ))
  pub queue_is : queue ≡ taken ++ queue'
  pub notices : List Notice
  pub are : AreNotices parent.key taken notices
  pub wrote : Took out out' (text_printed parent.header notices)
  pub failed_is : failed ≡ has_error parent.header notices

going_first : (parent : Parent) (queue : List (List (List ℕ))) (out : OutletState) (failed : Bool)
    → failed ≡ false → Going parent queue queue out out failed
going_first parent queue out failed e = record {
  taken = [];
  queue_is = refl;
  notices = [];
  are = NoNotice;
  wrote = told_none out.taken;
  failed_is = e;
}

-- and none of them was the request's idle
pub record Busy (parent : Parent) (queue queue' : List (List (List ℕ))) (out out' : OutletState)
    (failed : Bool) : Type 0 where
  pub going : Going parent queue queue' out out' failed
  pub busy : HasNo (ends parent.header) going.notices

pub busy_first : (parent : Parent) (queue : List (List (List ℕ))) (out : OutletState) (failed : Bool)
    → failed ≡ false → Busy parent queue queue out out failed
unfolding going_first
busy_first parent queue out failed e = record { going = going_first parent queue out failed e; busy = refl }

or_false : (b : Bool) → b || false ≡ b
or_false true = refl
or_false false = refl

going_on : (parent : Parent) (q q1 q2 : List (List (List ℕ))) (frames : List (List ℕ))
    (out o1 o2 : OutletState) (failed : Bool) (next : Course) → q1 ≡ frames ∷ q2
    → Going parent q q1 out o1 failed → TakesOne parent frames o1 o2 next
    → Going parent q q2 out o2 (failed || next.has_failed)
going_on parent q q1 q2 frames out o1 o2 failed next e p t =
    let P : List ℕ → Type 0 = λ l. Took out o2 l in
    let one : has_error parent.header (t.notice ∷ []) ≡ next.has_failed =
    or_false (is_of parent.header t.notice && is_error t.notice) ∙ sym t.failed in
    record {
      taken = p.taken ++ frames ∷ [];
      queue_is =
          p.queue_is ∙ ap (λ (l : List (List (List ℕ))). p.taken ++ l) e
          ∙ sym (append_assoc p.taken (frames ∷ []) q2);
      notices = p.notices ++ t.notice ∷ [];
      are =
          notices_more parent.key p.taken (frames ∷ []) p.notices (t.notice ∷ []) p.are
          (notice_one parent.key frames t.notice t.is);
      wrote =
          subst P (ap (λ (l : List ℕ). text_printed parent.header p.notices ++ l)
          (sym (printed_one parent.header t.notice))
          ∙ sym (printed_more parent.header p.notices (t.notice ∷ [])))
          (told_on out.taken o1.taken o2.taken (text_printed parent.header p.notices)
          (text_shown parent.header t.notice) p.wrote t.wrote);
      failed_is =
          ap (λ (b : Bool). b || next.has_failed) p.failed_is
          ∙ ap (λ (b : Bool). has_error parent.header p.notices || b) (sym one)
          ∙ sym (error_more parent.header p.notices (t.notice ∷ []));
    }

busy_on : (parent : Parent) (q q1 q2 : List (List (List ℕ))) (frames : List (List ℕ))
    (out o1 o2 : OutletState) (failed : Bool) (next : Course) → next.is_idle ≡ false → q1 ≡ frames ∷ q2
    → Busy parent q q1 out o1 failed → TakesOne parent frames o1 o2 next
    → Busy parent q q2 out o2 (failed || next.has_failed)
unfolding going_on
busy_on parent q q1 q2 frames out o1 o2 failed next i e p t = record {
  going = going_on parent q q1 q2 frames out o1 o2 failed next e p.going t;
  busy =
      none_more (ends parent.header) p.going.notices (t.notice ∷ []) p.busy
      (none_one (ends parent.header) t.notice (sym t.idle ∙ i));
}

pub busy_by : (parent : Parent) (q q1 q2 : List (List (List ℕ))) (frames : List (List ℕ))
    (out o1 o2 : OutletState) (failed total : Bool) (next : Course) → total ≡ failed || next.has_failed
    → next.is_idle ≡ false
    → q1 ≡ frames ∷ q2 → Busy parent q q1 out o1 failed → TakesOne parent frames o1 o2 next
    → Busy parent q q2 out o2 total
busy_by parent q q1 q2 frames out o1 o2 failed total next is i e p t =
    let P : Bool → Type 0 = λ b. Busy parent q q2 out o2 b in
    subst P (sym is) (busy_on parent q q1 q2 frames out o1 o2 failed next i e p t)

pub takes_idle : (parent : Parent) (q q1 q2 : List (List (List ℕ))) (frames : List (List ℕ))
    (out o1 o2 : OutletState) (failed : Bool) (next course : Course) → q1 ≡ frames ∷ q2
    → Busy parent q q1 out o1 failed → TakesOne parent frames o1 o2 next → next.is_idle ≡ true
    → course.is_idle ≡ true → course.has_failed ≡ failed || next.has_failed
    → Takes parent q q2 out o2 course
unfolding going_on
takes_idle parent q q1 q2 frames out o1 o2 failed next course e p t i j f =
    let g = going_on parent q q1 q2 frames out o1 o2 failed next e p.going t in
    record {
      taken = g.taken;
      queue_is = g.queue_is;
      notices = g.notices;
      are = g.are;
      wrote = g.wrote;
      failed = f ∙ g.failed_is;
      idle = λ _. record {
        before = p.going.notices;
        last = t.notice;
        are = refl;
        first = p.busy;
        is = sym t.idle ∙ i;
      };
      busy = λ h. absurd cc;
      all = λ h. absurd cc;
    }

pub takes_all : (parent : Parent) (q q1 : List (List (List ℕ))) (out o1 : OutletState)
    (course : Course) → q1 ≡ [] → course.is_idle ≡ false → Busy parent q q1 out o1 course.has_failed
    → Takes parent q q1 out o1 course
takes_all parent q q1 out o1 course e i b = let g = b.going in record {
  taken = g.taken;
  queue_is = g.queue_is;
  notices = g.notices;
  are = g.are;
  wrote = g.wrote;
  failed = g.failed_is;
  idle = λ h. absurd cc;
  busy = λ _. b.busy;
  all = λ _. e;
}

stops_before : (key : List ℕ) (others more : List (List (List ℕ))) (to : OutletState) (fault : TermFault)
    → StopsAt key others to fault → StopsAt key (others ++ more) to fault
stops_before key others more to OutOfMemory s = s
stops_before key others more to WriteFailed s = s
stops_before key others more to (Wire (Message cause)) s =
    (s.0, s.1, s.2 ++ more, ap (λ (l : List (List (List ℕ))). l ++ more) s.3, s.4)
stops_before key others more to _ s = absurd s

-- cut after what was taken before
pub going_cut : (parent : Parent) (q q1 q2 front : List (List (List ℕ))) (out o1 o2 : OutletState)
    (failed : Bool) (fault : TermFault) → q1 ≡ front ++ q2 → Busy parent q q1 out o1 failed
    → Cut parent front o1 o2 fault → Cut parent q out o2 fault
going_cut parent q q1 q2 front out o1 o2 failed fault e b c =
    let p = b.going in
    let P : List ℕ → Type 0 = λ l. TookPrefix out o2 l in
    record {
      taken = p.taken ++ c.taken;
      others = c.others ++ q2;
      queue_is =
          p.queue_is ∙ ap (λ (l : List (List (List ℕ))). p.taken ++ l)
          (e ∙ ap (λ (l : List (List (List ℕ))). l ++ q2) c.queue_is ∙ append_assoc c.taken c.others q2)
          ∙ sym (append_assoc p.taken c.taken (c.others ++ q2));
      notices = p.notices ++ c.notices;
      are = notices_more parent.key p.taken c.taken p.notices c.notices p.are c.are;
      busy = none_more (ends parent.header) p.notices c.notices b.busy c.busy;
      wrote =
          subst P (sym (printed_more parent.header p.notices c.notices))
          (front_on out.taken o1.taken o2.taken (text_printed parent.header p.notices)
          (text_printed parent.header c.notices) p.wrote c.wrote);
      stops = stops_before parent.key c.others q2 o2 fault c.stops;
    }

-- the lemmas on taking the messages of a queue
pub ruleset many_messages = (busy_first, takes_idle, takes_all, going_cut)

-- what stopped, as far as the messages go
pub stops_by : (parent : Parent) (queue : List (List (List ℕ))) (out out' : OutletState) (fault : TermFault)
    → Cut parent queue out out' fault → StopsIn parent.key queue out' fault
stops_by parent queue out out' fault c = record {
  taken = c.taken;
  others = c.others;
  queue_is = c.queue_is;
  notices = c.notices;
  are = c.are;
  stops = c.stops;
}

-- ---- up to a status

-- the messages before the rest of the queue were looked at, and none of them told a status
pub record Passing (key : List ℕ) (queue queue' : List (List (List ℕ))) : Type 0 where
  pub passes : Passes key queue queue'
  pub none : HasNo is_status passes.notices

pub passing_first : (key : List ℕ) (queue : List (List (List ℕ))) → Passing key queue queue
passing_first key queue =
    record { passes = record { taken = []; queue_is = refl; notices = []; are = NoNotice }; none = refl }

passes_on : (key : List ℕ) (q q1 q2 : List (List (List ℕ))) (frames : List (List ℕ)) (n : Notice)
    → q1 ≡ frames ∷ q2 → Passes key q q1 → IsNotice key frames n → Passes key q q2
passes_on key q q1 q2 frames n e p is = record {
  taken = p.taken ++ frames ∷ [];
  queue_is =
      p.queue_is ∙ ap (λ (l : List (List (List ℕ))). p.taken ++ l) e
      ∙ sym (append_assoc p.taken (frames ∷ []) q2);
  notices = p.notices ++ n ∷ [];
  are = notices_more key p.taken (frames ∷ []) p.notices (n ∷ []) p.are (notice_one key frames n is);
}

pub passing_on : (key : List ℕ) (q q1 q2 : List (List (List ℕ))) (frames : List (List ℕ)) (n : Notice)
    → q1 ≡ frames ∷ q2 → Passing key q q1 → IsNotice key frames n → is_status n ≡ false → Passing key q q2
unfolding passes_on
passing_on key q q1 q2 frames n e p is s = record {
  passes = passes_on key q q1 q2 frames n e p.passes is;
  none = none_more is_status p.passes.notices (n ∷ []) p.none (none_one is_status n s);
}

-- what was looked at where a status was found, and where none was
abbrev pub Found : List ℕ → List (List (List ℕ)) → List (List (List ℕ)) → Bool → Type 0
Found key q q' found =
    (p : Passes key q q') × (found ≡ true → EndsInStatus p.notices)
    × (found ≡ false → HasNo is_status p.notices)

pub passes_status : (key : List ℕ) (q q1 q2 : List (List (List ℕ))) (frames : List (List ℕ)) (n : Notice)
    → q1 ≡ frames ∷ q2 → Passing key q q1 → IsNotice key frames n → is_status n ≡ true → Found key q q2 true
unfolding passes_on
passes_status key q q1 q2 frames n e p is s = (
  passes_on key q q1 q2 frames n e p.passes is,
  λ _. record { before = p.passes.notices; last = n; are = refl; first = p.none; is = s },
  λ h. absurd cc,
)

pub passes_all : (key : List ℕ) (q q1 q2 : List (List (List ℕ))) → q1 ≡ q2 → Passing key q q1
    → Found key q q2 false
passes_all key q q1 q2 e p =
    let P : List (List (List ℕ)) → Type 0 = λ l. Found key q l false in
    subst P e (p.passes, λ h. absurd cc, λ _. p.none)

pub passing_cut : (key : List ℕ) (q q1 q2 : List (List (List ℕ))) (frames : List (List ℕ))
    (out : OutletState) (fault : TermFault) → q1 ≡ frames ∷ q2 → Passing key q q1
    → IsUnopened key frames fault → IsWritable out → StopsIn key q out fault
passing_cut key q q1 q2 frames out fault e g u w = let p = g.passes in record {
  taken = p.taken;
  others = frames ∷ q2;
  queue_is = p.queue_is ∙ ap (λ (l : List (List (List ℕ))). p.taken ++ l) e;
  notices = p.notices;
  are = p.are;
  stops = stops_unopened key frames q2 out fault w u;
}

-- ---- piece by piece

-- the messages up to the subscriber's queue were looked at, and none of them told a status
pub record Waiting (key : List ℕ) (given given' : InletState) (s : Subscriber) : Type 0 where
  pub passed : List (List (List ℕ))
  pub holds : Holds given given' s passed
  pub notices : List Notice
  pub are : AreNotices key passed notices
  pub none : HasNo is_status notices

-- all but the queue is as it was
abbrev pub SameReading : Subscriber → Subscriber → Type 0
SameReading s t = (t.decoder ≡ s.decoder) × (t.broken ≡ s.broken) × (t.reads ≡ s.reads)

-- part of the queue was looked at
pub holds_passed : (given given' : InletState) (s t : Subscriber) (passed taken : List (List (List ℕ)))
    → SameReading s t → s.queue.items ≡ taken ++ t.queue.items
    → Holds given given' s passed → Holds given given' t (passed ++ taken)
holds_passed given given' s t passed taken (e, b, r) q h =
    let P : DecoderState → Type 0 = λ (x : DecoderState).
    Received given given' (record { decoder = x; messages = h.messages; reads = s.reads }) in
    let R : ℕ → Type 0 = λ (n : ℕ).
    Received given given' (record { decoder = t.decoder; messages = h.messages; reads = n }) in
    record {
      messages = h.messages;
      received = subst R (sym r) (subst P (sym e) h.received);
      messages_are =
          h.messages_are ∙ ap (λ (l : List (List (List ℕ))). passed ++ l) q
          ∙ sym (append_assoc passed taken t.queue.items);
      broken_is = b ∙ h.broken_is ∙ ap (λ (x : DecoderState). x.fault) (sym e);
    }

-- the messages that came with READY, and those after them
pub holds_first : (before given : InletState) (p : Peer) (out : List (List (List ℕ))) (t : Subscriber)
    → Completes p.decoder [] out t.decoder → t.queue.items ≡ p.messages ++ out → t.broken ≡ t.decoder.fault
    → t.reads ≡ p.reads → Received before given p → Holds before given t []
holds_first before given p out t r q b n h =
    let P : List ℕ → Type 0 = λ l. HasReadMessages t.decoder l (p.messages ++ out) in
    let R : ℕ → Type 0 = λ (k : ℕ).
    Received before given (record { decoder = t.decoder; messages = p.messages ++ out; reads = k }) in
    record {
      messages = p.messages ++ out;
      received =
          subst R (sym n) (record {
            stream = h.stream;
            gave = h.gave;
            represents = subst P (append-nil h.stream) (r.represents h.stream p.messages h.represents);
            was_read = h.was_read;
            within = h.within;
          });
      messages_are = sym q;
      broken_is = b;
    }

-- a piece more
pub holds_on : (before g1 g2 : InletState) (s t : Subscriber) (passed out : List (List (List ℕ)))
    (piece : List ℕ) → s.queue.items ≡ [] → Completes s.decoder piece out t.decoder → Gave g1 g2 piece
    → WasRead g1 g2 1 → s.reads < 4294967295 → t.queue.items ≡ out → t.broken ≡ t.decoder.fault
    → t.reads ≡ s.reads + 1 → Holds before g1 s passed → Holds before g2 t passed
holds_on before g1 g2 s t passed out piece empty r o was left q b n h =
    let all : h.messages ≡ passed =
    h.messages_are ∙ ap (λ (l : List (List (List ℕ))). passed ++ l) empty ∙ append-nil passed in
    let R : ℕ → Type 0 = λ (k : ℕ).
    Received before g2 (record { decoder = t.decoder; messages = h.messages ++ out; reads = k }) in
    record {
      messages = h.messages ++ out;
      received = subst R (sym n) (record {
        stream = h.received.stream ++ piece;
        gave = told_on before.given g1.given g2.given h.received.stream piece h.received.gave o;
        represents = r.represents h.received.stream h.messages h.received.represents;
        was_read = counts_on before.reads g1.reads g2.reads s.reads 1 h.received.was_read was;
        within = most_below s.reads left;
      });
      messages_are =
          ap (λ (l : List (List (List ℕ))). l ++ out) all
          ∙ ap (λ (l : List (List (List ℕ))). passed ++ l) (sym q);
      broken_is = b;
    }

-- messages end as the last of them do
ends_behind : (holds : Notice → Bool) (before notices : List Notice) → HasNo holds before
    → EndsIn holds notices → EndsIn holds (before ++ notices)
ends_behind holds before notices none e = record {
  before = before ++ e.before;
  last = e.last;
  first = none_more holds before e.before none e.first;
  are = ap (λ (l : List Notice). before ++ l) e.are ∙ sym (append_assoc before e.before (e.last ∷ []));
  is = e.is;
}

pub waiting_first : (key : List ℕ) (before given : InletState) (s : Subscriber)
    → Holds before given s [] → Waiting key before given s
waiting_first key before given s h =
    record { passed = []; holds = h; notices = []; are = NoNotice; none = refl }

pub waiting_on : (key : List ℕ) (before g1 g2 : InletState) (s t u : Subscriber) (found : Bool)
    → found ≡ false → Found key s.queue.items t.queue.items found → SameReading s t
    → ((x : InletState) (passed : List (List (List ℕ))) → Holds x g1 t passed → Holds x g2 u passed)
    → Waiting key before g1 s → Waiting key before g2 u
waiting_on key before g1 g2 s t u found lacks (p, status, none) e f w = record {
  passed = w.passed ++ p.taken;
  holds = f before (w.passed ++ p.taken) (holds_passed before g1 s t w.passed p.taken e p.queue_is w.holds);
  notices = w.notices ++ p.notices;
  are = notices_more key w.passed p.taken w.notices p.notices w.are p.are;
  none = none_more is_status w.notices p.notices w.none (none lacks);
}

pub waited : (key : List ℕ) (before g1 : InletState) (s t : Subscriber) (found : Bool)
    → found ≡ true → Found key s.queue.items t.queue.items found → SameReading s t
    → Waiting key before g1 s → Waited key before g1 t
waited key before g1 s t found some (p, status, none) e w =
    record {
      passed = w.passed ++ p.taken;
      holds = holds_passed before g1 s t w.passed p.taken e p.queue_is w.holds;
      notices = w.notices ++ p.notices;
      are = notices_more key w.passed p.taken w.notices p.notices w.are p.are;
      status = ends_behind is_status w.notices p.notices w.none (status some);
    }

-- the request's messages were printed up to the subscriber's queue, and its idle wasn't among them
pub record Follows (parent : Parent) (before given : InletState) (s : Subscriber)
    (passed : List (List (List ℕ))) (out out' : OutletState) (failed : Bool) : Type 0 where
  pub taken : List (List (List ℕ))
  pub holds : Holds before given s (passed ++ taken)
  pub notices : List Notice
  pub are : AreNotices parent.key taken notices
  pub busy : HasNo (ends parent.header) notices
  pub wrote : Took out out' (text_printed parent.header notices)
  pub failed_is : failed ≡ has_error parent.header notices

pub follows_first : (parent : Parent) (before given : InletState) (s : Subscriber)
    (passed : List (List (List ℕ))) (out : OutletState) (failed : Bool) → failed ≡ false
    → Holds before given s passed → Follows parent before given s passed out out failed
follows_first parent before given s passed out failed e h =
    let P : List (List (List ℕ)) → Type 0 = λ l. Holds before given s l in
    record {
      taken = [];
      holds = subst P (sym (append-nil passed)) h;
      notices = [];
      are = NoNotice;
      busy = refl;
      wrote = told_none out.taken;
      failed_is = e;
    }

wrote_more : (header : List ℕ) (out o1 o2 : OutletState) (x y : List Notice)
    → Took out o1 (text_printed header x) → Took o1 o2 (text_printed header y)
    → Took out o2 (text_printed header (x ++ y))
wrote_more header out o1 o2 x y p q =
    let P : List ℕ → Type 0 = λ l. Took out o2 l in
    subst P (sym (printed_more header x y)) (told_on out.taken o1.taken o2.taken (text_printed header x)
    (text_printed header y) p q)

failed_more : (header : List ℕ) (x y : List Notice) (a b : Bool) → a ≡ has_error header x
    → b ≡ has_error header y → a || b ≡ has_error header (x ++ y)
failed_more header x y a b p q =
    ap (λ (k : Bool). k || b) p ∙ ap (λ (k : Bool). has_error header x || k) q ∙ sym (error_more header x y)

-- messages were taken
pub follows_taken : (parent : Parent) (before g1 : InletState) (s t : Subscriber)
    (passed : List (List (List ℕ))) (out o1 o2 : OutletState) (failed : Bool) (course : Course)
    → course.is_idle ≡ false → Takes parent s.queue.items t.queue.items o1 o2 course → SameReading s t
    → Follows parent before g1 s passed out o1 failed
    → Follows parent before g1 t passed out o2 (failed || course.has_failed)
follows_taken parent before g1 s t passed out o1 o2 failed course i p e w =
    let P : List (List (List ℕ)) → Type 0 = λ l. Holds before g1 t l in
    record {
      taken = w.taken ++ p.taken;
      holds =
          subst P (append_assoc passed w.taken p.taken)
          (holds_passed before g1 s t (passed ++ w.taken) p.taken e p.queue_is w.holds);
      notices = w.notices ++ p.notices;
      are = notices_more parent.key w.taken p.taken w.notices p.notices w.are p.are;
      busy = none_more (ends parent.header) w.notices p.notices w.busy (p.busy i);
      wrote = wrote_more parent.header out o1 o2 w.notices p.notices w.wrote p.wrote;
      failed_is = failed_more parent.header w.notices p.notices failed course.has_failed w.failed_is p.failed;
    }

-- and then a piece was read
follows_read : (parent : Parent) (before g1 g2 : InletState) (t u : Subscriber)
    (passed : List (List (List ℕ))) (out o1 : OutletState) (failed : Bool)
    → ((x : InletState) (passed : List (List (List ℕ))) → Holds x g1 t passed → Holds x g2 u passed)
    → Follows parent before g1 t passed out o1 failed
    → Follows parent before g2 u passed out o1 failed
follows_read parent before g1 g2 t u passed out o1 failed f w = record {
  taken = w.taken;
  holds = f before (passed ++ w.taken) w.holds;
  notices = w.notices;
  are = w.are;
  busy = w.busy;
  wrote = w.wrote;
  failed_is = w.failed_is;
}

-- what was printed up to the request's idle, and how the cell ended
abbrev pub FollowedTo : Parent → List (List (List ℕ)) → Ports → Ports → CellEnd → Type 0
FollowedTo parent passed old new end =
    (f : Followed parent passed old new) × (end ≡ end_by (has_error parent.header f.notices))

followed : (parent : Parent) (before g1 : InletState) (s t : Subscriber)
    (passed : List (List (List ℕ))) (out o1 o2 : OutletState) (failed : Bool) (course : Course)
    → Takes parent s.queue.items t.queue.items o1 o2 course → SameReading s t
    → course.is_idle ≡ true → Follows parent before g1 s passed out o1 failed
    → FollowedTo parent passed (record { from = before; to = out }) (record { from = g1; to = o2 })
    (end_by (failed || course.has_failed))
followed parent before g1 s t passed out o1 o2 failed course p e i w =
    let h = holds_passed before g1 s t (passed ++ w.taken) p.taken e p.queue_is w.holds in
    let Q : List (List (List ℕ)) → Type 0 = λ l. h.messages ≡ l ++ t.queue.items in (
      record {
        peer = record { decoder = t.decoder; messages = h.messages; reads = t.reads };
        received = h.received;
        taken = w.taken ++ p.taken;
        others = t.queue.items;
        messages_are = subst Q (append_assoc passed w.taken p.taken) h.messages_are;
        notices = w.notices ++ p.notices;
        are = notices_more parent.key w.taken p.taken w.notices p.notices w.are p.are;
        idle = ends_behind (ends parent.header) w.notices p.notices w.busy (p.idle i);
        wrote = wrote_more parent.header out o1 o2 w.notices p.notices w.wrote p.wrote;
      },
      ap end_by
          (failed_more parent.header w.notices p.notices failed course.has_failed w.failed_is p.failed),
    )

-- ---- the whole

pub began : (cell : Cell) (old new : Client) (header : List ℕ) (a b : OutletState)
    (before given : InletState) (s : Subscriber) → WroteWhole old.shell.to a Dealer
    → Requested cell header a new.shell.to → WroteWhole old.iopub.to b Sub
    → Took b new.iopub.to (message_bytes subscription) → (w : Waited cell.key.now before given s)
    → Began cell old new header w.passed
began cell old new header a b before given s x requested y told w = record {
  frames = requested.frames;
  request = requested.request;
  requests = record { between = a; handshake = x; took = requested.took };
  subscribes = record { between = b; handshake = y; took = told };
  earlier = w.notices;
  passed_are = w.are;
  status = w.status;
}

pub follows_by : (parent : Parent) (before g1 g2 : InletState) (s t u : Subscriber)
    (passed : List (List (List ℕ))) (out o1 o2 : OutletState) (failed total : Bool)
    (course : Course) → total ≡ failed || course.has_failed → course.is_idle ≡ false
    → Takes parent s.queue.items t.queue.items o1 o2 course → SameReading s t
    → ((x : InletState) (passed : List (List (List ℕ))) → Holds x g1 t passed → Holds x g2 u passed)
    → Follows parent before g1 s passed out o1 failed
    → Follows parent before g2 u passed out o2 total
follows_by parent before g1 g2 s t u passed out o1 o2 failed total course is i p e f w =
    let P : Bool → Type 0 = λ k. Follows parent before g2 u passed out o2 k in
    subst P (sym is) (follows_read parent before g1 g2 t u passed out o2 (failed || course.has_failed) f
    (follows_taken parent before g1 s t passed out o1 o2 failed course i p e w))

pub followed_by : (parent : Parent) (before g1 : InletState) (s t : Subscriber)
    (passed : List (List (List ℕ))) (out o1 o2 : OutletState) (failed total : Bool)
    (course : Course) → total ≡ failed || course.has_failed
    → Takes parent s.queue.items t.queue.items o1 o2 course → SameReading s t
    → course.is_idle ≡ true → Follows parent before g1 s passed out o1 failed
    → FollowedTo parent passed (record { from = before; to = out }) (record { from = g1; to = o2 })
    (end_by total)
followed_by parent before g1 s t passed out o1 o2 failed total course is p e i w =
    let P : Bool
    → Type 0 = λ k. FollowedTo parent passed (record { from = before; to = out })
    (record { from = g1; to = o2 })
    (end_by k) in
    subst P (sym is) (followed parent before g1 s t passed out o1 o2 failed course p e i w)

-- the cell was run, and ended so
abbrev pub RanTo : Cell → Client → Client → CellEnd → Type 0
RanTo cell old new end = (ran : Ran cell old new) × (end ≡ cell_end ran)

pub ran_by : (cell : Cell) (old new : Client) (header text_shown : List ℕ) (a b : OutletState)
    (given : InletState) (s : Subscriber) (end : CellEnd) → text_shown ≡ header
    → WroteWhole old.shell.to a Dealer
    → Requested cell header a new.shell.to → WroteWhole old.iopub.to b Sub
    → Took b new.iopub.to (message_bytes subscription) → (w : Waited cell.key.now old.iopub.from given s)
    → FollowedTo (parent_of cell text_shown) w.passed (printing old) (printing new) end
    → RanTo cell old new end
ran_by cell old new header text_shown a b given s end is x requested y told w f =
    let P : List ℕ
    → Type 0 = λ l. FollowedTo (parent_of cell l) w.passed (printing old) (printing new) end in
    let g = subst P is f in (
      record {
        header = header;
        passed = w.passed;
        began = began cell old new header a b old.iopub.from given s x requested y told w;
        followed = g.0;
      },
      g.1,
    )
