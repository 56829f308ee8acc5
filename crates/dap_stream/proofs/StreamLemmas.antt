use Rattle.std.proofs.Common.{◌≡◌, ℕ, ◌-◌, ◌<◌, ◌≤◌, Option, Some, None, List, [], ◌∷◌, ◌++◌, length, Result}
use Rattle.std.proofs.Common.{Err, take, drop, refl, arith, sym, ◌∙◌, ap, subst, append_assoc, length-append}
use Rattle.std.proofs.lemmas.List.{append-nil, take-append-drop, length-take-le}
use Rattle.std.proofs.Math.Seq.{drop-append_seam, take-append_seam}
use Rattle.dap_stream.specs.declared.fault.StreamFault.{StreamFault}
use Rattle.dap_stream.specs.declared.fault.StreamFault.TheVariants as fault
use Rattle.dap_stream.specs.declared.fault.FeedFault.{FeedFault}
use Rattle.dap_stream.specs.declared.fault.FeedFault.TheVariants.{OutOfMemory, Broken}
use Rattle.dap_stream.specs.declared.header.Header.TheVariants as header
use Rattle.dap_stream.specs.Header.{line_end, IsHeaderOf}
use Rattle.dap_stream.specs.Faults.{Begins}
use Rattle.dap_stream.specs.Lines.{IsFront, Passes, Ends, IsBroken, LinesSay}
use Rattle.dap_stream.specs.Stream.{Reads, Stays, Goes, IsPartial, InHeader, InBody, IsFault, InLine, InSize}
use Rattle.dap_stream.specs.Stream.{DecoderState, HasReadBodies, Completes, EndsIn}
use Rattle.dap_stream.specs.Reading.{HeaderSays, Parts, EndsAt, IsReading}
use Rattle.dap_stream.specs.Feeding.{Feeds, Leads}
use Rattle.dap_stream.proofs.HeaderLemmas.{no_lines, begins}

-- THE LINES OF A HEADER

-- whole lines, and then the rest
pub record HasRead (bytes rest : List ℕ) (size : Option ℕ) : Type 0 where
  pub lines : List ℕ
  pub spelled : bytes ≡ lines ++ rest
  pub front : IsFront lines size

pub read_none : (bytes : List ℕ) → HasRead bytes bytes None
read_none bytes = record { lines = []; spelled = refl; front = no_lines }

pub read_more : (bytes rest others : List ℕ) (size next : Option ℕ) (r : HasRead bytes rest size)
    → Passes r.lines rest others next → HasRead bytes others next
read_more bytes rest others size next r p = record {
  lines = r.lines ++ p.line;
  spelled = r.spelled ∙ (ap (λ l. r.lines ++ l) p.spelled ∙ sym (append_assoc r.lines p.line others));
  front = p.after;
}

pub passes_shorter : (lines rest others : List ℕ) (size : Option ℕ) → Passes lines rest others size
    → length others < length rest
passes_shorter lines rest others size p =
    let e = ap length p.spelled in
    let s = p.some in
    omega (arith, e, s, length-append p.line others)

-- the bytes before the others
length_front : (bytes front others : List ℕ) → bytes ≡ front ++ others
    → length bytes - length others ≡ length front
length_front bytes front others e = let k = ap length e in omega (arith, k, length-append front others)

taken_before : (bytes front others : List ℕ) → bytes ≡ front ++ others
    → take (length bytes - length others) bytes ≡ front
taken_before bytes front others e =
    ap (λ k. take k bytes) (length_front bytes front others e) ∙ (ap (take (length front)) e
    ∙ take-append_seam front others)

pub whole_lines : (bytes rest others : List ℕ) (before : Option ℕ) (size : ℕ) (r : HasRead bytes rest before)
    → Ends r.lines rest others size → LinesSay bytes (header.Whole (length bytes - length others) size)
whole_lines bytes rest others before size r ends =
    let k : bytes ≡ (r.lines ++ line_end) ++ others =
    r.spelled ∙ (ap (λ l. r.lines ++ l) ends.spelled ∙ sym (append_assoc r.lines line_end others)) in
    (omega arith, rw (taken_before bytes (r.lines ++ line_end) others k) ends.header)

-- A HEADER WITHIN THE LIMIT

-- a fault in a front of the bytes
pub broken_front : (bytes : List ℕ) (n : ℕ) (c : StreamFault) → n ≤ length bytes → n ≤ 1024
    → IsBroken (take n bytes) c → IsFault bytes c
broken_front bytes n c fits few b =
    let k : bytes ≡ b.front ++ b.byte ∷ (b.others ++ drop n bytes) =
    sym (take-append-drop n bytes) ∙ (ap (λ l. l ++ drop n bytes) b.spelled
    ∙ append_assoc b.front (b.byte ∷ b.others) (drop n bytes)) in
    let e = ap length b.spelled in
    InLine b.front (b.others ++ drop n bytes) b.byte k
    (omega (arith, e, length-append b.front (b.byte ∷ b.others), length-take-le n bytes fits)) b.breaks

pub header_long : (bytes : List ℕ) (n : ℕ) → n ≤ length bytes → n ≡ 1024 → Begins (take n bytes)
    → IsFault bytes fault.HeaderSize
header_long bytes n fits e b =
    InSize (take n bytes) (drop n bytes) (sym (take-append-drop n bytes)) (length-take-le n bytes fits
    ∙ e) b refl

-- ONE MESSAGE

header_some : (bytes : List ℕ) (size : ℕ) → IsHeaderOf bytes size → 2 ≤ length bytes
header_some bytes size h =
    let e = ap length h.header.spelled in omega (arith, e, length-append h.header.lines line_end)

pub part_body : (bytes others : List ℕ) (count size : ℕ) → HeaderSays bytes (header.Whole count size)
    → others ≡ drop count bytes → length others < size → IsPartial bytes
part_body bytes others count size (within, few, h) e less =
    InBody (take count bytes) others size h (omega (arith, length-take-le count bytes within))
    (sym (take-append-drop count bytes) ∙ ap (λ l. take count bytes ++ l) (sym e)) less

pub parts_are : (bytes others body rest : List ℕ) (count size : ℕ)
    → HeaderSays bytes (header.Whole count size) → others ≡ drop count bytes → size ≤ length others
    → body ≡ take size others → rest ≡ drop size others → Parts bytes body rest
parts_are bytes others body rest count size (within, few, h) e fits b r =
    let n : length body ≡ size = ap length b ∙ length-take-le size others fits in
    let whole : take size others ++ drop size others ≡ drop count bytes = take-append-drop size others ∙ e in
    let some = header_some (take count bytes) size h in
    record {
      raw = take count bytes ++ body;
      some = omega (arith, some, length-append (take count bytes) body);
      message = record {
        header = take count bytes;
        header_is = subst (IsHeaderOf (take count bytes)) (sym n) h;
        few = omega (arith, length-take-le count bytes within);
        spelled = refl;
      };
      spelled = rw (append_assoc, b, r, whole) (sym (take-append-drop count bytes));
    }

-- READINGS

pub reads_on : (a r s : List ℕ) (m n : List (List ℕ)) → Reads a m r → Reads r n s → Reads a (m ++ n) s
reads_on _ _ s _ n (Stays bytes) next = next
reads_on _ _ s _ n (Goes bytes raw others body rest bodies is e rs) next =
    Goes bytes raw others body s (bodies ++ n) is e (reads_on others rest s bodies n rs next)

pub reads_more : (a r b : List ℕ) (m : List (List ℕ)) → Reads a m r → Reads (a ++ b) m (r ++ b)
reads_more _ _ b _ (Stays bytes) = Stays (bytes ++ b)
reads_more _ _ b _ (Goes bytes raw others body rest bodies is e rs) =
    Goes (bytes ++ b) raw (others ++ b) body (rest ++ b) bodies is
    (ap (λ l. l ++ b) e ∙ append_assoc raw others b) (reads_more others rest b bodies rs)

-- the messages that were taken, and what is left
pub record HasTaken (bytes : List ℕ) (bodies : List (List ℕ)) (rest : List ℕ) : Type 0 where
  pub reads : Reads bytes bodies rest
  pub front : List ℕ
  pub spelled : bytes ≡ front ++ rest
  pub within : length rest ≤ length bytes

pub taken_none : (bytes : List ℕ) → HasTaken bytes [] bytes
taken_none bytes = record { reads = Stays bytes; front = []; spelled = refl; within = omega arith }

-- one message more
pub taken_more : (a rest body others : List ℕ) (m : List (List ℕ)) → HasTaken a m rest
    → Parts rest body others
    → HasTaken a (m ++ body ∷ []) others
taken_more a rest body others m t p =
    let e = ap length p.spelled in
    let within = t.within in
    record {
      reads = reads_on a rest others m (body ∷ []) t.reads
          (Goes rest p.raw others body others [] p.message p.spelled (Stays others));
      front = t.front ++ p.raw;
      spelled = t.spelled ∙ (ap (λ l. t.front ++ l) p.spelled ∙ sym (append_assoc t.front p.raw others));
      within = omega (arith, e, within, length-append p.raw others);
    }

pub taken_all : (bytes rest : List ℕ) (bodies : List (List ℕ)) (fault : Option StreamFault)
    → HasTaken bytes bodies rest → EndsAt rest fault
    → IsReading bytes bodies (length bytes - length rest) fault
taken_all bytes rest bodies fault t ends =
    let e : drop (length bytes - length rest) bytes ≡ rest =
    ap (λ k. drop k bytes) (length_front bytes t.front rest t.spelled)
    ∙ (ap (drop (length t.front)) t.spelled ∙ drop-append_seam t.front rest) in
    record { within = omega arith; reads = rw e t.reads; ends = rw e ends }

-- FEEDS

fault_more : (a b : List ℕ) (c : StreamFault) → IsFault a c → IsFault (a ++ b) c
fault_more a b c (InLine front others byte e few breaks) =
    InLine front (others ++ b) byte (ap (λ l. l ++ b) e ∙ append_assoc front (byte ∷ others) b) few breaks
fault_more a b c (InSize front others e few begins k) =
    InSize front (others ++ b) (ap (λ l. l ++ b) e ∙ append_assoc front others b) few begins k

-- a broken decoder stays so
pub stays_broken : (s : DecoderState) (piece : List ℕ) (c : StreamFault) → s.fault ≡ Some c → Completes s
    piece [] s
stays_broken s piece c f stream before st =
    let e = subst (EndsIn s st.rest) f st.ends in
    subst (HasReadBodies s (stream ++ piece)) (sym (append-nil before)) (record {
      rest = st.rest ++ piece;
      reads = reads_more stream st.rest piece before st.reads;
      ends = subst (EndsIn s (st.rest ++ piece)) (sym f) (e.0, fault_more st.rest piece c e.1);
    })

feed_completes : (old new : DecoderState) (piece rest : List ℕ) (bodies : List (List ℕ)) → old.fault ≡ None
    → Reads (old.rest ++ piece) bodies rest → EndsIn new rest new.fault → Completes old piece bodies new
feed_completes old new piece rest bodies f reads ends stream before st =
    let e = subst (EndsIn old st.rest) f st.ends in
    record {
      rest = rest;
      reads = reads_on (stream ++ piece) (st.rest ++ piece) rest before bodies
          (reads_more stream st.rest piece before st.reads)
          (subst (λ l. Reads (l ++ piece) bodies rest) (sym e.0) reads);
      ends = ends;
    }

pub reads_none : (s : DecoderState) → s.rest ≡ [] → s.fault ≡ None → HasReadBodies s [] []
reads_none s r f =
    let begun = InHeader (begins [] [] [] None no_lines refl) (omega arith) in
    record { rest = []; reads = Stays []; ends = subst (EndsIn s []) (sym f) (sym r, begun) }

-- a decoder that is broken, one that is out of memory, and one that goes on
pub feeds_broken : (s : DecoderState) (piece : List ℕ) (c : StreamFault) → s.fault ≡ Some c
    → Feeds s piece s (Err (Broken [] c))
feeds_broken s piece c f = record {
  ok = tt;
  good = tt;
  err = (stays_broken s piece c f, f);
  stored = λ cause e. (let k : c ≡ cause = cc in ap (λ c. Err (Broken [] c)) k, refl);
}

no_fault : (s : DecoderState) (c : StreamFault) → s.fault ≡ None → s.fault ≡ Some c → ⊥
no_fault s c f e = let k = sym f ∙ e in cc

pub feeds_none : (s : DecoderState) (piece : List ℕ) → s.fault ≡ None → Feeds s piece s (Err OutOfMemory)
feeds_none s piece f =
    record { ok = tt; good = tt; err = refl; stored = λ cause e. absurd (no_fault s cause f e) }

pub feeds_on : (old new : DecoderState) (piece : List ℕ) (used : ℕ) (bodies : List (List ℕ))
    (fault : Option StreamFault) (answer : Result (List (List ℕ)) FeedFault) → old.fault ≡ None
    → IsReading (old.rest ++ piece) bodies used fault
    → Leads bodies (drop used (old.rest ++ piece)) fault new answer → Feeds old piece new answer
feeds_on old new piece used bodies None answer f r (a, n) =
    let rest = drop used (old.rest ++ piece) in
    rw (a, n) (record {
      ok = feed_completes old (record { rest = rest; fault = None }) piece rest bodies f r.reads
          (refl, r.ends);
      good = refl;
      err = tt;
      stored = λ cause e. absurd (no_fault old cause f e);
    })
feeds_on old new piece used bodies (Some c) answer f r (a, n) =
    let rest = drop used (old.rest ++ piece) in
    rw (a, n) (record {
      ok = tt;
      good = tt;
      err = (
        feed_completes old (record { rest = []; fault = Some c }) piece rest bodies f r.reads
            (refl, r.ends),
        refl,
      );
      stored = λ cause e. absurd (no_fault old cause f e);
    })
