use Rattle.std.proofs.Common.{◌≡◌, ℕ, ◌<◌, ◌≤◌, ◌⊎◌, inl, inr, Option, Some, None, List, [], ◌∷◌, ◌++◌}
use Rattle.std.proofs.Common.{length, take, drop, refl, arith, sym, ◌∙◌, ap, subst, append_assoc}
use Rattle.std.proofs.Common.{length-append}
use Rattle.std.proofs.lemmas.Bool.{cases_lt, cases_order}
use Rattle.std.proofs.lemmas.List.{append-nil, append_cancel_left, take-append-drop, take-append-le, drop_all}
use Rattle.std.proofs.Math.Seq.{take-append_seam}
use Rattle.dap_stream.specs.declared.fault.StreamFault.{StreamFault}
use Rattle.dap_stream.specs.Header.{line_end, IsHeader, IsLength, IsAllowed, SaysOnce, IsHeaderOf, lengths}
use Rattle.dap_stream.specs.Faults.{CanBe, Any, AtMostOne, Single, IsNumber, Numbered, Small, Sized, Begins}
use Rattle.dap_stream.specs.Faults.{Lacks, NoHeader, Twice, NoNumber, TooLarge, Missing}
use Rattle.dap_stream.specs.Stream.{IsMessage, Reads, Stays, Goes, IsPartial, InHeader, InBody, IsFault}
use Rattle.dap_stream.specs.Stream.{InLine, InSize, DecoderState, HasReadBodies, EndsIn}
use Rattle.dap_stream.proofs.HeaderLemmas.{opening, at_empty, after_lines}
use Rattle.dap_stream.proofs.LengthLemmas.{same_size}

-- DEMANDS

weaker : (strong weak : List (List ℕ) → Type 0) → ((values : List (List ℕ)) → strong values → weak values)
    → (bytes : List ℕ) → CanBe strong bytes → CanBe weak bytes
weaker strong weak so bytes c =
    record { more = c.more; fields = c.fields; header = c.header; met = so (lengths c.fields) c.met }

at_most : (strong weak : List ℕ → Type 0) → ((value : List ℕ) → strong value → weak value)
    → (values : List (List ℕ)) → AtMostOne strong values → AtMostOne weak values
at_most strong weak so [] h = tt
at_most strong weak so (value ∷ []) h = so value h
at_most strong weak so (value ∷ other ∷ values) h = absurd h

to_any : (bytes : List ℕ) → CanBe Single bytes → CanBe Any bytes
to_any = weaker Single Any (λ values h. tt)

to_single : (bytes : List ℕ) → CanBe Numbered bytes → CanBe Single bytes
to_single = weaker Numbered Single (at_most IsNumber (λ value. Unit {0}) (λ value h. tt))

to_numbered : (bytes : List ℕ) → CanBe Small bytes → CanBe Numbered bytes
to_numbered =
    weaker Small Numbered (at_most (λ value. (size : ℕ) × IsAllowed value size) IsNumber
    (λ value h. (h.0, h.1.length_is)))

once_small : (values : List (List ℕ)) → Sized values → Small values
once_small values (size, once) = subst Small (sym once.one) (size, once.allowed)

to_small : (bytes : List ℕ) → CanBe Sized bytes → CanBe Small bytes
to_small = weaker Sized Small once_small

-- what is lacking is one thing
same_lack : (a : List ℕ) (c d : StreamFault) → Lacks a c → Lacks a d → c ≡ d
same_lack a c d (NoHeader k n) (NoHeader l m) = k ∙ sym l
same_lack a c d (NoHeader k n) (Twice l y m) = absurd (n y)
same_lack a c d (NoHeader k n) (NoNumber l y m) = absurd (n (to_any a y))
same_lack a c d (NoHeader k n) (TooLarge l y m) = absurd (n (to_any a (to_single a y)))
same_lack a c d (NoHeader k n) (Missing l y m) = absurd (n (to_any a (to_single a (to_numbered a y))))
same_lack a c d (Twice k x n) (NoHeader l m) = absurd (m x)
same_lack a c d (Twice k x n) (Twice l y m) = k ∙ sym l
same_lack a c d (Twice k x n) (NoNumber l y m) = absurd (n y)
same_lack a c d (Twice k x n) (TooLarge l y m) = absurd (n (to_single a y))
same_lack a c d (Twice k x n) (Missing l y m) = absurd (n (to_single a (to_numbered a y)))
same_lack a c d (NoNumber k x n) (NoHeader l m) = absurd (m (to_any a x))
same_lack a c d (NoNumber k x n) (Twice l y m) = absurd (m x)
same_lack a c d (NoNumber k x n) (NoNumber l y m) = k ∙ sym l
same_lack a c d (NoNumber k x n) (TooLarge l y m) = absurd (n y)
same_lack a c d (NoNumber k x n) (Missing l y m) = absurd (n (to_numbered a y))
same_lack a c d (TooLarge k x n) (NoHeader l m) = absurd (m (to_any a (to_single a x)))
same_lack a c d (TooLarge k x n) (Twice l y m) = absurd (m (to_single a x))
same_lack a c d (TooLarge k x n) (NoNumber l y m) = absurd (m x)
same_lack a c d (TooLarge k x n) (TooLarge l y m) = k ∙ sym l
same_lack a c d (TooLarge k x n) (Missing l y m) = absurd (n y)
same_lack a c d (Missing k x n) (NoHeader l m) = absurd (m (to_any a (to_single a (to_numbered a x))))
same_lack a c d (Missing k x n) (Twice l y m) = absurd (m (to_single a (to_numbered a x)))
same_lack a c d (Missing k x n) (NoNumber l y m) = absurd (m (to_numbered a x))
same_lack a c d (Missing k x n) (TooLarge l y m) = absurd (m x)
same_lack a c d (Missing k x n) (Missing l y m) = k ∙ sym l

nothing_lacks : (a : List ℕ) (c : StreamFault) → Lacks a c → CanBe Sized a → ⊥
nothing_lacks a c (NoHeader k n) s = n (to_any a (to_single a (to_numbered a (to_small a s))))
nothing_lacks a c (Twice k x n) s = n (to_single a (to_numbered a (to_small a s)))
nothing_lacks a c (NoNumber k x n) s = n (to_numbered a (to_small a s))
nothing_lacks a c (TooLarge k x n) s = n (to_small a s)
nothing_lacks a c (Missing k x n) s = n s

-- TWO FRONTS OF THE SAME BYTES

-- the longer begins with the shorter
front_in : (a s b t : List ℕ) → length a ≤ length b → a ++ s ≡ b ++ t → b ≡ a ++ drop (length a) b
front_in a s b t few e =
    sym (take-append-drop (length a) b) ∙ ap (λ l. l ++ drop (length a) b)
    (sym (take-append-le (length a) b t few) ∙ (ap (take (length a)) (sym e) ∙ take-append_seam a s))

same_parts : (a s b t : List ℕ) → length a ≡ length b → a ++ s ≡ b ++ t → (a ≡ b) × (s ≡ t)
same_parts a s b t n e =
    let k : a ≡ b = front_in b t a s (omega arith) (sym e)
    ∙ (ap (λ l. b ++ l) (drop_all (length b) a (omega arith)) ∙ append-nil b) in
    (k, append_cancel_left a s t (e ∙ ap (λ l. l ++ t) (sym k)))

-- HEADERS

-- a header that says a size begins with each front of it
opens_front : (a b : List ℕ) → CanBe Sized (a ++ b) → CanBe Sized a
opens_front a b c =
    record { more = b ++ c.more; fields = c.fields; header = rw append_assoc at c.header; met = c.met }

header_opens : {h : List ℕ} {size : ℕ} → IsHeaderOf h size → CanBe Sized h
header_opens {h} {size} a =
    record { more = []; fields = a.fields; header = rw (append-nil h) a.header; met = (size, a.length_is) }

begun_opens : {a : List ℕ} → Begins a → CanBe Sized a
begun_opens b =
    let h = b.whole in
    record { more = b.more; fields = h.fields; header = h.header; met = (b.size, h.length_is) }

-- no header has a byte with which none goes on
never_opens : (front others whole more : List ℕ) (byte : ℕ) (c : StreamFault) → length front < length whole
    → front ++ byte ∷ others ≡ whole ++ more → Lacks (front ++ byte ∷ []) c → CanBe Sized whole → ⊥
never_opens front others whole more byte c less e l s =
    let next = front ++ byte ∷ [] in
    let k = front_in next others whole more (omega (arith, length-append front (byte ∷ [])))
    (append_assoc front (byte ∷ []) others ∙ e) in
    nothing_lacks next c l (opens_front next (drop (length next) whole) (subst (CanBe Sized) k s))

same_once : {values : List (List ℕ)} {m n : ℕ} → SaysOnce values m → SaysOnce values n → m ≡ n
same_once {n = n} a b =
    let e : a.value ∷ [] ≡ b.value ∷ [] = sym a.one ∙ b.one in
    let v : b.value ≡ a.value = cc in
    same_size a.allowed.length_is (subst (λ l. IsLength l n) v b.allowed.length_is)

-- what follows a header, where it is a header with it too: nothing
header_alone : (h m : List ℕ) (i j : ℕ) → IsHeaderOf h i → IsHeaderOf (h ++ m) j → (m ≡ []) × (i ≡ j)
header_alone h m i j a b =
    let lines = a.header.lines in
    let e = ap (λ l. l ++ m) a.header.spelled ∙ append_assoc lines line_end m in
    let r = after_lines (13 ∷ 10 ∷ m) a.header.are
    (subst (λ l. IsHeader l b.fields) e b.header) in
    let empty = at_empty (10 ∷ m) 13 r.0 refl (opening r.2) in
    let feed = empty.1 in
    let same = r.1 ∙ (ap (λ l. a.fields ++ l) empty.2 ∙ append-nil a.fields) in
    (cc, same_once a.length_is (subst (λ f. SaysOnce (lengths f) j) same b.length_is))

-- bytes begin with a header in one way only
same_header : (h k s t : List ℕ) (i j : ℕ) → IsHeaderOf h i → IsHeaderOf k j → h ++ s ≡ k ++ t
    → (s ≡ t) × (i ≡ j)
same_header h k s t i j a b e = by_order (cases_lt (length h) (length k))
  where
    ordered : (h k s t : List ℕ) (i j : ℕ) → length h ≤ length k → IsHeaderOf h i → IsHeaderOf k j
        → h ++ s ≡ k ++ t → (s ≡ t) × (i ≡ j)
    ordered h k s t i j few a b e =
        let m = drop (length h) k in
        let whole = front_in h s k t few e in
        let r = header_alone h m i j a (subst (λ l. IsHeaderOf l j) whole b) in
        let same = whole ∙ (ap (λ l. h ++ l) r.0 ∙ append-nil h) in
        (append_cancel_left h s t (e ∙ ap (λ l. l ++ t) same), r.1)

    by_order : (length h < length k) ⊎ (length k ≤ length h) → (s ≡ t) × (i ≡ j)
    by_order (inl less) = ordered h k s t i j (omega arith) a b e
    by_order (inr few) = let r = ordered k h t s j i few b a (sym e) in (sym r.0, sym r.1)

-- no header begins with a whole header
none_begins : (h s whole t : List ℕ) (size : ℕ) → length h ≤ length whole → h ++ s ≡ whole ++ t
    → IsHeaderOf h size → Begins whole → ⊥
none_begins h s whole t size few e a b =
    let m = drop (length h) whole in
    let k = ap (λ l. l ++ b.more) (front_in h s whole t few e) ∙ append_assoc h m b.more in
    let r = header_alone h (m ++ b.more) size b.size a (subst (λ l. IsHeaderOf l b.size) k b.whole) in
    omega (arith, ap length r.0, b.some, length-append m b.more)

-- FAULTS

header_fault : (bytes h others : List ℕ) (size : ℕ) (c : StreamFault) → IsHeaderOf h size → length h ≤ 1024
    → bytes ≡ h ++ others → IsFault bytes c → ⊥
header_fault bytes h others size c a few e (InLine front rest byte k less b) =
    by_order (cases_lt (length front) (length h))
  where
    by_order : (length front < length h) ⊎ (length h ≤ length front) → ⊥
    by_order (inl in_it) = never_opens front rest h others byte c in_it (sym k ∙ e) b.lacks (header_opens a)
    by_order (inr after) = none_begins h others front (byte ∷ rest) size after (sym e ∙ k) a b.begins
header_fault bytes h others size c a few e (InSize front rest k n b is) =
    none_begins h others front rest size (omega arith) (sym e ∙ k) a b

same_fault : (bytes : List ℕ) (c d : StreamFault) → IsFault bytes c → IsFault bytes d → c ≡ d
same_fault bytes c d (InLine f s x e few b) (InLine f' s' x' e' few' b') =
    by_order (cases_order (length f) (length f'))
  where
    by_order : (length f ≡ length f') ⊎ ((length f < length f') ⊎ (length f' < length f)) → c ≡ d
    by_order (inl n) =
        let p = same_parts f (x ∷ s) f' (x' ∷ s') n (sym e ∙ e') in
        let bytes_are = p.1 in
        let x_is : x ≡ x' = cc in
        let same = ap (λ l. l ++ x' ∷ []) (sym p.0) ∙ ap (λ y. f ++ y ∷ []) (sym x_is) in
        same_lack (f ++ x ∷ []) c d b.lacks (subst (λ l. Lacks l d) same b'.lacks)
    by_order (inr (inl h)) =
        absurd (never_opens f s f' (x' ∷ s') x c h (sym e ∙ e') b.lacks (begun_opens b'.begins))
    by_order (inr (inr h)) =
        absurd (never_opens f' s' f (x ∷ s) x' d h (sym e' ∙ e) b'.lacks (begun_opens b.begins))
same_fault bytes c d (InLine f s x e few b) (InSize f' s' e' n b' is) =
    absurd (never_opens f s f' s' x c (omega arith) (sym e ∙ e') b.lacks (begun_opens b'))
same_fault bytes c d (InSize f s e n b is) (InLine f' s' x' e' few b') =
    absurd (never_opens f' s' f s x' d (omega arith) (sym e' ∙ e) b'.lacks (begun_opens b))
same_fault bytes c d (InSize f s e n b is) (InSize f' s' e' n' b' is') = is ∙ sym is'

partial_fault : (bytes : List ℕ) (c : StreamFault) → IsPartial bytes → IsFault bytes c → ⊥
partial_fault bytes c (InHeader b less) (InLine f s x e few l) =
    never_opens f s bytes [] x c (omega (arith, ap length e, length-append f (x ∷ s)))
    (sym (append-nil bytes ∙ e)) l.lacks (begun_opens b)
partial_fault bytes c (InHeader b less) (InSize f s e n b' is) = omega (arith, ap length e, length-append f s)
partial_fault bytes c (InBody h others size a few e less) f = header_fault bytes h others size c a few e f

-- MESSAGES

-- a message's header, and what follows it
spelled_out : (raw body others bytes : List ℕ) (m : IsMessage raw body) → bytes ≡ raw ++ others
    → bytes ≡ m.header ++ (body ++ others)
spelled_out raw body others bytes m e =
    e ∙ (ap (λ l. l ++ others) m.spelled ∙ append_assoc m.header body others)

-- no message follows where the messages end
never_on : (raw body others bytes : List ℕ) (s : DecoderState) (o : Option StreamFault) → EndsIn s bytes o
    → IsMessage raw body → bytes ≡ raw ++ others → ⊥
never_on raw body others bytes s o end m e = by_end o end
  where
    spelled : bytes ≡ m.header ++ (body ++ others)
    spelled = spelled_out raw body others bytes m e

    by_part : IsPartial bytes → ⊥
    by_part (InHeader b less) =
        none_begins m.header (body ++ others) bytes [] (length body)
        (omega (arith, ap length spelled, length-append m.header (body ++ others)))
        (sym (append-nil bytes ∙ spelled)) m.header_is b
    by_part (InBody h part size a few k less) =
        let s = same_header m.header h (body ++ others) part (length body) size m.header_is a
        (sym spelled ∙ k) in
        omega (arith, ap length s.0, s.1, length-append body others)

    by_end : (o : Option StreamFault) → EndsIn s bytes o → ⊥
    by_end None p = by_part p.1
    by_end (Some c) f =
        header_fault bytes m.header (body ++ others) (length body) c m.header_is m.few spelled f.1

same_message : (raw raw' body body' others others' : List ℕ) → IsMessage raw body → IsMessage raw' body'
    → raw ++ others ≡ raw' ++ others' → (body ≡ body') × (others ≡ others')
same_message raw raw' body body' others others' m m' e =
    let s = same_header m.header m'.header (body ++ others) (body' ++ others') (length body) (length body')
    m.header_is m'.header_is (sym (spelled_out raw body others (raw ++ others) m refl)
    ∙ spelled_out raw' body' others' (raw ++ others) m' e) in
    same_parts body others body' others' s.1 s.0

-- READINGS

abbrev state_of : List ℕ → Option StreamFault → DecoderState
state_of rest fault = record { rest = rest; fault = fault }

same_end : (bytes r s : List ℕ) (o p : Option StreamFault) → EndsIn (state_of r o) bytes o
    → EndsIn (state_of s p) bytes p → state_of r o ≡ state_of s p
same_end bytes r s None None a b = ap (λ r. state_of r None) (sym a.0 ∙ b.0)
same_end bytes r s None (Some d) a b = absurd (partial_fault bytes d a.1 b.1)
same_end bytes r s (Some c) None a b = absurd (partial_fault bytes c b.1 a.1)
same_end bytes r s (Some c) (Some d) a b =
    let rest = a.0 ∙ sym b.0 in let fault = same_fault bytes c d a.1 b.1 in cc

-- two readings of one stream are one
same_reading : {bytes r q : List ℕ} {m n : List (List ℕ)} (s t : DecoderState) → Reads bytes m r
    → EndsIn s r s.fault → Reads bytes n q → EndsIn t q t.fault → (m ≡ n) × (s ≡ t)
same_reading s t (Stays bytes) a (Stays _) b = (refl, same_end bytes s.rest t.rest s.fault t.fault a b)
same_reading s t (Stays bytes) a (Goes _ raw others body rest bodies is e rs) b =
    absurd (never_on raw body others bytes s s.fault a is e)
same_reading s t (Goes bytes raw others body rest bodies is e rs) a (Stays _) b =
    absurd (never_on raw body others bytes t t.fault b is e)
same_reading s t (Goes bytes raw others body rest bodies is e rs) a
    (Goes _ raw' others' body' rest' bodies' is' e' rs') b =
    let x = same_message raw raw' body body' others others' is is' (sym e ∙ e') in
    let next = same_reading s t rs a (subst (λ l. Reads l bodies' rest') (sym x.1) rs') b in
    let body_is = x.0 in
    let bodies_are = next.0 in
    (cc, next.1)

pub one_state : (s t : DecoderState) (stream : List ℕ) (m n : List (List ℕ)) → HasReadBodies s stream m
    → HasReadBodies t stream n → (m ≡ n) × (s ≡ t)
one_state s t stream m n a b = same_reading s t a.reads a.ends b.reads b.ends
