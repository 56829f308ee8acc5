use Rattle.std.proofs.Common.{◌≡◌, ℕ, zero, suc, ◌+◌, ◌*◌, ◌<◌, ◌≤◌, inl, inr, Bool, true, false, Option}
use Rattle.std.proofs.Common.{Some, None, List, [], ◌∷◌, ◌++◌, length, take, drop, get_or, refl, arith, sym}
use Rattle.std.proofs.Common.{◌∙◌, ap, append_assoc, add-one, length-drop, length-append, nat_le}
use Rattle.std.proofs.Common.{if◌then◌else◌}
use Rattle.std.proofs.lemmas.Bool.{le-ltb, lt-ltb, cases_lt}
use Rattle.std.proofs.lemmas.Bool.Decides.{nat_tests}
use Rattle.std.proofs.lemmas.List.{take-append-drop, drop-drop, length-take-le}
use Rattle.std.proofs.Math.Seq.{drop-append_seam, take-append_seam}
use Rattle.zmtp_wire.specs.declared.fault.StreamFault.{StreamFault}
use Rattle.zmtp_wire.specs.declared.fault.StreamFault.TheVariants as fault
use Rattle.zmtp_wire.specs.declared.head.Stage.{Stage}
use Rattle.zmtp_wire.specs.declared.head.Stage.TheVariants.{Greeting, Handshake, Traffic}
use Rattle.zmtp_wire.specs.declared.head.Kind.{Kind}
use Rattle.zmtp_wire.specs.declared.head.Kind.TheVariants.{Command, Message}
use Rattle.zmtp_wire.specs.declared.head.Position.TheVariants.{More, Last}
use Rattle.zmtp_wire.specs.declared.head.Head.TheVariants.{Wants, Bad, Greets, Sized}
use Rattle.zmtp_wire.specs.Framing.{number_from, least_number, flag_of, kind_of, is_long, refusal}
use Rattle.zmtp_wire.specs.Framing.{broken_by_kind, broken_by_flag, IsSize, IsAllowed}
use Rattle.zmtp_wire.specs.Greeting.{first_broken}
use Rattle.zmtp_wire.specs.Head.{room_at, long_size, by_size, unless_refused, by_flag, frame_head}
use Rattle.zmtp_wire.specs.Head.{greeting_head, head_of}

-- SIZES

room_below : (n : ℕ) → room_at n ≤ 1048576
room_below zero = omega arith
room_below (suc zero) = omega arith
room_below (suc (suc zero)) = omega arith
room_below (suc (suc (suc n))) = omega arith

record Said (kind : Kind) (left acc : ℕ) (bytes : List ℕ) (k : Kind) (from size : ℕ) : Type 0 where
  pub whole : left ≤ length bytes
  pub number : number_from acc (take left bytes) ≡ size
  pub same : k ≡ kind
  pub at : from ≡ 9
  pub fits : size ≤ 1048576

long_said : (kind : Kind) (left acc : ℕ) (bytes : List ℕ) (k : Kind) (from size : ℕ) → acc ≤ 1048576
    → long_size kind left acc bytes ≡ Sized k from size → Said kind left acc bytes k from size
long_said kind zero acc bytes k from size a e =
    record {
      whole = omega arith;
      number = cc;
      same = cc;
      at = cc;
      fits = (let n : acc ≡ size = cc in omega (arith, n));
    }
long_said kind (suc left) acc [] k from size a e = absurd (cc)
long_said kind (suc left) acc (b ∷ bytes) k from size a e =
    elim (cases_lt (room_at left) (acc * 256 + b)) [
      | inl h ↦ (let x = rw (lt-ltb (room_at left) (acc * 256 + b) h) at e in absurd (cc))
      | inr h ↦ (let x = rw (le-ltb (room_at left) (acc * 256 + b) h) at e in
          let s = long_said kind left (acc * 256 + b) bytes k from size (omega (arith, room_below left)) x in
          record {
            whole = omega (arith, s.whole);
            number = s.number;
            same = s.same;
            at = s.at;
            fits = s.fits;
          })
    ]

number_grows : (n : ℕ) (ds : List ℕ) → n ≤ number_from n ds
number_grows n [] = omega arith
number_grows n (d ∷ ds) = let h = number_grows (n * 256 + d) ds in omega (arith, h)

fits_room : (left acc : ℕ) (ds : List ℕ) → length ds ≡ left → number_from acc ds ≤ 1048576
    → acc ≤ room_at left
fits_room zero acc ds e h = let k = number_grows acc ds in omega (arith, k)
fits_room (suc zero) acc [] e h = absurd (omega (arith, e))
fits_room (suc zero) acc (a ∷ ds) e h = let k = number_grows (acc * 256 + a) ds in omega (arith, k)
fits_room (suc (suc zero)) acc [] e h = absurd (omega (arith, e))
fits_room (suc (suc zero)) acc (a ∷ []) e h = absurd (omega (arith, e))
fits_room (suc (suc zero)) acc (a ∷ b ∷ ds) e h =
    let k = number_grows ((acc * 256 + a) * 256 + b) ds in omega (arith, k)
fits_room (suc (suc (suc n))) acc [] e h = absurd (omega (arith, e))
fits_room (suc (suc (suc n))) acc (a ∷ []) e h = absurd (omega (arith, e))
fits_room (suc (suc (suc n))) acc (a ∷ b ∷ []) e h = absurd (omega (arith, e))
fits_room (suc (suc (suc n))) acc (a ∷ b ∷ c ∷ ds) e h =
    let k = number_grows (((acc * 256 + a) * 256 + b) * 256 + c) ds in omega (arith, k)

long_complete : (kind : Kind) (left acc : ℕ) (ds y : List ℕ) → length ds ≡ left → number_from acc ds ≤ 1048576
    → long_size kind left acc (ds ++ y) ≡ Sized kind 9 (number_from acc ds)
long_complete kind zero acc [] y e h = refl
long_complete kind zero acc (d ∷ ds) y e h = absurd (omega (arith, e))
long_complete kind (suc left) acc [] y e h = absurd (omega (arith, e))
long_complete kind (suc left) acc (d ∷ ds) y e h =
    let k : length ds ≡ left = omega (arith, e) in
    rw (le-ltb (room_at left) (acc * 256 + d) (fits_room left (acc * 256 + d) ds k h))
    (long_complete kind left (acc * 256 + d) ds y k h)

-- digits that are still to come only add to the least number
least_grows : (left n : ℕ) (bytes : List ℕ) → n ≤ least_number left n bytes
least_grows zero n bytes = omega arith
least_grows (suc left) n [] = let h = least_grows left (n * 256) [] in omega (arith, h)
least_grows (suc left) n (b ∷ bytes) = let h = least_grows left (n * 256 + b) bytes in omega (arith, h)

least_step : (left n : ℕ) (bytes : List ℕ) → n * 256 ≤ least_number (suc left) n bytes
least_step left n [] = least_grows left (n * 256) []
least_step left n (b ∷ bytes) = let h = least_grows left (n * 256 + b) bytes in omega (arith, h)

least_two : (left n : ℕ) (bytes : List ℕ) → n * 65536 ≤ least_number (suc (suc left)) n bytes
least_two left n [] = let h = least_step left (n * 256) [] in omega (arith, h)
least_two left n (b ∷ bytes) = let h = least_step left (n * 256 + b) bytes in omega (arith, h)

least_three : (left n : ℕ) (bytes : List ℕ) → n * 16777216 ≤ least_number (suc (suc (suc left))) n bytes
least_three left n [] = let h = least_two left (n * 256) [] in omega (arith, h)
least_three left n (b ∷ bytes) = let h = least_two left (n * 256 + b) bytes in omega (arith, h)

above_room : (left n : ℕ) (bytes : List ℕ) → room_at left < n → 1048576 < least_number left n bytes
above_room zero n bytes h = omega arith
above_room (suc zero) n bytes h = let k = least_step 0 n bytes in omega (arith, k)
above_room (suc (suc zero)) n bytes h = let k = least_two 0 n bytes in omega (arith, k)
above_room (suc (suc (suc left))) n bytes h = let k = least_three left n bytes in omega (arith, k)

least_zero : (left : ℕ) → least_number left 0 [] ≡ 0
least_zero zero = refl
least_zero (suc left) = least_zero left

within_room : (left n : ℕ) → n ≤ room_at left → least_number left n [] ≤ 1048576
within_room zero n h = omega arith
within_room (suc zero) n h = omega arith
within_room (suc (suc zero)) n h = omega arith
within_room (suc (suc (suc left))) n h =
    let e : n ≡ 0 = omega arith in
    rw (e, least_zero (suc (suc (suc left)))) (omega arith)

record TooLarge (left acc : ℕ) (bytes : List ℕ) (c : StreamFault) : Type 0 where
  pub cause_is : c ≡ fault.FrameSize
  pub large : 1048576 < least_number left acc bytes

long_bad : (kind : Kind) (left acc : ℕ) (bytes : List ℕ) (c : StreamFault)
    → long_size kind left acc bytes ≡ Bad c → TooLarge left acc bytes c
long_bad kind zero acc bytes c e = absurd (cc)
long_bad kind (suc left) acc [] c e = absurd (cc)
long_bad kind (suc left) acc (b ∷ bytes) c e =
    elim (cases_lt (room_at left) (acc * 256 + b)) [
      | inl h ↦ (let x = rw (lt-ltb (room_at left) (acc * 256 + b) h) at e in record {
        cause_is = cc;
        large = above_room left (acc * 256 + b) bytes h;
      })
      | inr h ↦ (let x = rw (le-ltb (room_at left) (acc * 256 + b) h) at e in
          let t = long_bad kind left (acc * 256 + b) bytes c x in record {
            cause_is = t.cause_is;
            large = t.large;
          })
    ]

large_bad : (kind : Kind) (left acc : ℕ) (bytes : List ℕ) → acc ≤ room_at left
    → 1048576 < least_number left acc bytes → long_size kind left acc bytes ≡ Bad fault.FrameSize
large_bad kind zero acc bytes a h = absurd (omega arith)
large_bad kind (suc left) acc [] a h = absurd (let k = within_room (suc left) acc a in omega (arith, k))
large_bad kind (suc left) acc (b ∷ bytes) a h =
    elim (cases_lt (room_at left) (acc * 256 + b)) [
      | inl k ↦ rw (lt-ltb (room_at left) (acc * 256 + b) k) refl
      | inr k ↦ rw (le-ltb (room_at left) (acc * 256 + b) k) (large_bad kind left (acc * 256 + b) bytes k h)
    ]

-- FLAGS

no_kind : (flag : ℕ) → 7 ≤ flag → kind_of flag ≡ None
no_kind flag h = grind (arith, nat_tests)

flag_is : (flag : ℕ) (kind : Kind) → kind_of flag ≡ Some kind → flag ≡ flag_of kind (is_long flag)
flag_is zero kind e = let k : Message Last ≡ kind = cc in rw (← k) refl
flag_is (suc zero) kind e = let k : Message More ≡ kind = cc in rw (← k) refl
flag_is (suc (suc zero)) kind e = let k : Message Last ≡ kind = cc in rw (← k) refl
flag_is (suc (suc (suc zero))) kind e = let k : Message More ≡ kind = cc in rw (← k) refl
flag_is (suc (suc (suc (suc zero)))) kind e = let k : Command ≡ kind = cc in rw (← k) refl
flag_is (suc (suc (suc (suc (suc zero))))) kind e = absurd (cc)
flag_is (suc (suc (suc (suc (suc (suc zero)))))) kind e = let k : Command ≡ kind = cc in rw (← k) refl
flag_is (suc (suc (suc (suc (suc (suc (suc n))))))) kind e =
    let k = no_kind (suc (suc (suc (suc (suc (suc (suc n))))))) (omega arith) in absurd (cc)

flag_says : (kind : Kind) (long : Bool)
    → (kind_of (flag_of kind long) ≡ Some kind) × (is_long (flag_of kind long) ≡ long)
flag_says Command false = (refl, refl)
flag_says Command true = (refl, refl)
flag_says (Message Last) false = (refl, refl)
flag_says (Message Last) true = (refl, refl)
flag_says (Message More) false = (refl, refl)
flag_says (Message More) true = (refl, refl)

-- HEADS

record Unrefused (o : Option StreamFault) (kind : Kind) (long : Bool) (bytes : List ℕ) (k : Kind)
    (from size : ℕ) : Type 0 where
  pub none : o ≡ None
  pub is : by_size kind long bytes ≡ Sized k from size

unrefused : (o : Option StreamFault) (kind : Kind) (long : Bool) (bytes : List ℕ) (k : Kind) (from size : ℕ)
    → unless_refused o kind long bytes ≡ Sized k from size → Unrefused o kind long bytes k from size
unrefused (Some c) kind long bytes k from size e = absurd (cc)
unrefused None kind long bytes k from size e = record { none = refl; is = e }

-- the frame at the front of the bytes
pub record Next (stage : Stage) (count : ℕ) (bytes : List ℕ) (kind : Kind) (from size : ℕ) : Type 0 where
  pub positive : 2 ≤ from
  pub raw : List ℕ
  pub allowed : from + size ≤ length bytes → IsAllowed stage count raw kind (take size (drop from bytes))
  pub split : from + size ≤ length bytes → bytes ≡ raw ++ drop (from + size) bytes

regroup : (k size : ℕ) (r : List ℕ) → r ≡ (take k r ++ take size (drop k r)) ++ drop (k + size) r
regroup k size r =
    sym (append_assoc (take k r) (take size (drop k r)) (drop (k + size) r)
    ∙ (ap (λ l. take k r ++ (take size (drop k r) ++ l)) (sym (drop-drop size k r))
    ∙ (ap (λ l. take k r ++ l) (take-append-drop size (drop k r)) ∙ take-append-drop k r)))

taken_size : (k size : ℕ) (r : List ℕ) → k + size ≤ length r → length (take size (drop k r)) ≡ size
taken_size k size r h = omega (arith, length-drop k r, length-take-le size (drop k r))

made : (stage : Stage) (count flag k size : ℕ) (kind : Kind) (long : Bool) (r : List ℕ)
    → IsSize long (take k r) size → flag ≡ flag_of kind long → refusal stage count kind ≡ None
    → size ≤ 1048576 → 1 ≤ k → Next stage count (flag ∷ r) kind (suc k) size
made stage count flag k size kind long r is f room fits p = record {
  positive = omega arith;
  raw = flag ∷ (take k r ++ take size (drop k r));
  allowed = λ h. (let w : length (take size (drop k r)) ≡ size = taken_size k size r (omega arith) in
      record {
        frame = record {
          long = long;
          digits = take k r;
          size = rw w is;
          spelled = ap (λ x. x ∷ (take k r ++ take size (drop k r))) f;
        };
        size = omega arith;
        here = room;
      });
  split = λ h. (let e : suc k + size ≡ suc (k + size) = omega arith in
      rw e (ap (λ l. flag ∷ l) (regroup k size r)));
}

sized_next : (stage : Stage) (count flag : ℕ) (kind : Kind) (long : Bool) (r : List ℕ) (k : Kind)
    (from size : ℕ) → flag ≡ flag_of kind long → refusal stage count kind ≡ None
    → by_size kind long r ≡ Sized k from size → ((i : ℕ) → get_or r i 0 < 256)
    → Next stage count (flag ∷ r) k from size
sized_next stage count flag kind true r k from size f room e low =
    let s = long_said kind 8 0 r k from size (omega arith) e in
    let n : Next stage count (flag ∷ r) kind 9 size = made stage count flag 8 size kind true r
    (length-take-le 8 r s.whole, s.number) f room s.fits (omega arith) in
    rw (s.same, s.at) n
sized_next stage count flag kind false [] k from size f room e low = absurd (cc)
sized_next stage count flag kind false (n ∷ r) k from size f room e low =
    let a : k ≡ kind = cc in
    let b : from ≡ 2 = cc in
    let d : n ≡ size = cc in
    let x : Next stage count (flag ∷ n ∷ r) kind 2 size = made stage count flag 1 size kind false (n ∷ r)
    (ap (λ x. x ∷ []) d) f room (let h : n < 256 = low 0 in omega (arith, d)) (omega arith) in
    rw (a, b) x

flagged_next : (stage : Stage) (count flag : ℕ) (ok : Option Kind) (r : List ℕ) (k : Kind) (from size : ℕ)
    → ok ≡ kind_of flag → by_flag stage count ok (is_long flag) r ≡ Sized k from size
    → ((i : ℕ) → get_or r i 0 < 256) → Next stage count (flag ∷ r) k from size
flagged_next stage count flag None r k from size is e low = absurd (cc)
flagged_next stage count flag (Some kind) r k from size is e low =
    let u = unrefused (refusal stage count kind) kind (is_long flag) r k from size e in
    sized_next stage count flag kind (is_long flag) r k from size (flag_is flag kind (sym is)) u.none u.is low

frame_next : (stage : Stage) (count : ℕ) (bytes : List ℕ) (kind : Kind) (from size : ℕ)
    → ((i : ℕ) → get_or bytes i 0 < 256) → frame_head stage count bytes ≡ Sized kind from size
    → Next stage count bytes kind from size
frame_next stage count [] kind from size low e = absurd (cc)
frame_next stage count (flag ∷ r) kind from size low e =
    flagged_next stage count flag (kind_of flag) r kind from size refl e (λ i. low (suc i))

greeting_never : (o : Option StreamFault) (bytes : List ℕ) (kind : Kind) (from size : ℕ)
    → greeting_head o bytes ≡ Sized kind from size → ⊥
greeting_never (Some c) bytes kind from size e = cc
greeting_never None bytes kind from size e =
    elim (nat_le 64 (length bytes)) as (λ b. (if b then Greets else Wants) ≡ Sized kind from size
    → ⊥) [ true ↦ (λ k. cc) | false ↦ (λ k. cc) ] e

pub next_of : (stage : Stage) (count : ℕ) (bytes : List ℕ) (kind : Kind) (from size : ℕ)
    → ((i : ℕ) → get_or bytes i 0 < 256) → head_of stage count bytes ≡ Sized kind from size
    → Next stage count bytes kind from size
next_of Greeting count bytes kind from size low e =
    absurd (greeting_never (first_broken 0 bytes) bytes kind from size e)
next_of Handshake count bytes kind from size low e = frame_next Handshake count bytes kind from size low e
next_of Traffic count bytes kind from size low e = frame_next Traffic count bytes kind from size low e

-- EACH ALLOWED FRAME IS READ

pub head_past : (stage : Stage) (count : ℕ) (bytes : List ℕ) → (stage ≡ Greeting → ⊥)
    → head_of stage count bytes ≡ frame_head stage count bytes
head_past Greeting count bytes past = absurd (past refl)
head_past Handshake count bytes past = refl
head_past Traffic count bytes past = refl

pub never_first : (stage : Stage) (count : ℕ) (kind : Kind) → refusal stage count kind ≡ None
    → stage ≡ Greeting → ⊥
never_first Greeting count kind e h = cc
never_first Handshake count kind e h = cc
never_first Traffic count kind e h = cc

sized_complete : (kind : Kind) (long : Bool) (body digits x : List ℕ) → IsSize long digits (length body)
    → length body ≤ 1048576 → by_size kind long (digits ++ (body ++ x)) ≡ Sized kind
    (length digits + 1) (length body)
sized_complete kind true body digits x s m =
    let n : number_from 0 digits ≤ 1048576 = (let a = s.1 in omega (arith, a, m)) in
    let e : length digits + 1 ≡ 9 = (let a = s.0 in omega (arith, a)) in
    long_complete kind 8 0 digits (body ++ x) s.0 n ∙ rw (e, s.1) refl
sized_complete kind false body digits x s m = rw s refl

complete : (stage : Stage) (count : ℕ) (kind : Kind) (body digits x : List ℕ) (long : Bool)
    → IsSize long digits (length body) → length body ≤ 1048576 → refusal stage count kind ≡ None
    → frame_head stage count (flag_of kind long ∷ (digits ++ (body ++ x))) ≡ Sized kind
    (length digits + 1) (length body)
complete stage count kind body digits x long s m here =
    let f = flag_says kind long in
    rw (f.0, f.1, here) (sized_complete kind long body digits x s m)

body_of : (flag : ℕ) (d b o : List ℕ) → take (length b) (drop (length d + 1) (flag ∷ (d ++ (b ++ o)))) ≡ b
body_of flag d b o = rw (add-one, drop-append_seam d (b ++ o)) (take-append_seam b o)

others_of : (flag : ℕ) (d b o : List ℕ) → drop (length d + 1 + length b) (flag ∷ (d ++ (b ++ o))) ≡ o
others_of flag d b o =
    sym (drop-drop (length b) (length d + 1) (flag ∷ (d ++ (b ++ o))))
    ∙ rw (add-one, drop-append_seam d (b ++ o)) (drop-append_seam b o)

-- what the front of the bytes says, where an allowed frame stands there
pub record Front (stage : Stage) (count : ℕ) (bytes : List ℕ) (kind : Kind)
    (body others : List ℕ) : Type 0 where
  pub from : ℕ
  pub says : head_of stage count bytes ≡ Sized kind from (length body)
  pub body_is : take (length body) (drop from bytes) ≡ body
  pub fits : from + length body ≤ length bytes
  pub others_are : drop (from + length body) bytes ≡ others

pub front_of : (stage : Stage) (count : ℕ) (bytes raw others body : List ℕ) (kind : Kind)
    → IsAllowed stage count raw kind body → bytes ≡ raw ++ others → Front stage count bytes kind body others
front_of stage count bytes raw others body kind a e =
    let f = a.frame in
    let flag = flag_of kind f.long in
    let is : bytes ≡ flag ∷ (f.digits ++ (body ++ others)) =
    e ∙ (ap (λ l. l ++ others) f.spelled ∙ ap (λ l. flag ∷ l) (append_assoc f.digits body others)) in
    record {
      from = length f.digits + 1;
      says = head_past stage count bytes (never_first stage count kind a.here)
          ∙ rw is (complete stage count kind body f.digits others f.long f.size a.size a.here);
      body_is = rw is (body_of flag f.digits body others);
      fits = rw is (omega (arith, length-append f.digits (body ++ others), length-append body others));
      others_are = rw is (others_of flag f.digits body others);
    }

pub record SameFront (kind kind' : Kind) (body body' others others' : List ℕ) : Type 0 where
  pub kind_is : kind ≡ kind'
  pub body_is : body ≡ body'
  pub others_are : others ≡ others'

-- an allowed frame stands at the front in one way only
pub same_front : (stage : Stage) (count : ℕ) (bytes body body' others others' : List ℕ) (kind kind' : Kind)
    → Front stage count bytes kind body others → Front stage count bytes kind' body' others'
    → SameFront kind kind' body body' others others'
same_front stage count bytes body body' others others' kind kind' f g =
    let e : Sized kind f.from (length body) ≡ Sized kind' g.from (length body') = sym f.says ∙ g.says in
    let a : kind ≡ kind' = cc in
    let b : f.from ≡ g.from = cc in
    let n : length body ≡ length body' = cc in
    record {
      kind_is = a;
      body_is = sym f.body_is ∙ (ap (λ k. take k (drop f.from bytes)) n
          ∙ (ap (λ k. take (length body') (drop k bytes)) b ∙ g.body_is));
      others_are = sym f.others_are ∙ (ap (λ k. drop (f.from + k) bytes) n
          ∙ (ap (λ k. drop (k + length body') bytes) b ∙ g.others_are));
    }

-- FAULTS IN FLAGS AND SIZES

flagged_bad : (stage : Stage) (count : ℕ) (ok : Option Kind) (long : Bool) (bytes : List ℕ) (c : StreamFault)
    → broken_by_kind stage count ok ≡ Some c → by_flag stage count ok long bytes ≡ Bad c
flagged_bad stage count None long bytes c e = let k : fault.Flags ≡ c = cc in rw k refl
flagged_bad stage count (Some kind) long bytes c e = rw e refl

pub flag_bad : (stage : Stage) (count : ℕ) (bytes others : List ℕ) (flag : ℕ) (c : StreamFault)
    → bytes ≡ flag ∷ others → broken_by_flag stage count flag ≡ Some c → frame_head stage count bytes ≡ Bad c
flag_bad stage count bytes others flag c is e =
    rw is (flagged_bad stage count (kind_of flag) (is_long flag) others c e)

flagged_large : (stage : Stage) (count : ℕ) (ok : Option Kind) (bytes : List ℕ)
    → broken_by_kind stage count ok ≡ None → 1048576 < least_number 8 0 bytes
    → by_flag stage count ok true bytes ≡ Bad fault.FrameSize
flagged_large stage count None bytes e h = absurd (cc)
flagged_large stage count (Some kind) bytes e h = rw e (large_bad kind 8 0 bytes (omega arith) h)

pub size_bad : (stage : Stage) (count : ℕ) (bytes others : List ℕ) (flag : ℕ) → bytes ≡ flag ∷ others
    → broken_by_flag stage count flag ≡ None → is_long flag ≡ true → 1048576 < least_number 8 0 others
    → frame_head stage count bytes ≡ Bad fault.FrameSize
size_bad stage count bytes others flag is e long h =
    rw (is, long) (flagged_large stage count (kind_of flag) others e h)

-- why the head of a frame is bad: its flag or its size
pub data HeadFault (stage : Stage) (count : ℕ) : List ℕ → StreamFault → Type 0 where
  BadFlag : (bytes others : List ℕ) (flag : ℕ) (c : StreamFault) → bytes ≡ flag ∷ others
      → broken_by_flag stage count flag ≡ Some c → HeadFault stage count bytes c
  BadSize : (bytes others : List ℕ) (flag : ℕ) (c : StreamFault) → bytes ≡ flag ∷ others
      → broken_by_flag stage count flag ≡ None → is_long flag ≡ true → 1048576 < least_number 8 0 others
      → c ≡ fault.FrameSize → HeadFault stage count bytes c

sized_fault : (stage : Stage) (count flag : ℕ) (kind : Kind) (long : Bool) (r : List ℕ) (c : StreamFault)
    → broken_by_flag stage count flag ≡ None → long ≡ is_long flag → by_size kind long r ≡ Bad c
    → HeadFault stage count (flag ∷ r) c
sized_fault stage count flag kind true r c none is e =
    let t = long_bad kind 8 0 r c e in BadSize (flag ∷ r) r flag c refl none (sym is) t.large t.cause_is
sized_fault stage count flag kind false [] c none is e = absurd (cc)
sized_fault stage count flag kind false (n ∷ r) c none is e = absurd (cc)

unrefused_fault : (stage : Stage) (count flag : ℕ) (o : Option StreamFault) (kind : Kind) (r : List ℕ)
    (c : StreamFault) → broken_by_flag stage count flag ≡ o → unless_refused o kind (is_long flag) r ≡ Bad c
    → HeadFault stage count (flag ∷ r) c
unrefused_fault stage count flag (Some d) kind r c is e =
    let k : d ≡ c = cc in BadFlag (flag ∷ r) r flag c refl (is ∙ ap Some k)
unrefused_fault stage count flag None kind r c is e =
    sized_fault stage count flag kind (is_long flag) r c is refl e

flagged_fault : (stage : Stage) (count flag : ℕ) (ok : Option Kind) (r : List ℕ) (c : StreamFault)
    → kind_of flag ≡ ok → by_flag stage count ok (is_long flag) r ≡ Bad c → HeadFault stage count (flag ∷ r) c
flagged_fault stage count flag None r c is e =
    let k : fault.Flags ≡ c = cc in BadFlag (flag ∷ r) r flag c refl
    (ap (broken_by_kind stage count) is ∙ ap Some k)
flagged_fault stage count flag (Some kind) r c is e =
    unrefused_fault stage count flag (refusal stage count kind) kind r c
    (ap (broken_by_kind stage count) is) e

pub fault_of : (stage : Stage) (count : ℕ) (bytes : List ℕ) (c : StreamFault)
    → frame_head stage count bytes ≡ Bad c → HeadFault stage count bytes c
fault_of stage count [] c e = absurd (cc)
fault_of stage count (flag ∷ r) c e = flagged_fault stage count flag (kind_of flag) r c refl e

-- NO GREETING PAST THE GREETING

sized_no_greeting : (kind : Kind) (left acc : ℕ) (bytes : List ℕ) → long_size kind left acc bytes ≡ Greets → ⊥
sized_no_greeting kind zero acc bytes e = cc
sized_no_greeting kind (suc left) acc [] e = cc
sized_no_greeting kind (suc left) acc (b ∷ bytes) e =
    elim (cases_lt (room_at left) (acc * 256 + b)) [
      | inl h ↦ (let x = rw (lt-ltb (room_at left) (acc * 256 + b) h) at e in cc)
      | inr h ↦ (let x = rw (le-ltb (room_at left) (acc * 256 + b) h) at e in
          sized_no_greeting kind left (acc * 256 + b) bytes x)
    ]

unrefused_no_greeting : (o : Option StreamFault) (kind : Kind) (long : Bool) (bytes : List ℕ)
    → unless_refused o kind long bytes ≡ Greets → ⊥
unrefused_no_greeting (Some c) kind long bytes e = cc
unrefused_no_greeting None kind true bytes e = sized_no_greeting kind 8 0 bytes e
unrefused_no_greeting None kind false [] e = cc
unrefused_no_greeting None kind false (n ∷ bytes) e = cc

flagged_no_greeting : (stage : Stage) (count : ℕ) (ok : Option Kind) (long : Bool) (bytes : List ℕ)
    → by_flag stage count ok long bytes ≡ Greets → ⊥
flagged_no_greeting stage count None long bytes e = cc
flagged_no_greeting stage count (Some kind) long bytes e =
    unrefused_no_greeting (refusal stage count kind) kind long bytes e

pub no_greeting : (stage : Stage) (count : ℕ) (bytes : List ℕ) → frame_head stage count bytes ≡ Greets → ⊥
no_greeting stage count [] e = cc
no_greeting stage count (flag ∷ bytes) e =
    flagged_no_greeting stage count (kind_of flag) (is_long flag) bytes e
