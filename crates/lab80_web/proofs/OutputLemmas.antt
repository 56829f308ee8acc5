-- What was written, one message after the other.
use Rattle.std.proofs.Common.{ℕ, ◌+◌, ◌<◌, length, take, get_or, Result, Ok, Err}
use Rattle.std.specs.Prelude.{flat_map}
use Rattle.std.proofs.lemmas.List.{take_more}
use Rattle.std.proofs.lemmas.Grind.{flat_map-append}
use Rattle.zmtp_wire.specs.Sending.{Writes}
use Rattle.zmtp_wire.specs.declared.peer_fault.PeerFault.{PeerFault}
use Rattle.lab80_web.specs.Steps.{WritesOutputs}
use Rattle.std.proofs.Common.{◌≡◌, ◌∙◌, List, [], ◌∷◌, ◌++◌, refl, sym, ap, append_assoc, append-nil}
use Rattle.zmtp_wire.specs.Wire.{Bytes, Frames}
use Rattle.zmtp_wire.specs.Writing.{message_bytes}
use Rattle.zmtp_wire.proofs.SendingLemmas.{front_all, front_on}
use Rattle.zmtp_wire.proofs.ReceivingLemmas.{told_none}
use Rattle.base_streams.specs.States.{OutletState}
use Rattle.base_streams.specs.Told.{Took, TookPrefix}
use Rattle.base_streams.proofs.TellLemmas.{told_on}
use Rattle.lab80_web.specs.Outputs.{Output, IsMessageOf, IsStreamOf, WroteAll, WrotePrefix}

pub no_outputs : IsStreamOf [] []
unfolding IsStreamOf
no_outputs = refl

one_output : (output : Output) (frames : Frames) → IsMessageOf output frames
    → IsStreamOf (output ∷ []) (message_bytes frames)
unfolding IsStreamOf
one_output output frames is = (frames, [], is, refl, sym (append-nil (message_bytes frames)))

-- streams join
pub stream-append : (xs ys : List Output) (a b : Bytes) → IsStreamOf xs a → IsStreamOf ys b
    → IsStreamOf (xs ++ ys) (a ++ b)
unfolding IsStreamOf
stream-append [] ys a b s t = rw s t
stream-append (x ∷ xs) ys a b (frames, others, is, s, e) t = (
  frames,
  others ++ b,
  is,
  stream-append xs ys others b s t,
  ap (λ l. l ++ b) e ∙ append_assoc (message_bytes frames) others b,
)

-- ---- all of some outputs, or a prefix

pub wrote_none : (a : OutletState) → WroteAll a a []
wrote_none a = record { bytes = []; stream = no_outputs; took = told_none a.taken }

pub wrote_one : (a b : OutletState) (output : Output) (frames : Frames) → IsMessageOf output frames
    → Took a b (message_bytes frames) → WroteAll a b (output ∷ [])
wrote_one a b output frames is took =
    record { bytes = message_bytes frames; stream = one_output output frames is; took = took }

pub began_one : (a b : OutletState) (output : Output) (frames : Frames) → IsMessageOf output frames
    → TookPrefix a b (message_bytes frames) → WrotePrefix a b (output ∷ [])
began_one a b output frames is front = record {
  begun = output ∷ [];
  others = [];
  split = refl;
  bytes = message_bytes frames;
  stream = one_output output frames is;
  front = front;
}

pub began_none : (a : OutletState) (outputs : List Output) → WrotePrefix a a outputs
began_none a outputs = record {
  begun = [];
  others = outputs;
  split = refl;
  bytes = [];
  stream = no_outputs;
  front = front_all a.taken a.taken [] (told_none a.taken);
}

pub wrote_on : (a b c : OutletState) (xs ys : List Output) → WroteAll a b xs → WroteAll b c ys
    → WroteAll a c (xs ++ ys)
wrote_on a b c xs ys v w = record {
  bytes = v.bytes ++ w.bytes;
  stream = stream-append xs ys v.bytes w.bytes v.stream w.stream;
  took = told_on a.taken b.taken c.taken v.bytes w.bytes v.took w.took;
}

pub began_on : (a b c : OutletState) (xs ys : List Output) → WroteAll a b xs → WrotePrefix b c ys
    → WrotePrefix a c (xs ++ ys)
began_on a b c xs ys v w = record {
  begun = xs ++ w.begun;
  others = w.others;
  split = ap (λ l. xs ++ l) w.split ∙ sym (append_assoc xs w.begun w.others);
  bytes = v.bytes ++ w.bytes;
  stream = stream-append xs w.begun v.bytes w.bytes v.stream w.stream;
  front = front_on a.taken b.taken c.taken v.bytes w.bytes v.took w.front;
}

pub began_more : (a b : OutletState) (xs ys : List Output) → WrotePrefix a b xs → WrotePrefix a b (xs ++ ys)
began_more a b xs ys w = record {
  begun = w.begun;
  others = w.others ++ ys;
  split = ap (λ l. l ++ ys) w.split ∙ append_assoc w.begun w.others ys;
  bytes = w.bytes;
  stream = w.stream;
  front = w.front;
}

pub began_all : (a b : OutletState) (xs : List Output) → WroteAll a b xs → WrotePrefix a b xs
began_all a b xs w = record {
  begun = xs;
  others = [];
  split = sym (append-nil xs);
  bytes = w.bytes;
  stream = w.stream;
  front = front_all a.taken b.taken w.bytes w.took;
}

-- ---- one message

pub writes_one : (output : Output) (frames : Frames) (a b : OutletState)
    (result : Result (Unit {0}) PeerFault) → IsMessageOf output frames
    → Writes (message_bytes frames) a b result
    → WritesOutputs (output ∷ []) a b result
writes_one output frames a b (Ok done) is w = (wrote_one a b output frames is w.0, w.1)
writes_one output frames a b (Err fault) is w = (began_one a b output frames is w.0, w.1)

-- the numbers of connections, one more
pub flat_map_more : {A B : Type 0} (f : A → List B) (xs : List A) (i : ℕ) (x : A) → i < length xs
    → x ≡ get_or xs i x → flat_map f (take (i + 1) xs) ≡ flat_map f (take i xs) ++ f x
flat_map_more f xs i x h e =
    rw (take_more xs i x h, ← e)
    (flat_map-append f (take i xs) (x ∷ []) ∙ ap (λ l. flat_map f (take i xs) ++ l) (append-nil (f x)))
