-- What was written, one part after the other.
use Rattle.std.proofs.Common.{◌≡◌, ℕ, List, [], ◌++◌, Option, sym, ap, subst, ◌∙◌, append-nil, append_assoc}
use Rattle.zmtp_wire.specs.declared.role.Role.{Role}
use Rattle.zmtp_wire.specs.Writing.{written_greeting, IsReadyOf}
use Rattle.base_streams.specs.States.{OutletState}
use Rattle.base_streams.specs.Told.{Told, ToldPrefix, Took, TookPrefix}
use Rattle.base_streams.proofs.TellLemmas.{told_on}
use Rattle.zmtp_wire.specs.Sending.{IsHandshakeOf, WroteGreeting, WrotePrefix, WroteWhole}

pub front_all : (a b : Option (List ℕ)) (x : List ℕ) → Told a b x → ToldPrefix a b x
front_all a b x o = record { front = x; others = []; told = o; whole = sym (append-nil x) }

pub front_before : (a b : Option (List ℕ)) (x y : List ℕ) → ToldPrefix a b x → ToldPrefix a b (x ++ y)
front_before a b x y f = record {
  front = f.front;
  others = f.others ++ y;
  told = f.told;
  whole = ap (λ (l : List ℕ). l ++ y) f.whole ∙ append_assoc f.front f.others y;
}

pub front_on : (a b c : Option (List ℕ)) (x y : List ℕ) → Told a b x → ToldPrefix b c y
    → ToldPrefix a c (x ++ y)
front_on a b c x y o f = record {
  front = x ++ f.front;
  others = f.others;
  told = told_on a b c x f.front o f.told;
  whole = ap (λ (l : List ℕ). x ++ l) f.whole ∙ sym (append_assoc x f.front f.others);
}

spelled : (greeting ready : List ℕ) (role : Role) → greeting ≡ written_greeting → IsReadyOf ready role
    → IsHandshakeOf (greeting ++ ready) role
spelled greeting ready role e r =
    record { ready = ready; is_ready = r; spelled = ap (λ (l : List ℕ). l ++ ready) e }

-- a prefix of the greeting was written
pub wrote_greeting : (a b : OutletState) (greeting ready : List ℕ) (role : Role)
    → greeting ≡ written_greeting → IsReadyOf ready role → TookPrefix a b greeting → WrotePrefix a b role
wrote_greeting a b greeting ready role e r f = record {
  handshake = greeting ++ ready;
  is = spelled greeting ready role e r;
  front = front_before a.taken b.taken greeting ready f;
}

-- the greeting was written whole
pub wrote_greeting_whole : (a b : OutletState) (greeting ready : List ℕ) (role : Role)
    → greeting ≡ written_greeting → IsReadyOf ready role → Took a b greeting → WrotePrefix a b role
wrote_greeting_whole a b greeting ready role e r o =
    wrote_greeting a b greeting ready role e r (front_all a.taken b.taken greeting o)

-- and then a prefix of READY
pub wrote_ready : (a b c : OutletState) (greeting ready : List ℕ) (role : Role)
    → greeting ≡ written_greeting → IsReadyOf ready role → Took a b greeting → TookPrefix b c ready
    → WrotePrefix a c role
wrote_ready a b c greeting ready role e r o f = record {
  handshake = greeting ++ ready;
  is = spelled greeting ready role e r;
  front = front_on a.taken b.taken c.taken greeting ready o f;
}

-- and then READY whole
pub wrote_whole : (a b c : OutletState) (greeting ready : List ℕ) (role : Role)
    → greeting ≡ written_greeting → IsReadyOf ready role → Took a b greeting → Took b c ready
    → WroteWhole a c role
wrote_whole a b c greeting ready role e r o p = record {
  handshake = greeting ++ ready;
  is = spelled greeting ready role e r;
  took = told_on a.taken b.taken c.taken greeting ready o p;
}

pub wrote_ready_whole : (a b c : OutletState) (greeting ready : List ℕ) (role : Role)
    → greeting ≡ written_greeting → IsReadyOf ready role → Took a b greeting → Took b c ready
    → WrotePrefix a c role
wrote_ready_whole a b c greeting ready role e r o p =
    wrote_ready a b c greeting ready role e r o (front_all b.taken c.taken ready p)

-- ---- the greeting was written whole

pub greeted : (a b : OutletState) (greeting : List ℕ) → greeting ≡ written_greeting → Took a b greeting
    → WroteGreeting a b
greeted a b greeting e o = record {
  more = [];
  took = subst (λ (l : List ℕ). Told a.taken b.taken l) (e ∙ sym (append-nil written_greeting)) o;
}

-- and then a prefix of READY
pub greeted_on : (a b c : OutletState) (greeting ready : List ℕ) → greeting ≡ written_greeting
    → Took a b greeting → TookPrefix b c ready → WroteGreeting a c
greeted_on a b c greeting ready e o f = record {
  more = f.front;
  took =
      subst (λ (l : List ℕ). Told a.taken c.taken (l ++ f.front)) e
      (told_on a.taken b.taken c.taken greeting f.front o f.told);
}

-- and then READY whole
pub greeted_whole : (a b c : OutletState) (greeting ready : List ℕ) → greeting ≡ written_greeting
    → Took a b greeting → Took b c ready → WroteGreeting a c
greeted_whole a b c greeting ready e o p =
    greeted_on a b c greeting ready e o (front_all b.taken c.taken ready p)
