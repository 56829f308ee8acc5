-- What one call on the value makes of the entries that were found.
use Rattle.std.proofs.Common.{◌≡◌, ◌≢◌, ℕ, ◌+◌, ◌%◌, ◌<◌, ◌≤◌, Bool, true, false, List, [], ◌∷◌, ◌++◌, length}
use Rattle.std.proofs.Common.{Some, None, refl, ap, sym, ◌∙◌, subst, arith, length-append, Option}
use mathlib.Core.List.{IsPrefix}
use mathlib.Core.Option.{none}
use Rattle.atomic_table.specs.Table.{Me, rest, step, Allows}
use Rattle.atomic_table.specs.Seated.{TableId}
use Rattle.lab_turn.specs.declared.view.View.{View}
use Rattle.lab_turn.specs.History.{calls_of, Turned}
use Rattle.lab_turn.specs.Turns.{with_ticket, with_found, passed, Ruled, passed_on, Served, pass_of}
use Rattle.lab_turn.proofs.HistoryLemmas.{prefix_self, calls_own, calls_other, all_made}
use Rattle.lab_turn.proofs.Steps.{passes_on}

-- the slot that was taken last
pub on_top : {S : Type 0} (c : List (ℕ × S)) (k : ℕ) (y : S) → c ≡ (k, y) ∷ [] → c ≡ (k, y) ∷ rest c
on_top c k y e = e ∙ ap (λ z. (k, y) ∷ rest z) (sym e)

module _ {J C Y : Type 0} (E : J → List (ℕ × C)) (L : J → ℕ) (answer : List (ℕ × C) → C → Y)
    (is_entry is_full : Y → Bool) where
  -- the clauses of a call on x, which is then y
  pub record Acted (x y : J) (seat : ℕ) (call : C) (reply : Y) : Type 0 where
    pub limit : L y ≡ L x
    pub entered : is_entry reply ≡ true → E y ≡ E x ++ (seat, call) ∷ []
    pub answered : is_entry reply ≡ true → reply ≡ answer (E x) call
    pub room : is_entry reply ≡ true → length (E x) < L x
    pub refused : is_entry reply ≡ false → y ≡ x
    pub full : is_full reply ≡ true → (is_entry reply ≡ false) × (length (E x) ≡ L x)

  pub record Goes (x y : J) (seat : ℕ) : Type 0 where
    pub more : IsPrefix (E x) (E y)
    pub others : (k : ℕ) → k ≢ seat → calls_of k (E y) ≡ calls_of k (E x)
    pub legal : length (E y) ≤ L y

  pub goes : (x y : J) (seat : ℕ) (call : C) (reply : Y) → Acted x y seat call reply → length (E x) ≤ L x
      → (b : Bool) → is_entry reply ≡ b → Goes x y seat
  goes x y seat call reply a legal true is =
      let e = a.entered is in let lim = a.limit in let room = a.room is in record {
        more = ((seat, call) ∷ [], sym e);
        others = λ k far. ap (calls_of k) e ∙ calls_other k seat (E x) call far;
        legal = omega (arith, ap length e, length-append (E x) ((seat, call) ∷ []));
      }
  goes x y seat call reply a legal false is = let e = ap E (a.refused is) in let lim = a.limit in record {
    more = subst (IsPrefix (E x)) (sym e) (prefix_self (E x));
    others = λ k far. ap (calls_of k) e;
    legal = omega (arith, ap length e);
  }

  -- the token's part after the value was taken out of the slot and put back
  carried : (m0 m1 m2 : Me (Option J) (View C)) (v : View C) (x y : J) → m0 ≡ (v, (0, Some x) ∷ [])
      → m1 ≡ (m0.0, (0, None) ∷ rest m0.1) → m2 ≡ (m1.0, (0, Some y) ∷ rest m1.1) → m2 ≡ (v, (0, Some y) ∷ [])
  carried m0 m1 m2 v x y h0 h1 h2 =
      let nothing : Option J = None in
      h2 ∙ ap (λ (m : Me (Option J) (View C)). (m.0, (0, Some y) ∷ rest m.1))
      (h1 ∙ ap (λ (m : Me (Option J) (View C)). (m.0, (0, nothing) ∷ rest m.1)) h0)

  taken_is : (c : List (ℕ × Option J)) (x z : J) (r : Option J) → c ≡ (0, Some x) ∷ [] → c ≡ (0, r) ∷ rest c
      → r ≡ Some z → x ≡ z
  taken_is c x z r e f g =
      let p : ℕ × Option J = (0, Some x) in let q : ℕ × Option J = (0, r) in
      let both : p ∷ [] ≡ q ∷ rest c = sym e ∙ f in let heads : p ≡ q = cc in
      let tops : Some x ≡ r = ap (λ (z : ℕ × Option J). z.1) heads in let all : Some x ≡ Some z = tops ∙ g in
      cc

  -- a turn up to the value that is put back: what was served to the ticket, the call on its value, what that
  -- makes of the entries, and that its value lies there
  pub record Went (v : View C) (t : ℕ) (m m2 : Me (Option J) (View C)) (y : J) (call : C) (reply : Y) : Type 0
    where
      pub served : Served E L (with_ticket E L v t) m
      pub acted : Acted served.value y v.seat call reply
      pub goes : Goes served.value y v.seat
      pub put : m2 ≡ (with_found E L (with_ticket E L v t) (E served.value), (0, Some y) ∷ [])

  pub went : (v : View C) (t seat : ℕ) (m0 m m1 m2 : Me (Option J) (View C)) (y z : J) (r : Option J)
      (call : C) (reply : Y) → m0 ≡ (with_ticket E L v t, []) → Served E L m0.0 m → m.1 ≡ (0, r) ∷ rest m.1
      → r ≡ Some z
      → m1 ≡ (m.0, (0, None) ∷ rest m.1) → m2 ≡ (m1.0, (0, Some y) ∷ rest m1.1) → seat ≡ v.seat
      → Acted z y seat call reply → Went v t m m2 y call reply
  went v t seat m0 m m1 m2 y z r call reply drew served top found out back at a =
      let s = subst (λ (m0 : Me (Option J) (View C)). Served E L m0.0 m) drew served in
      let same = taken_is m.1 s.value z r (ap (λ m. m.1) s.out) top found in
      let acted =
      subst (λ (k : ℕ). Acted s.value y k call reply) at
      (subst (λ (x : J). Acted x y seat call reply) (sym same) a) in
      record {
        served = s;
        acted = acted;
        goes =
            goes s.value y v.seat call reply acted (subst (λ n. length (E s.value) ≤ n) (sym s.limit) s.legal)
            (is_entry reply) refl;
        put = carried m m1 m2 (with_found E L (with_ticket E L v t) (E s.value)) s.value y s.out out back;
      }

  -- what the turn made of the pass, by what its view was and is
  turned_of : (table : TableId) (v : View C) (t : ℕ) (m m2 : Me (Option J) (View C)) (y : J) (call : C)
      (reply : Y) → (w : Went v t m m2 y call reply)
      → Turned answer is_entry is_full (pass_of table v) call reply
      (pass_of table (passed E L (with_found E L (with_ticket E L v t) (E w.served.value)) (E y)))
  turned_of table v t m m2 y call reply w =
      let s = w.served in
      let a = w.acted in
      let x : J = s.value in
      let member = s.member in record {
        same = (refl, refl, refl);
        legal = record {
          fits = subst (λ n. length (E y) ≤ n) (a.limit ∙ s.limit) w.goes.legal;
          made =
              all_made v.seats (E y) (λ k le. w.goes.others k (λ is. absurd (omega arith))
              ∙ s.strangers k le);
        };
        own = refl;
        entered = λ is. let e = a.entered is in record {
          before = E x;
          history = e;
          onward = s.seen;
          answered = a.answered is;
          counted = ap (calls_of v.seat) e ∙ (calls_own v.seat (E x) call ∙ ap (λ l. l ++ call ∷ []) s.calls);
        };
        refused = λ is. let e = ap E (a.refused is) in
            record {
              onward = subst (IsPrefix v.seen) (sym e) s.seen;
              counted = ap (calls_of v.seat) e ∙ s.calls;
            };
        full = λ is. let f = a.full is in (f.0, ap (λ v. length (E v)) (a.refused f.0) ∙ (f.1 ∙ s.limit));
      }

  pub passes_turn : (limit seats slots id t : ℕ) (m me : Me (Option J) (View C)) (v : View C) (y : J)
      (call : C) (reply : Y) → v.spent ≡ false → Went v t m me y call reply
      → Allows (Ruled E L seats limit) slots id me 1 (λ n. (n + 1) % 18446744073709551616)
      (passed_on E L (step slots 1 1 0 none) me)
  passes_turn limit seats slots id t m me v y call reply alive w =
      let x : J = w.served.value in
      let v' : View C = with_found E L (with_ticket E L v t) (E x) in
      let all : L y ≡ v.limit = w.acted.limit ∙ w.served.limit in
      subst (λ (m : Me (Option J) (View C)). Allows (Ruled E L seats limit) slots id m 1
      (λ n. (n + 1) % 18446744073709551616) (passed_on E L (step slots 1 1 0 none) m)) (sym w.put)
      (passes_on E L limit seats slots id t (v', (0, Some y) ∷ []) y (E x) alive refl refl refl w.goes.more
      w.goes.others (subst (λ n. length (E y) ≤ n) all w.goes.legal) all)

  -- what the turn is of the pass, once it is passed on
  pub ended : (table : TableId) (v : View C) (t : ℕ) (m m2 m3 : Me (Option J) (View C)) (y : J) (call : C)
      (reply : Y) → Went v t m m2 y call reply
      → ((x : J) → m2.1 ≡ (0, Some x) ∷ [] → m3 ≡ (passed E L m2.0 (E x), []))
      → Turned answer is_entry is_full (pass_of table v) call reply (pass_of table m3.0)
  ended table v t m m2 m3 y call reply w told =
      let end =
      told y (ap (λ m. m.1) w.put) ∙ ap (λ (m : Me (Option J) (View C)). (passed E L m.0 (E y), []))
      w.put in
      subst (λ (m : Me (Option J) (View C)). Turned answer is_entry is_full (pass_of table v) call reply
      (pass_of table m.0)) (sym end) (turned_of table v t m m2 y call reply w)
