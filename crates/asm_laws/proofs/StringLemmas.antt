-- Strings, from what stands between their quotes and from their characters.
use Rattle.std.proofs.Common.{◌≡◌, ℕ, suc, ◌+◌, ◌<◌, ◌≤◌, List, [], ◌∷◌, ◌++◌, Bool, true, false, length}
use Rattle.std.proofs.Common.{take, drop, Option, Some, None, Ok, Err, refl, sym, ap, ◌∙◌, arith, eqb}
use Rattle.std.proofs.Common.{append_assoc, length-append}
use Rattle.std.proofs.Math.Seq.{take-append_seam}
use Rattle.std.specs.Prelude.{nat_lt, nat_le, ◌&&◌}
use Rattle.std.specs.List.{list_all}
use Rattle.std.proofs.lemmas.Bool.{and_parts, eqb-true, lt-ltb, le-leb, ltb-true, leb-true}
use Rattle.asm_syntax.specs.declared.fault.FaultKind.TheVariants as kind
use Rattle.asm_syntax.specs.Lexemes.{characters_of, Text}
use Rattle.asm_lex.specs.Characters.{is_printed}
use Rattle.asm_lex.specs.Texts.{moved_by, closing_quote, is_text}
use Rattle.asm_lex.specs.Tokens.{text_read}
use Rattle.asm_lex.specs.Spelling.{Stops, is_quote, with_quotes_doubled, IsString}

other_first : (c : ℕ) (t : List ℕ) → eqb c 39 ≡ false → characters_of (c ∷ t) ≡ c ∷ characters_of t
other_first c [] e = refl
other_first c (d ∷ t) e = rw e refl

doubled_step : (c : ℕ) (cs : List ℕ) (v : Bool) → eqb c 39 ≡ v → characters_of (with_quotes_doubled cs) ≡ cs
    → characters_of (with_quotes_doubled (c ∷ cs)) ≡ c ∷ cs
doubled_step c cs true e h = rw e (ap (λ t. 39 ∷ t) h ∙ ap (λ k. k ∷ cs) (sym (eqb-true c 39 e)))
doubled_step c cs false e h = rw e (other_first c (with_quotes_doubled cs) e ∙ ap (λ t. c ∷ t) h)

-- the characters of what stands between a string's quotes are the string's
pub characters_of-doubled : (cs : List ℕ) → characters_of (with_quotes_doubled cs) ≡ cs
characters_of-doubled [] = refl
characters_of-doubled (c ∷ cs) = doubled_step c cs (eqb c 39) refl (characters_of-doubled cs)

printed_step : (c : ℕ) (cs : List ℕ) (v : Bool) → eqb c 39 ≡ v
    → list_all is_printed (with_quotes_doubled cs) ≡ list_all is_printed cs
    → list_all is_printed (with_quotes_doubled (c ∷ cs)) ≡ list_all is_printed (c ∷ cs)
printed_step c cs true e h =
    let is : c ≡ 39 = eqb-true c 39 e in
    rw (e, is, h) refl
printed_step c cs false e h = rw (e, h) refl

pub printed-doubled : (cs : List ℕ) → list_all is_printed (with_quotes_doubled cs) ≡ list_all is_printed cs
printed-doubled [] = refl
printed-doubled (c ∷ cs) = printed_step c cs (eqb c 39) refl (printed-doubled cs)

moved_is : (n m k : ℕ) (o : Option ℕ) → o ≡ Some m → k ≡ n + m → moved_by n o ≡ Some k
moved_is n m k o e f = rw (e, f) refl

other_closing : (c : ℕ) (t : List ℕ) (n : ℕ) → eqb c 39 ≡ false → closing_quote t ≡ Some n
    → closing_quote (c ∷ t) ≡ Some (suc n)
other_closing c [] n e h = absurd cc
other_closing c (d ∷ t) n e h = rw e (moved_is 1 n (suc n) (closing_quote (d ∷ t)) h (omega arith))

closing_step : (c : ℕ) (cs rest : List ℕ) (v : Bool) → eqb c 39 ≡ v
    → closing_quote (with_quotes_doubled cs ++ (39 ∷ rest)) ≡ Some (length (with_quotes_doubled cs))
    → closing_quote (with_quotes_doubled (c ∷ cs) ++ (39 ∷ rest))
    ≡ Some (length (with_quotes_doubled (c ∷ cs)))
closing_step c cs rest true e h =
    rw (e, e) (moved_is 2 (length (with_quotes_doubled cs)) (suc (suc (length (with_quotes_doubled cs))))
    (closing_quote (with_quotes_doubled cs ++ (39 ∷ rest))) h (omega arith))
closing_step c cs rest false e h =
    rw e (other_closing c (with_quotes_doubled cs ++ (39 ∷ rest)) (length (with_quotes_doubled cs)) e h)

-- the quote after a string's characters closes it
pub closing_quote-doubled : (cs rest : List ℕ) → Stops is_quote rest
    → closing_quote (with_quotes_doubled cs ++ (39 ∷ rest)) ≡ Some (length (with_quotes_doubled cs))
closing_quote-doubled [] [] stops = refl
closing_quote-doubled [] (b ∷ rest) stops = rw stops refl
closing_quote-doubled (c ∷ cs) rest stops =
    closing_step c cs rest (eqb c 39) refl (closing_quote-doubled cs rest stops)

-- what is before a closing quote: a string's characters, each quote doubled, and the closing quote after them
pub record Closed (bytes : List ℕ) (n : ℕ) : Type 0 where
  pub cs : List ℕ
  pub rest : List ℕ
  pub splits : bytes ≡ with_quotes_doubled cs ++ (39 ∷ rest)
  pub ends : Stops is_quote rest
  pub len : n ≡ length (with_quotes_doubled cs)

moved_some : (k n : ℕ) (o : Option ℕ) → moved_by k o ≡ Some n → (m : ℕ) × (o ≡ Some m) × (n ≡ k + m)
moved_some k n None h = absurd cc
moved_some k n (Some m) h = (m, refl, cc)

add_doubled : (n : ℕ) (rest : List ℕ) → moved_by 2 (closing_quote rest) ≡ Some n
    → ((m : ℕ) → closing_quote rest ≡ Some m → Closed rest m) → Closed (39 ∷ 39 ∷ rest) n
add_doubled n rest h more =
    let (m, is, n_is) = moved_some 2 n (closing_quote rest) h in
    let r = more m is in
    record {
      cs = 39 ∷ r.cs;
      rest = r.rest;
      splits = ap (λ t. 39 ∷ 39 ∷ t) r.splits;
      ends = r.ends;
      len = omega (arith, r.len);
    }

add_other : (b n : ℕ) (rest : List ℕ) → eqb b 39 ≡ false → moved_by 1 (closing_quote rest) ≡ Some n
    → ((m : ℕ) → closing_quote rest ≡ Some m → Closed rest m) → Closed (b ∷ rest) n
add_other b n rest e h more =
    let (m, is, n_is) = moved_some 1 n (closing_quote rest) h in
    let r = more m is in
    record {
      cs = b ∷ r.cs;
      rest = r.rest;
      splits = rw e (ap (λ t. b ∷ t) r.splits);
      ends = r.ends;
      len = rw e
          (omega (arith, r.len));
    }

closed_one : (b n : ℕ) (v : Bool) → eqb b 39 ≡ v → closing_quote (b ∷ []) ≡ Some n → Closed (b ∷ []) n
closed_one b n true e h =
    let is : b ≡ 39 = eqb-true b 39 e in
    let n_is : Some 0 ≡ Some n = rw e at h in
    record { cs = []; rest = []; splits = ap (λ k. k ∷ []) is; ends = tt; len = cc }
closed_one b n false e h = let no : None ≡ Some n = rw e at h in absurd cc

closed_two : (b c n : ℕ) (rest : List ℕ) (v w : Bool) → eqb b 39 ≡ v → eqb c 39 ≡ w
    → closing_quote (b ∷ c ∷ rest) ≡ Some n
    → ((m : ℕ) → closing_quote rest ≡ Some m → Closed rest m)
    → ((m : ℕ) → closing_quote (c ∷ rest) ≡ Some m → Closed (c ∷ rest) m) → Closed (b ∷ c ∷ rest) n
closed_two b c n rest true true e f h two one =
    let b_is : b ≡ 39 = eqb-true b 39 e in
    let c_is : c ≡ 39 = eqb-true c 39 f in
    let k : moved_by 2 (closing_quote rest) ≡ Some n = rw (e, f) at h in
    rw (b_is, c_is) (add_doubled n rest k two)
closed_two b c n rest true false e f h two one =
    let b_is : b ≡ 39 = eqb-true b 39 e in
    let n_is : Some 0 ≡ Some n = rw (e, f) at h in
    record { cs = []; rest = c ∷ rest; splits = ap (λ k. k ∷ c ∷ rest) b_is; ends = f; len = cc }
closed_two b c n rest false w e f h two one =
    let k : moved_by 1 (closing_quote (c ∷ rest)) ≡ Some n = rw e at h in
    add_other b n (c ∷ rest) e k one

pub closed : (bytes : List ℕ) (n : ℕ) → closing_quote bytes ≡ Some n → Closed bytes n
closed [] n h = absurd cc
closed (b ∷ []) n h = closed_one b n (eqb b 39) refl h
closed (b ∷ c ∷ rest) n h =
    closed_two b c n rest (eqb b 39) (eqb c 39) refl refl h (closed rest) (closed (c ∷ rest))

string_reads : (cs more : List ℕ) → Stops is_quote more → list_all is_printed cs ≡ true → 0 < length cs
    → length cs ≤ 128
    → text_read (with_quotes_doubled cs ++ (39 ∷ more))
    (closing_quote (with_quotes_doubled cs ++ (39 ∷ more)))
    ≡ Ok (Text cs, length (with_quotes_doubled cs) + 2)
string_reads cs more ends printed some most =
    let taken : take (length (with_quotes_doubled cs)) (with_quotes_doubled cs ++ (39 ∷ more))
    ≡ with_quotes_doubled cs =
    take-append_seam (with_quotes_doubled cs) (39 ∷ more) in
    let all : list_all is_printed (with_quotes_doubled cs) ≡ true = printed-doubled cs ∙ printed in
    let a : nat_lt 0 (length cs) ≡ true = lt-ltb 0 (length cs) some in
    let b : nat_le (length cs) 128 ≡ true = le-leb (length cs) 128 most in
    rw (closing_quote-doubled cs more ends, taken, all, characters_of-doubled cs, a, b) refl

-- a string is read as such
pub string_is_read : (bytes cs text rest : List ℕ) → 39 ∷ bytes ≡ text ++ rest → IsString cs text rest
    → text_read bytes (closing_quote bytes) ≡ Ok (Text cs, length text)
string_is_read bytes cs text rest splits s =
    let inner : bytes ≡ with_quotes_doubled cs ++ (39 ∷ rest) =
    ap (drop 1) (splits ∙ ap (λ t. t ++ rest) s.quoted)
    ∙ append_assoc (with_quotes_doubled cs) (39 ∷ []) rest in
    let len : length text ≡ length (with_quotes_doubled cs) + 2 =
    ap length s.quoted ∙ omega (arith, length-append (with_quotes_doubled cs) (39 ∷ [])) in
    rw (inner, len) (string_reads cs rest s.ends s.printed s.some s.most)

-- at a quote a string stands, or none
pub data AtQuote (bytes : List ℕ) : Type 0 where
  string : (cs text rest : List ℕ) → 39 ∷ bytes ≡ text ++ rest → IsString cs text rest → AtQuote bytes
  none : text_read bytes (closing_quote bytes) ≡ Err kind.Text → AtQuote bytes

checked : (bytes : List ℕ) (n : ℕ) (v : Bool) → closing_quote bytes ≡ Some n → is_text (take n bytes) ≡ v
    → Closed bytes n → AtQuote bytes
checked bytes n true e f r =
    let inner : take n bytes ≡ with_quotes_doubled r.cs =
    rw (r.splits, r.len) (take-append_seam (with_quotes_doubled r.cs) (39 ∷ r.rest)) in
    let is : characters_of (take n bytes) ≡ r.cs = ap characters_of inner ∙ characters_of-doubled r.cs in
    let all =
    and_parts (list_all is_printed (take n bytes))
    (nat_lt 0 (length (characters_of (take n bytes))) && nat_le (length (characters_of (take n bytes)))
    128) f in
    let bounds =
    and_parts (nat_lt 0 (length (characters_of (take n bytes))))
    (nat_le (length (characters_of (take n bytes))) 128) all.1 in
    let some : 0 < length r.cs = rw (← is) (ltb-true 0 (length (characters_of (take n bytes))) bounds.0) in
    let most : length r.cs ≤ 128 =
    rw (← is) (leb-true (length (characters_of (take n bytes))) 128 bounds.1) in
    let printed : list_all is_printed r.cs ≡ true =
    sym (printed-doubled r.cs) ∙ ap (list_all is_printed) (sym inner) ∙ all.0 in
    string r.cs (39 ∷ (with_quotes_doubled r.cs ++ 39 ∷ [])) r.rest
    (ap (λ t. 39 ∷ t) (r.splits ∙ sym (append_assoc (with_quotes_doubled r.cs) (39 ∷ []) r.rest)))
    (record { quoted = refl; ends = r.ends; printed = printed; some = some; most = most })
checked bytes n false e f r = none (rw (e, f) refl)

at_closing : (bytes : List ℕ) (o : Option ℕ) → closing_quote bytes ≡ o → AtQuote bytes
at_closing bytes None e = none (rw e refl)
at_closing bytes (Some n) e = checked bytes n (is_text (take n bytes)) e refl (closed bytes n e)

pub at_quote : (bytes : List ℕ) → AtQuote bytes
at_quote bytes = at_closing bytes (closing_quote bytes) refl
