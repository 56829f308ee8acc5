-- Which addresses have a byte, and lines one by one.
use Rattle.std.proofs.Common.{◌≡◌, ◌≢◌, ℕ, zero, suc, ◌+◌, ◌-◌, ◌<◌, ◌≤◌, List, [], ◌∷◌, ◌++◌, length, drop}
use Rattle.std.proofs.Common.{take, Bool}
use Rattle.std.proofs.Common.{true, false, ◌||◌, ◌==◌, replicate, get_or, refl, ap, sym, ◌∙◌, arith}
use Rattle.std.proofs.Common.{append_assoc}
use Rattle.std.specs.Prelude.{Result, Ok}
use Rattle.std.proofs.Math.ListN.{length-replicate}
use Rattle.std.proofs.Math.Seq.{drop-cons, take-nil}
use Rattle.std.proofs.lemmas.Bool.Decides.{nat_tests}
use Rattle.std.proofs.lemmas.List.{take_more, length-take-le}
use Rattle.asm_hex.specs.declared.fault.HexFault.{HexFault}
use Rattle.asm_hex.specs.declared.fault.HexFault.TheVariants as hex
use Rattle.asm_hex.specs.Outcome.{◌>>=◌, at_line, FileFault, Fails}
use Rattle.asm_hex.specs.Contents.{Contents, is_taken, overlaps, bytes_at, with_line, with_lines, lines_of}
use Rattle.asm_hex.specs.Taken.{IsTable}

none_marked : (n address : ℕ) → get_or (replicate n false) address false ≡ false
none_marked zero address = refl
none_marked (suc n) zero = refl
none_marked (suc n) (suc address) = none_marked n address

-- a table in which no address has a byte
pub empty_table : (none taken : List Bool) (n : ℕ) (bytes : List (ℕ × ℕ)) → none ≡ [] → n ≡ 0
    → taken ≡ take 65536 none ++ replicate (65536 - n) false → bytes ≡ [] → IsTable taken bytes
empty_table none taken n bytes none_is n_is taken_is bytes_is =
    let all : taken ≡ replicate 65536 false =
    taken_is ∙ (rw (none_is, n_is) (ap (λ (xs : List Bool). xs ++ replicate 65536 false) (take-nil 65536))) in
    record {
      size = ap length all ∙ length-replicate {A = Bool} 65536 false;
      marks = λ address. rw bytes_is (ap (λ (t : List Bool). get_or t address false) all
          ∙ none_marked 65536 address);
    }

-- ---- bytes at addresses

any_default : (taken : List Bool) (i : ℕ) (d e : Bool) → i < length taken
    → get_or taken i d ≡ get_or taken i e
any_default [] i d e inside = absurd (omega (arith, inside))
any_default (x ∷ xs) zero d e inside = refl
any_default (x ∷ xs) (suc i) d e inside = any_default xs i d e (omega (arith, inside))

-- what the table says of an address
pub marked : (taken : List Bool) (bytes : List (ℕ × ℕ)) (found is : Bool) (address at offset count : ℕ)
    → IsTable taken bytes → address + count ≤ 65536 → offset < count → at ≡ address
    → found ≡ get_or taken (at + offset) found → found ≡ is
    → is_taken bytes (address + offset) ≡ is
marked taken bytes found is address at offset count table fits inside at_is found_is all =
    let within : address + offset < length taken = omega (arith, table.size, fits, inside) in
    sym (sym all ∙ found_is ∙ ap (λ (a : ℕ). get_or taken (a + offset) found) at_is
    ∙ any_default taken (address + offset) found false within ∙ table.marks (address + offset))

-- a byte at an address that is taken
pub overlap_here : (bytes : List (ℕ × ℕ)) (address offset : ℕ) (others : List ℕ) (whole : Bool)
    → offset < length others → is_taken bytes (address + offset) ≡ true
    → overlaps bytes (bytes_at (address + offset) (drop offset others)) ≡ whole → true ≡ whole
overlap_here bytes address offset others whole inside is all =
    sym (sym all
    ∙ ap (λ (xs : List ℕ). overlaps bytes (bytes_at (address + offset) xs)) (drop-cons others offset 0 inside)
    ∙ ap (λ (b : Bool). b || overlaps bytes (bytes_at (address + offset + 1) (drop (suc offset) others))) is)

-- a byte at one that is free
pub overlap_next : (bytes : List (ℕ × ℕ)) (address offset : ℕ) (others : List ℕ) (whole : Bool)
    → offset < length others → is_taken bytes (address + offset) ≡ false
    → overlaps bytes (bytes_at (address + offset) (drop offset others)) ≡ whole
    → overlaps bytes (bytes_at (address + (offset + 1)) (drop (offset + 1) others)) ≡ whole
overlap_next bytes address offset others whole inside is all =
    let further : address + (offset + 1) ≡ address + offset + 1 = omega arith in
    let one : offset + 1 ≡ suc offset = omega arith in
    ap (λ (a : ℕ). overlaps bytes (bytes_at a (drop (offset + 1) others))) further
    ∙ ap (λ (n : ℕ). overlaps bytes (bytes_at (address + offset + 1) (drop n others))) one
    ∙ sym (ap (λ (b : Bool). b || overlaps bytes (bytes_at (address + offset + 1) (drop
    (suc offset) others))) is)
    ∙ sym (ap (λ (xs : List ℕ). overlaps bytes (bytes_at (address + offset) xs))
    (drop-cons others offset 0 inside))
    ∙ all

bytes_at-append : (address : ℕ) (xs ys : List ℕ)
    → bytes_at address (xs ++ ys) ≡ bytes_at address xs ++ bytes_at (address + length xs) ys
bytes_at-append address [] ys = ap (λ (a : ℕ). bytes_at a ys) (omega arith)
bytes_at-append address (x ∷ xs) ys =
    let further : address + 1 + length xs ≡ address + length (x ∷ xs) = omega arith in
    ap (λ (ps : List (ℕ × ℕ)). (address, x) ∷ ps)
    (bytes_at-append (address + 1) xs ys
    ∙ ap (λ (a : ℕ). bytes_at (address + 1) xs ++ bytes_at a ys) further)

-- one more byte
pub placed_next : (new old start : List (ℕ × ℕ)) (address offset at : ℕ) (bytes : List ℕ)
    → offset < length bytes → at ≡ address + offset
    → new ≡ old ++ bytes_at at (get_or bytes offset 0 ∷ [])
    → old ≡ start ++ bytes_at address (take offset bytes)
    → new ≡ start ++ bytes_at address (take (offset + 1) bytes)
placed_next new old start address offset at bytes inside at_is new_is old_is =
    let byte = get_or bytes offset 0 in
    let front : length (take offset bytes) ≡ offset = length-take-le offset bytes (omega (arith, inside)) in
    new_is ∙ ap (λ (ps : List (ℕ × ℕ)). ps ++ bytes_at at (byte ∷ [])) old_is
    ∙ append_assoc start (bytes_at address (take offset bytes)) (bytes_at at (byte ∷ []))
    ∙ ap (λ (ps : List (ℕ × ℕ)). start ++ ps)
    (ap (λ (a : ℕ). bytes_at address (take offset bytes) ++ bytes_at a (byte ∷ []))
    (at_is ∙ ap (λ (n : ℕ). address + n) (sym front))
    ∙ sym (bytes_at-append address (take offset bytes) (byte ∷ []))
    ∙ ap (bytes_at address) (sym (take_more bytes offset 0 inside)))

-- ---- lines

-- a line without a fault, and the lines behind it
pub lines_more : (number : ℕ) (old new : Contents) (line rest behind : List ℕ)
    (whole : Result Contents FileFault)
    → at_line number (with_line old line) ≡ Ok new → lines_of rest ≡ line ∷ lines_of behind
    → with_lines number old (lines_of rest) ≡ whole
    → with_lines (number + 1) new (lines_of behind) ≡ whole
unfolding with_lines
lines_more number old new line rest behind whole is cut all =
    ap (λ (r : Result Contents FileFault). r >>= (λ more. with_lines (number + 1) more (lines_of behind)))
    (sym is)
    ∙ ap (with_lines number old) (sym cut) ∙ all

-- a line with a fault
pub line_fails : (e : HexFault) (number : ℕ) (old : Contents) (line rest behind : List ℕ)
    (whole : Result Contents FileFault)
    → Fails e (at_line number (with_line old line)) → lines_of rest ≡ line ∷ lines_of behind
    → with_lines number old (lines_of rest) ≡ whole → Fails e whole
unfolding with_lines
line_fails hex.OutOfMemory number old line rest behind whole is cut all = tt
line_fails (hex.At at kind) number old line rest behind whole is cut all =
    sym all ∙ ap (with_lines number old) cut
    ∙ ap (λ (r : Result Contents FileFault). r >>= (λ more. with_lines (number + 1) more
    (lines_of behind))) is

not_none : (c : ℕ) (cs : List ℕ) → (length (c ∷ cs) == 0) ≡ true → ⊥
not_none c cs none = let e : length (c ∷ cs) ≡ 0 = grind (arith, nat_tests, none) in omega (arith, e)

-- no more lines
pub lines_end : (number : ℕ) (contents : Contents) (rest : List ℕ) (whole : Result Contents FileFault)
    → (length rest == 0) ≡ true
    → with_lines number contents (lines_of rest) ≡ whole → whole ≡ Ok contents
unfolding with_lines lines_of
lines_end number contents [] whole none all = sym all
lines_end number contents (c ∷ cs) whole none all = absurd (not_none c cs none)

pub count_end : (rest : List ℕ) (count whole : ℕ) → (length rest == 0) ≡ true
    → count + length (lines_of rest) ≡ whole → count ≡ whole
unfolding lines_of
count_end [] count whole none all = omega arith ∙ all
count_end (c ∷ cs) count whole none all = absurd (not_none c cs none)

pub some_rest : (rest : List ℕ) → (length rest == 0) ≡ false → rest ≢ []
some_rest [] is = λ e. absurd (false_is_true is)
  where
    false_is_true : (length {A = ℕ} [] == 0) ≡ false → ⊥
    false_is_true e = cc
some_rest (c ∷ cs) is = λ e. absurd (cc)

-- the lines that are left are one fewer, and their bytes too
pub count_more : (rest behind line : List ℕ) (count whole : ℕ) → lines_of rest ≡ line ∷ lines_of behind
    → count + length (lines_of rest) ≡ whole → (count + 1) + length (lines_of behind) ≡ whole
count_more rest behind line count whole cut all =
    let one : length (lines_of rest) ≡ length (line ∷ lines_of behind) = ap length cut in
    omega (arith, one, all)
