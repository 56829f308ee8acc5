-- Reading pieces one after the other, as a loop does.
use Rattle.std.proofs.Common.{◌≡◌, ℕ, zero, suc, ◌+◌, ◌-◌, ◌<◌, List, [], ◌∷◌, ◌++◌, drop, length}
use Rattle.std.proofs.Common.{Result, Ok, Err, refl, sym, ap, ◌∙◌, append_assoc, arith}
use Rattle.std.proofs.lemmas.List.{append-nil}
use Rattle.base_text.specs.Bytes.{Text}
use Rattle.asm_syntax.specs.Outcome.{◌>>=◌}
use Rattle.dap_log.specs.declared.message.LogFault.{LogFault}
use Rattle.dap_log.specs.declared.message.LogFault.TheVariants as fault
use Rattle.dap_log.specs.declared.part.Part.{Part}
use Rattle.dap_log.specs.Pieces.{spelling, piece_at, pieces_from}
use Rattle.dap_log.specs.Messages.{LogGives, part_of, parts_of}

-- what was read before, and what is still read
abbrev pub with_front : List Part → Result (List Part) LogFault → Result (List Part) LogFault
with_front front read = read >>= λ ps. Ok (front ++ ps)

-- what is read from a column on
abbrev pub read_from : ℕ → Text → Result (List Part) LogFault
read_from column text = parts_of (pieces_from 0 column text)

-- skipping the rest of a piece is going on after it
skips : (skip column : ℕ) (text : Text)
    → pieces_from skip column text ≡ pieces_from 0 (column + skip) (drop skip text)
unfolding pieces_from
skips zero column text = ap (λ n. pieces_from 0 n text) (omega arith)
skips (suc skip) column [] = refl
skips (suc skip) column (c ∷ rest) =
    skips skip (column + 1) rest ∙ ap (λ n. pieces_from 0 n (drop skip rest)) (omega arith)

pub at_end : (front : List Part) (column : ℕ) (text : Text) (total : Result (List Part) LogFault)
    → length text ≡ 0 → with_front front (read_from column text) ≡ total → Ok front ≡ total
unfolding pieces_from parts_of
at_end front column [] total e so_far = sym (ap (λ (ps : List Part). Ok ps) (append-nil front)) ∙ so_far
at_end front column (c ∷ rest) total e so_far = absurd (omega (arith, e))

-- what is left at a piece
rest_at : (column : ℕ) (c : ℕ) (rest : Text) → read_from column (c ∷ rest)
    ≡ (part_of (column, piece_at (c ∷ rest)) >>= λ first. parts_of (pieces_from
    (length (spelling (piece_at (c ∷ rest))) - 1) (column + 1) rest) >>= λ ps. Ok (first ∷ ps))
unfolding pieces_from parts_of
rest_at column c rest = refl

regroup : (front : List Part) (first : Part) (read : Result (List Part) LogFault)
    → with_front front (read >>= λ ps. Ok (first ∷ ps)) ≡ with_front (front ++ first ∷ []) read
regroup front first (Ok ps) = ap (λ (x : List Part). Ok x) (simp append_assoc)
regroup front first (Err f) = refl

pub at_part : (front : List Part) (column : ℕ) (text : Text) (total : Result (List Part) LogFault)
    (first : Part) (n : ℕ) → 0 < length text → length (spelling (piece_at text)) ≡ n → 0 < n
    → part_of (column, piece_at text) ≡ Ok first → with_front front (read_from column text) ≡ total
    → with_front (front ++ first ∷ []) (read_from (column + n) (drop n text)) ≡ total
at_part front column [] total first n some len pos read so_far = absurd (omega (arith, some))
at_part front column (c ∷ rest) total first zero some len pos read so_far = absurd (omega (arith, pos))
at_part front column (c ∷ rest) total first (suc m) some len pos read so_far =
    let m_is : length (spelling (piece_at (c ∷ rest))) - 1 ≡ m = omega (arith, len) in
    let column_is : column + suc m ≡ column + 1 + m = omega arith in
    let one : with_front front (read_from column (c ∷ rest))
    ≡ with_front (front ++ first ∷ []) (parts_of (pieces_from m (column + 1) rest)) =
    rw (rest_at column c rest, read, m_is)
    (regroup front first (parts_of (pieces_from m (column + 1) rest))) in
    let two : pieces_from m (column + 1) rest ≡ pieces_from 0 (column + suc m) (drop m rest) =
    skips m (column + 1) rest ∙ ap (λ k. pieces_from 0 k (drop m rest)) (sym column_is) in
    ap (λ ps. with_front (front ++ first ∷ []) (parts_of ps)) (sym two) ∙ sym one ∙ so_far

pub at_fault : (front : List Part) (column : ℕ) (text : Text) (total : Result (List Part) LogFault)
    (f : LogFault) → 0 < length text → Err f ≡ part_of (column, piece_at text)
    → with_front front (read_from column text) ≡ total → Err f ≡ total
at_fault front column [] total f some read so_far = absurd (omega (arith, some))
at_fault front column (c ∷ rest) total f some read so_far =
    let one : with_front front (read_from column (c ∷ rest)) ≡ Err f =
    rw (rest_at column c rest, sym read) refl in
    sym one ∙ so_far

-- a fault of a part is the fault of the whole
pub fails : (f : LogFault) (read : Result Part LogFault) (total : Result (List Part) LogFault)
    → LogGives (Err f) read → (Err f ≡ read → Err f ≡ total) → LogGives (Err f) total
fails fault.OutOfMemory read total gives so = tt
fails (fault.OpenBrace column) read total gives so = so gives
fails (fault.At column kind) read total gives so = so gives
