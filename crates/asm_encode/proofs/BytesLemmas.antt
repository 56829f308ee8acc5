-- Bytes that are put one after the other.
use Rattle.std.proofs.Common.{◌≡◌, ℕ, ◌+◌, ◌<◌, ◌≤◌, List, [], ◌∷◌, ◌++◌, Result, Ok, Err, length, get_or}
use Rattle.std.proofs.Common.{drop, drop-cons, suc, add-one}
use Rattle.std.proofs.Common.{append_assoc, refl, sym, ap, ◌∙◌}
use Rattle.std.proofs.lemmas.List.{drop_all, append-nil}
use Rattle.asm_syntax.specs.declared.fault.LineFault.{LineFault}
use Rattle.asm_syntax.specs.declared.fault.LineFault.TheVariants as line
use Rattle.asm_syntax.specs.Outcome.{Fault, ◌>>=◌, LineFails}
use Rattle.asm_encode.specs.Bytes.{all_bytes, append_to}

-- what is left of a list, with its first element apart
pub next : {A : Type 0} (xs : List A) (i : ℕ) (y : A) → i < length xs → y ≡ get_or xs i y
    → drop i xs ≡ y ∷ drop (i + 1) xs
next xs i y lt e =
    drop-cons xs i y lt ∙ ap (λ m. m ∷ drop (suc i) xs) (sym e) ∙ ap (λ k. y ∷ drop k xs) (sym (add-one i))

abbrev Bytes : Type 0
Bytes = Result (List ℕ) Fault

abbrev both : Bytes → Bytes → Bytes
both r rest = r >>= λ bs. rest >>= λ more. Ok (bs ++ more)

regroup : (front bs : List ℕ) (rest : Bytes)
    → append_to front (rest >>= λ more. Ok (bs ++ more)) ≡ append_to (front ++ bs) rest
regroup front bs (Ok more) = ap (λ (b : List ℕ). Ok b) (sym (append_assoc front bs more))
regroup front bs (Err f) = refl

one : (r rest : Bytes) (front new : List ℕ) → append_to front r ≡ Ok new
    → append_to front (both r rest) ≡ append_to new rest
one (Ok bs) rest front new h =
    let same : front ++ bs ≡ new = cc in regroup front bs rest ∙ ap (λ b. append_to b rest) same
one (Err f) rest front new h = absurd cc

fail : (r rest : Bytes) (front : List ℕ) (f : Fault) → append_to front r ≡ Err f
    → append_to front (both r rest) ≡ Err f
fail (Ok bs) rest front f h = absurd cc
fail (Err e) rest front f h = h

pub appended_none : (r : Bytes) → append_to [] r ≡ r
appended_none (Ok bs) = refl
appended_none (Err f) = refl

pub bytes_go : {A : Type 0} (f : A → Bytes) (xs : List A) (i : ℕ) (x : A) (front new : List ℕ) (total : Bytes)
    → i < length xs → x ≡ get_or xs i x → append_to front (f x) ≡ Ok new
    → append_to front (all_bytes f (drop i xs)) ≡ total
    → append_to new (all_bytes f (drop (i + 1) xs)) ≡ total
bytes_go f xs i x front new total lt is e h =
    sym (one (f x) (all_bytes f (drop (i + 1) xs)) front new e)
    ∙ ap (λ ys. append_to front (all_bytes f ys)) (sym (next xs i x lt is)) ∙ h

pub bytes_fail : {A : Type 0} (e : LineFault) (f : A → Bytes) (xs : List A) (i : ℕ) (x : A) (front : List ℕ)
    (total : Bytes)
    → i < length xs → x ≡ get_or xs i x → LineFails e (append_to front (f x))
    → append_to front (all_bytes f (drop i xs)) ≡ total → LineFails e total
bytes_fail line.OutOfMemory f xs i x front total lt is e h = tt
bytes_fail (line.At column kind) f xs i x front total lt is e h =
    sym h ∙ ap (λ ys. append_to front (all_bytes f ys)) (next xs i x lt is)
    ∙ fail (f x) (all_bytes f (drop (i + 1) xs)) front (column, kind) e

pub bytes_end : {A : Type 0} (f : A → Bytes) (xs : List A) (i : ℕ) (front : List ℕ) (total : Bytes)
    → length xs ≤ i → append_to front (all_bytes f (drop i xs)) ≡ total → total ≡ Ok front
bytes_end f xs i front total le h =
    sym h ∙ ap (λ ys. append_to front (all_bytes f ys)) (drop_all i xs le)
    ∙ ap (λ (b : List ℕ). Ok b) (append-nil front)
