-- Operands, one after the other.
use Rattle.std.proofs.Common.{◌≡◌, ℕ, List, [], ◌∷◌, ◌++◌, Result, Ok, Err, refl, sym, ap, ◌∙◌, append_assoc}
use Rattle.std.proofs.lemmas.List.{append-nil}
use Rattle.asm_syntax.specs.declared.fault.LineFault.{LineFault}
use Rattle.asm_syntax.specs.declared.fault.LineFault.TheVariants as line
use Rattle.std.proofs.Common.{suc, length, Option, Some, None, option_map}
use denote.Ref.{Bor}
use Rattle.asm_syntax.specs.declared.token.Placed.{Placed}
use Rattle.asm_syntax.specs.Lexemes.{Piece, pieces_of}
use Rattle.asm_syntax.specs.Outcome.{Fault, ◌>>=◌, LineFails}
use Rattle.asm_text.specs.Forms.{each_of}

-- what was read of operands, and what is left to read
abbrev pub joined : {A : Type 0} → List A → Result (List A) Fault → Result (List A) Fault
joined done more = more >>= λ xs. Ok (done ++ xs)

regroup : {A : Type 0} (done : List A) (x : A) (more : Result (List A) Fault)
    → joined done (more >>= λ xs. Ok (x ∷ xs)) ≡ joined (done ++ x ∷ []) more
regroup {A} done x (Ok xs) = ap (λ (ys : List A). Ok ys) (simp append_assoc)
regroup done x (Err f) = refl

pub each_goes : {A : Type 0} (f : List Piece → Result A Fault) (done : List A) (o : List Piece)
    (os : List (List Piece)) (x : A)
    → f o ≡ Ok x → joined done (each_of f (o ∷ os)) ≡ joined (done ++ x ∷ []) (each_of f os)
unfolding each_of
each_goes f done o os x is = rw is (regroup done x (each_of f os))

pub each_fails : {A : Type 0} (e : LineFault) (f : List Piece → Result A Fault) (done : List A)
    (o : List Piece) (os : List (List Piece)) (total : Result (List A) Fault)
    → LineFails e (f o) → joined done (each_of f (o ∷ os)) ≡ total → LineFails e total
unfolding each_of
each_fails line.OutOfMemory f done o os total is h = tt
each_fails {A} (line.At c k) f done o os total is h =
    let one : joined done (each_of f (o ∷ os)) ≡ Err (c, k) = rw is refl in
    sym h ∙ one

pub each_done : {A : Type 0} (f : List Piece → Result A Fault) (done : List A)
    → joined done (each_of f []) ≡ Ok done
unfolding each_of
each_done {A} f done = ap (λ (xs : List A). Ok xs) (append-nil done)

-- the operands that are left to read
abbrev pub pieces_left : Option (Bor (List Placed)) → Option (List Piece)
pieces_left left = option_map (λ ps. pieces_of ps.now) left

-- how many tokens they have, and one more
abbrev pub count_left : Option (Bor (List Placed)) → ℕ
count_left None = 0
count_left (Some ps) = suc (length ps.now)
