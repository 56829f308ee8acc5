-- Statements, one line after the other.
use Rattle.std.proofs.Common.{◌≡◌, ℕ, ◌+◌, ◌<◌, ◌≤◌, List, [], ◌∷◌, ◌++◌, true, false, length, get_or, drop}
use Rattle.std.proofs.Common.{drop-cons, Result, Ok, Err, refl, sym, ap, ◌∙◌, add-one, append_assoc}
use Rattle.std.proofs.lemmas.List.{drop_all, append-nil}
use denote.Ref.{Bor}
use Rattle.asm_syntax.specs.declared.fault.AsmFault.{AsmFault}
use Rattle.asm_syntax.specs.declared.fault.AsmFault.TheVariants as asm
use Rattle.asm_syntax.specs.declared.statement.Statement.{Statement}
use Rattle.asm_syntax.specs.Outcome.{CellFault, ◌>>=◌, Fails}
use Rattle.asm_text.specs.declared.open_if.OpenIf.{OpenIf}
use Rattle.asm_text.specs.Conditionals.{all_closed}
use Rattle.asm_text.specs.Statements.{is_end_action, step_of, then_lines, statements_from, texts_of}

abbrev pub Read : Type 0
Read = Result (List Statement) CellFault

-- the statements that were read, and those that are left to read
abbrev pub joined : List Statement → Read → Read
joined done more = more >>= λ ss. Ok (done ++ ss)

front : (ls : List (Bor (List ℕ))) (i : ℕ) (d : Bor (List ℕ)) (ifs : List OpenIf) → i < length ls
    → statements_from (i + 1) ifs (texts_of (drop i ls))
    ≡ (step_of (i + 1) ifs (get_or ls i d).now >>= λ r. then_lines r
    (statements_from (i + 1 + 1) r.1 (texts_of (drop (i + 1) ls))))
unfolding statements_from
front ls i d ifs lt =
    rw (drop-cons ls i d lt)
    (ap (λ k. step_of (i + 1) ifs (get_or ls i d).now >>= λ r. then_lines r
    (statements_from (i + 1 + 1) r.1 (texts_of (drop k ls)))) (sym (add-one i)))

regroup : (done : List Statement) (s : Statement) (more : Read)
    → joined done (more >>= λ ss. Ok (s ∷ ss)) ≡ joined (done ++ s ∷ []) more
regroup done s (Ok ms) = ap (λ (x : List Statement). Ok x) (simp append_assoc)
regroup done s (Err f) = refl

closed : (done : List Statement) (s : Statement) (ifs : List OpenIf)
    → joined done (all_closed (s ∷ []) ifs) ≡ all_closed (done ++ s ∷ []) ifs
closed done s [] = refl
closed done s (o ∷ os) = refl

closed_none : (done : List Statement) (ifs : List OpenIf)
    → joined done (all_closed [] ifs) ≡ all_closed done ifs
closed_none done [] = ap (λ (x : List Statement). Ok x) (append-nil done)
closed_none done (o ∷ os) = refl

pub line_goes : (done : List Statement) (ls : List (Bor (List ℕ))) (i : ℕ) (d : Bor (List ℕ))
    (ifs os : List OpenIf) (s : Statement) (total : Read)
    → i < length ls → step_of (i + 1) ifs (get_or ls i d).now ≡ Ok (s, os) → is_end_action s.operation ≡ false
    → joined done (statements_from (i + 1) ifs (texts_of (drop i ls))) ≡ total
    → joined (done ++ s ∷ []) (statements_from (i + 1 + 1) os (texts_of (drop (i + 1) ls))) ≡ total
line_goes done ls i d ifs os s total lt is goes h =
    let one : joined done (statements_from (i + 1) ifs (texts_of (drop i ls)))
    ≡ joined (done ++ s ∷ []) (statements_from (i + 1 + 1) os (texts_of (drop (i + 1) ls))) =
    rw (front ls i d ifs lt, is, goes)
    (regroup done s (statements_from (i + 1 + 1) os (texts_of (drop (i + 1) ls)))) in
    sym one ∙ h

pub line_ends : (done : List Statement) (ls : List (Bor (List ℕ))) (i : ℕ) (d : Bor (List ℕ))
    (ifs os : List OpenIf) (s : Statement) (total : Read)
    → i < length ls → step_of (i + 1) ifs (get_or ls i d).now ≡ Ok (s, os) → is_end_action s.operation ≡ true
    → joined done (statements_from (i + 1) ifs (texts_of (drop i ls))) ≡ total
    → all_closed (done ++ s ∷ []) os ≡ total
line_ends done ls i d ifs os s total lt is ends h =
    let one : joined done (statements_from (i + 1) ifs (texts_of (drop i ls)))
    ≡ all_closed (done ++ s ∷ []) os =
    rw (front ls i d ifs lt, is, ends) (closed done s os) in
    sym one ∙ h

pub line_fails : (e : AsmFault) (done : List Statement) (ls : List (Bor (List ℕ))) (i : ℕ) (d : Bor (List ℕ))
    (ifs : List OpenIf) (total : Read)
    → i < length ls → Fails e (step_of (i + 1) ifs (get_or ls i d).now)
    → joined done (statements_from (i + 1) ifs (texts_of (drop i ls))) ≡ total → Fails e total
line_fails asm.OutOfMemory done ls i d ifs total lt is h = tt
line_fails (asm.At n c k) done ls i d ifs total lt is h =
    let one : joined done (statements_from (i + 1) ifs (texts_of (drop i ls))) ≡ Err (n, c, k) =
    rw (front ls i d ifs lt, is) refl in
    sym h ∙ one

pub lines_end : (done : List Statement) (ls : List (Bor (List ℕ))) (i : ℕ) (ifs : List OpenIf) (total : Read)
    → length ls ≤ i
    → joined done (statements_from (i + 1) ifs (texts_of (drop i ls))) ≡ total → all_closed done ifs ≡ total
unfolding statements_from
lines_end done ls i ifs total le h =
    let one : joined done (statements_from (i + 1) ifs (texts_of (drop i ls))) ≡ all_closed done ifs =
    rw (drop_all i ls le) (closed_none done ifs) in
    sym one ∙ h
