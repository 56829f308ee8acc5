-- The text of runs, cell by cell; and the text of one run.
use Rattle.std.proofs.Common.{◌≡◌, ℕ, zero, suc, ◌+◌, List, [], ◌∷◌, ◌++◌, length, map}
use Rattle.std.proofs.Common.{replicate, Option, Some, None, refl, sym, ap, subst, ◌∙◌, arith}
use Rattle.std.proofs.lemmas.List.{append-nil}
use Rattle.i80_dis.specs.Text.{listing_of}
use Rattle.i80_dis.proofs.Lines.{listing_none}
use Rattle.i80_listings_laws.specs.Runs.{Run, BeginsFrom, runs_from, runs_of}
use Rattle.i80_listings_laws.specs.Text.{runs_text, listings_of}
use Rattle.i80_listings_laws.proofs.Runs.{runs_good, run_then}

-- ---- bytes, and the cells after them

begins_from : (address : ℕ) (cells : List (Option ℕ)) → BeginsFrom address (runs_from address cells)
begins_from address cells =
    let good = runs_good cells address (address + length cells) (omega arith) in good.begins

run_text : (bytes : List ℕ) (address : ℕ) (cells : List (Option ℕ))
    → BeginsFrom (address + length bytes + 1) (runs_from (address + length bytes) cells)
    → runs_text (runs_from address (map Some bytes ++ cells))
    ≡ listing_of address bytes ++ runs_text (runs_from (address + length bytes) cells)
run_text [] address cells begins =
    let e : address ≡ address + 0 = omega arith in
    ap (λ k. runs_text (runs_from k cells)) e
    ∙ sym (ap (λ t. t ++ runs_text (runs_from (address + 0) cells)) (listing_none address [] refl))
run_text (b ∷ bytes) address cells begins =
    ap runs_text (run_then (b ∷ bytes) address cells (omega arith) begins)

pub gap_text : (bytes : List ℕ) (address : ℕ) (cells : List (Option ℕ))
    → runs_text (runs_from address (map Some bytes ++ None ∷ cells))
    ≡ listing_of address bytes ++ runs_text (runs_from (address + length bytes + 1) cells)
unfolding runs_from
gap_text bytes address cells =
    run_text bytes address (None ∷ cells) (begins_from (address + length bytes + 1) cells)

pub end_text : (bytes : List ℕ) (address : ℕ)
    → runs_text (runs_from address (map Some bytes)) ≡ listing_of address bytes
unfolding runs_from
end_text bytes address =
    ap (λ cells. runs_text (runs_from address cells)) (sym (append-nil (map Some bytes)))
    ∙ run_text bytes address [] tt ∙ append-nil (listing_of address bytes)

-- ---- one run

gaps_before : (n address : ℕ) (cells : List (Option ℕ))
    → runs_from address (replicate n None ++ cells) ≡ runs_from (address + n) cells
unfolding runs_from
gaps_before zero address cells = ap (λ k. runs_from k cells) (omega arith)
gaps_before (suc n) address cells =
    gaps_before n (address + 1) cells ∙ ap (λ k. runs_from k cells) (omega arith)

no_runs : (n address : ℕ) → runs_from address (replicate n None) ≡ []
unfolding runs_from
no_runs zero address = refl
no_runs (suc n) address = no_runs n (address + 1)

pub one_run : (before after : ℕ) (bytes : List ℕ)
    → listings_of (replicate before None ++ (map Some bytes ++ replicate after None)) None
    ≡ listing_of before bytes
unfolding listings_of
one_run before after bytes =
    let gap = replicate after None in
    let none : runs_from (before + length bytes) gap ≡ [] = no_runs after (before + length bytes) in
    let later = subst (λ (rs : List Run). BeginsFrom (before + length bytes + 1) rs) (sym none) tt in
    append-nil (runs_text (runs_of (replicate before None ++ (map Some bytes ++ gap))))
    ∙ ap runs_text (gaps_before before 0 (map Some bytes ++ gap))
    ∙ ap (λ k. runs_text (runs_from k (map Some bytes ++ gap))) (omega arith)
    ∙ run_text bytes before gap later
    ∙ ap (λ rs. listing_of before bytes ++ runs_text rs) none
    ∙ append-nil (listing_of before bytes)
