-- The text so far, the bytes of the run so far, and the cells from an address on.
use Rattle.std.proofs.Common.{◌≡◌, ℕ, ◌+◌, ◌-◌, ◌<◌, ◌≤◌, List, [], ◌∷◌, ◌++◌, length, map, drop}
use Rattle.std.proofs.Common.{get_or, Option, Some, None, sym, ap, ◌∙◌, arith}
use Rattle.std.proofs.Common.{drop-cons, add-one, append_assoc}
use Rattle.std.proofs.lemmas.List.{append-nil, length-append, map-append, drop_all}
use Rattle.i80_dis.specs.Text.{listing_of}
use Rattle.i80_listings_laws.specs.Runs.{runs_from}
use Rattle.i80_listings_laws.specs.Text.{runs_text}
use Rattle.i80_listings_laws.proofs.Texts.{gap_text, end_text}

abbrev pub Holds : List ℕ → List ℕ → List ℕ → ℕ → List (Option ℕ) → Type 0
Holds total text run i cells =
    text ++ runs_text (runs_from (i - length run) (map Some run ++ drop i cells)) ≡ total

next_cell : (cells : List (Option ℕ)) (i : ℕ) → i < length cells
    → drop i cells ≡ get_or cells i None ∷ drop (i + 1) cells
next_cell cells i lt =
    drop-cons cells i None lt ∙ ap (λ k. get_or cells i None ∷ drop k cells) (sym (add-one i))

pub byte_added : (total text run : List ℕ) (i b : ℕ) (cells : List (Option ℕ)) → i < length cells
    → get_or cells i None ≡ Some b → Holds total text run i cells
    → Holds total text (run ++ b ∷ []) (i + 1) cells
byte_added total text run i b cells lt is h =
    let rest = drop (i + 1) cells in
    let here : drop i cells ≡ Some b ∷ rest = next_cell cells i lt ∙ ap (λ c. c ∷ rest) is in
    let long = length-append run (b ∷ []) in
    let from : i + 1 - length (run ++ b ∷ []) ≡ i - length run = omega (arith, long) in
    let same : map Some (run ++ b ∷ []) ++ rest ≡ map Some run ++ drop i cells =
    ap (λ cs. cs ++ rest) (map-append Some run (b ∷ []))
    ∙ append_assoc (map Some run) (Some b ∷ []) rest
    ∙ ap (λ cs. map Some run ++ cs) (sym here) in
    ap (λ k. text ++ runs_text (runs_from k (map Some (run ++ b ∷ []) ++ rest))) from
    ∙ ap (λ cs. text ++ runs_text (runs_from (i - length run) cs)) same ∙ h

pub gap_passed : (total text new run : List ℕ) (i : ℕ) (cells : List (Option ℕ)) → i < length cells
    → length run ≤ i
    → get_or cells i None ≡ None → new ≡ text ++ listing_of (i - length run) run
    → Holds total text run i cells → Holds total new [] (i + 1) cells
gap_passed total text new run i cells lt le is e h =
    let rest = drop (i + 1) cells in
    let here : drop i cells ≡ None ∷ rest = next_cell cells i lt ∙ ap (λ c. c ∷ rest) is in
    let from = i - length run in
    let there : i + 1 - 0 ≡ from + length run + 1 = omega (arith, le) in
    ap (λ k. new ++ runs_text (runs_from k rest)) there
    ∙ ap (λ t. t ++ runs_text (runs_from (from + length run + 1) rest)) e
    ∙ append_assoc text (listing_of from run) (runs_text (runs_from (from + length run + 1) rest))
    ∙ ap (λ t. text ++ t) (sym (gap_text run from rest))
    ∙ ap (λ cs. text ++ runs_text (runs_from from (map Some run ++ cs))) (sym here) ∙ h

pub all_passed : (total text new run : List ℕ) (i : ℕ) (cells : List (Option ℕ)) → i ≡ length cells
    → new ≡ text ++ listing_of (length cells - length run) run
    → Holds total text run i cells → new ≡ total
all_passed total text new run i cells at e h =
    let none : drop i cells ≡ [] = drop_all i cells (omega (arith, at)) in
    let from : length cells - length run ≡ i - length run = omega (arith, at) in
    e ∙ ap (λ k. text ++ listing_of k run) from
    ∙ ap (λ t. text ++ t) (sym (end_text run (i - length run)))
    ∙ ap (λ cs. text ++ runs_text (runs_from (i - length run) cs))
    (sym (append-nil (map Some run)) ∙ ap (λ cs. map Some run ++ cs) (sym none))
    ∙ h
