-- Bytes at their addresses have one list of runs.
use Rattle.std.proofs.Common.{◌≡◌, ◌↔◌, ℕ, ◌+◌, List, [], ◌∷◌, ◌++◌, length, Option, refl, sym, ap, subst}
use Rattle.std.proofs.Common.{◌∙◌, arith}
use Rattle.i80_listings_laws.specs.Bytes.{image_from}
use Rattle.i80_listings_laws.specs.Runs.{Run, present, image_of, BeginsFrom, AreApart, runs_of, AreRuns}
use Rattle.i80_listings_laws.proofs.Runs.{later, runs_good, runs_image}

abbrev Image : Type 0
Image = List (ℕ × ℕ)

heads : (p q : ℕ × ℕ) (ps qs : Image) → p ∷ ps ≡ q ∷ qs → p ≡ q
heads p q ps qs e = cc

tails : (p q : ℕ × ℕ) (ps qs : Image) → p ∷ ps ≡ q ∷ qs → ps ≡ qs
tails p q ps qs e = cc

none_is : (p : ℕ × ℕ) (ps : Image) → [] ≡ p ∷ ps → ⊥
none_is p ps e = absurd cc

-- runs behind an address have no byte at it
not_first : (runs : List Run) (address b : ℕ) (more : Image) → BeginsFrom (address + 1) runs → AreApart runs
    → image_of runs ≡ (address, b) ∷ more → ⊥
not_first [] address b more begins apart e = none_is (address, b) more e
not_first ((from, []) ∷ runs) address b more begins apart e =
    let some = apart.0 in absurd (omega (arith, some))
not_first ((from, c ∷ bytes) ∷ runs) address b more begins apart e =
    let same = heads (from, c) (address, b) (image_from (from + 1) bytes ++ image_of runs) more e in
    let at : from ≡ address = ap (λ (p : ℕ × ℕ). p.0) same in
    absurd (omega (arith, at, begins))

record AreSame (bytes bytes' : List ℕ) (runs runs' : List Run) : Type 0 where
  first : bytes ≡ bytes'
  others : image_of runs ≡ image_of runs'

same_first : (bytes bytes' : List ℕ) (address : ℕ) (runs runs' : List Run)
    → BeginsFrom (address + length bytes + 1) runs → BeginsFrom (address + length bytes' + 1) runs'
    → AreApart runs → AreApart runs'
    → image_from address bytes ++ image_of runs ≡ image_from address bytes' ++ image_of runs'
    → AreSame bytes bytes' runs runs'
same_first [] [] address runs runs' begins begins' apart apart' e = record { first = refl; others = e }
same_first [] (b ∷ bytes) address runs runs' begins begins' apart apart' e =
    absurd (not_first runs address b (image_from (address + 1) bytes ++ image_of runs')
    (later (address + 1) (address + 0 + 1) runs (omega arith) begins) apart e)
same_first (b ∷ bytes) [] address runs runs' begins begins' apart apart' e =
    absurd (not_first runs' address b (image_from (address + 1) bytes ++ image_of runs)
    (later (address + 1) (address + 0 + 1) runs' (omega arith) begins') apart' (sym e))
same_first (b ∷ bytes) (c ∷ bytes') address runs runs' begins begins' apart apart' e =
    let rest = image_from (address + 1) bytes ++ image_of runs in
    let rest' = image_from (address + 1) bytes' ++ image_of runs' in
    let same : b ≡ c = ap (λ (p : ℕ × ℕ). p.1) (heads (address, b) (address, c) rest rest' e) in
    let more =
    same_first bytes bytes' (address + 1) runs runs'
    (later (address + 1 + length bytes + 1) (address + length (b ∷ bytes) + 1) runs (omega arith) begins)
    (later (address + 1 + length bytes' + 1) (address + length (c ∷ bytes') + 1) runs' (omega arith) begins')
    apart apart' (tails (address, b) (address, c) rest rest' e) in
    record {
      first = ap (λ k. k ∷ bytes) same ∙ ap (λ bs. c ∷ bs) more.first;
      others = more.others;
    }

same_runs : (runs runs' : List Run) → AreApart runs → AreApart runs' → image_of runs ≡ image_of runs'
    → runs ≡ runs'
same_runs [] [] apart apart' e = refl
same_runs [] ((from, []) ∷ runs') apart apart' e = let some = apart'.0 in absurd (omega (arith, some))
same_runs [] ((from, b ∷ bytes) ∷ runs') apart apart' e =
    absurd (none_is (from, b) (image_from (from + 1) bytes ++ image_of runs') e)
same_runs ((from, []) ∷ runs) runs' apart apart' e = let some = apart.0 in absurd (omega (arith, some))
same_runs ((from, b ∷ bytes) ∷ runs) [] apart apart' e =
    absurd (none_is (from, b) (image_from (from + 1) bytes ++ image_of runs) (sym e))
same_runs ((from, b ∷ bytes) ∷ runs) ((from', []) ∷ runs') apart apart' e =
    let some = apart'.0 in absurd (omega (arith, some))
same_runs ((from, b ∷ bytes) ∷ runs) ((from', c ∷ bytes') ∷ runs') apart apart' e =
    let rest = image_from (from + 1) bytes ++ image_of runs in
    let rest' = image_from (from' + 1) bytes' ++ image_of runs' in
    let at : from ≡ from' = ap (λ (p : ℕ × ℕ). p.0) (heads (from, b) (from', c) rest rest' e) in
    let there = subst (λ k. BeginsFrom (k + length (c ∷ bytes') + 1) runs') (sym at) apart'.1 in
    let all : image_from from (b ∷ bytes) ++ image_of runs ≡ image_from from (c ∷ bytes') ++ image_of runs' =
    e ∙ ap (λ k. image_from k (c ∷ bytes') ++ image_of runs') (sym at) in
    let s = same_first (b ∷ bytes) (c ∷ bytes') from runs runs' apart.1 there apart.2 apart'.2 all in
    ap (λ (bs : List ℕ). (from, bs) ∷ runs) s.first
    ∙ ap (λ k. (k, c ∷ bytes') ∷ runs) at
    ∙ ap (λ rs. (from', c ∷ bytes') ∷ rs) (same_runs runs runs' apart.2 apart'.2 s.others)

pub runs_are : (cells : List (Option ℕ)) (runs : List Run)
    → AreRuns runs (present cells) ↔ (runs ≡ runs_of cells)
runs_are cells runs =
    let good = runs_good cells 0 (length cells) (omega arith) in
    let image = runs_image cells 0 in
    let given : AreRuns (runs_of cells) (present cells) = record { bytes = image; apart = good.apart } in (
      λ are. same_runs runs (runs_of cells) are.apart good.apart (are.bytes ∙ sym image),
      λ e. subst (λ rs. AreRuns rs (present cells)) (sym e) given,
    )
