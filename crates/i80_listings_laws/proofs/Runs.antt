-- The runs of cells: the bytes that are present, apart and within memory.
use Rattle.std.proofs.Common.{◌≡◌, ℕ, ◌+◌, ◌<◌, ◌≤◌, ◌≢◌, List, [], ◌∷◌, ◌++◌, length, map, Bool, true}
use Rattle.std.proofs.Common.{false, Option, Some, None, refl, sym, ap, subst, ◌∙◌, arith, eqb}
use Rattle.std.specs.Prelude.{if◌then◌else◌, ◌==◌}
use Rattle.std.proofs.lemmas.Bool.{eqb-true, eqb-false, ne_eqb}
use Rattle.i80_listings_laws.specs.Bytes.{AreBytes, image_from}
use Rattle.i80_listings_laws.specs.Runs.{Run, present_from, image_of, BeginsFrom, AreApart}
use Rattle.i80_listings_laws.specs.Runs.{with_byte, runs_from}
use Rattle.i80_listings_laws.specs.Law.{HaveBytes}

-- ---- runs with one more byte in front

abbrev joined : Bool → ℕ → ℕ → Run → List Run → List Run
joined c address b r runs = if c then (address, b ∷ r.1) ∷ runs else (address, b ∷ []) ∷ r ∷ runs

-- each run ends by this address
abbrev pub EndBy : ℕ → List Run → Type 0
EndBy end [] = Unit {0}
EndBy end (r ∷ runs) = (r.0 + length r.1 ≤ end) × EndBy end runs

-- the runs have bytes
abbrev pub RunsHaveBytes : List Run → Type 0
RunsHaveBytes [] = Unit {0}
RunsHaveBytes (r ∷ runs) = AreBytes r.1 × RunsHaveBytes runs

-- runs that begin from an address on, and what is known of them
pub record AreGood (address end : ℕ) (runs : List Run) : Type 0 where
  pub begins : BeginsFrom address runs
  pub apart : AreApart runs
  pub ends : EndBy end runs

pub later : (from address : ℕ) (runs : List Run) → from ≤ address → BeginsFrom address runs
    → BeginsFrom from runs
later from address [] le h = tt
later from address (r ∷ runs) le h = omega (arith, le, h)

joined_good : (c : Bool) (address end b : ℕ) (r : Run) (runs : List Run) → (r.0 == address + 1) ≡ c
    → address + 1 ≤ end → AreGood (address + 1) end (r ∷ runs)
    → AreGood address end (joined c address b r runs)
joined_good true address end b r runs e le g =
    let next : r.0 ≡ address + 1 = eqb-true r.0 (address + 1) e in
    let apart = g.apart in
    let ends = g.ends in
    let here = ends.0 in
    record {
      begins = omega arith;
      apart = (
        omega arith,
        later (address + length (b ∷ r.1) + 1) (r.0 + length r.1 + 1) runs (omega (arith, next)) apart.1,
        apart.2,
      );
      ends = (omega (arith, next, here), ends.1);
    }
joined_good false address end b r runs e le g =
    let other : r.0 ≢ address + 1 = eqb-false r.0 (address + 1) e in
    let begins = g.begins in
    record {
      begins = omega arith;
      apart = (omega arith, grind (arith, other, begins), g.apart);
      ends = (omega (arith, le), g.ends);
    }

good_with : (address end b : ℕ) (runs : List Run) → address + 1 ≤ end → AreGood (address + 1) end runs
    → AreGood address end (with_byte address b runs)
good_with address end b [] le g =
    record { begins = omega arith; apart = (omega arith, tt, tt); ends = (omega (arith, le), tt) }
good_with address end b (r ∷ runs) le g =
    joined_good (r.0 == address + 1) address end b r runs refl le g

none_good : (address end : ℕ) → AreGood address end []
none_good address end = record { begins = tt; apart = tt; ends = tt }

good_later : (address end : ℕ) (runs : List Run) → AreGood (address + 1) end runs → AreGood address end runs
good_later address end runs g =
    record {
      begins = later address (address + 1) runs (omega arith) g.begins;
      apart = g.apart;
      ends = g.ends;
    }

pub runs_good : (cells : List (Option ℕ)) (address end : ℕ) → address + length cells ≤ end
    → AreGood address end (runs_from address cells)
unfolding runs_from
runs_good [] address end le = none_good address end
runs_good (None ∷ cells) address end le =
    good_later address end (runs_from (address + 1) cells)
    (runs_good cells (address + 1) end (omega (arith, le)))
runs_good (Some b ∷ cells) address end le =
    good_with address end b (runs_from (address + 1) cells) (omega (arith, le))
    (runs_good cells (address + 1) end (omega (arith, le)))

-- ---- bytes

joined_bytes : (c : Bool) (address b : ℕ) (r : Run) (runs : List Run) → b < 256 → RunsHaveBytes (r ∷ runs)
    → RunsHaveBytes (joined c address b r runs)
joined_bytes true address b r runs lt h = ((lt, h.0), h.1)
joined_bytes false address b r runs lt h = ((lt, tt), h)

bytes_with : (address b : ℕ) (runs : List Run) → b < 256 → RunsHaveBytes runs
    → RunsHaveBytes (with_byte address b runs)
bytes_with address b [] lt h = ((lt, tt), tt)
bytes_with address b (r ∷ runs) lt h = joined_bytes (r.0 == address + 1) address b r runs lt h

pub runs_bytes : (cells : List (Option ℕ)) (address : ℕ) → HaveBytes cells
    → RunsHaveBytes (runs_from address cells)
unfolding runs_from
runs_bytes [] address are = tt
runs_bytes (None ∷ cells) address are = runs_bytes cells (address + 1) are
runs_bytes (Some b ∷ cells) address are =
    bytes_with address b (runs_from (address + 1) cells) are.0 (runs_bytes cells (address + 1) are.1)

-- ---- images

joined_image : (c : Bool) (address b : ℕ) (r : Run) (runs : List Run) → (r.0 == address + 1) ≡ c
    → image_of (joined c address b r runs) ≡ (address, b) ∷ image_of (r ∷ runs)
joined_image true address b r runs e =
    let next : r.0 ≡ address + 1 = eqb-true r.0 (address + 1) e in
    ap (λ k. (address, b) ∷ (image_from k r.1 ++ image_of runs)) (sym next)
joined_image false address b r runs e = refl

image_with : (address b : ℕ) (runs : List Run)
    → image_of (with_byte address b runs) ≡ (address, b) ∷ image_of runs
image_with address b [] = refl
image_with address b (r ∷ runs) = joined_image (r.0 == address + 1) address b r runs refl

pub runs_image : (cells : List (Option ℕ)) (address : ℕ)
    → image_of (runs_from address cells) ≡ present_from address cells
unfolding runs_from present_from
runs_image [] address = refl
runs_image (None ∷ cells) address = runs_image cells (address + 1)
runs_image (Some b ∷ cells) address =
    image_with address b (runs_from (address + 1) cells)
    ∙ ap (λ ps. (address, b) ∷ ps) (runs_image cells (address + 1))

-- ---- a run and the cells after it

goes_on : (address b : ℕ) (bytes : List ℕ) (runs : List Run)
    → with_byte address b ((address + 1, bytes) ∷ runs) ≡ (address, b ∷ bytes) ∷ runs
goes_on address b bytes runs =
    let e : eqb (address + 1) (address + 1) ≡ true = grind arith in rw e refl

begins_run : (address b : ℕ) (runs : List Run) → BeginsFrom (address + 1 + 1) runs
    → with_byte address b runs ≡ (address, b ∷ []) ∷ runs
begins_run address b [] begins = refl
begins_run address b (r ∷ runs) begins =
    let e : eqb r.0 (address + 1) ≡ false =
    ne_eqb r.0 (address + 1) (λ is. absurd (omega (arith, is, begins))) in
    rw e refl

-- bytes before cells of which the first has none are a run
pub run_then : (bytes : List ℕ) (address : ℕ) (cells : List (Option ℕ)) → 0 < length bytes
    → BeginsFrom (address + length bytes + 1) (runs_from (address + length bytes) cells)
    → runs_from address (map Some bytes ++ cells)
    ≡ (address, bytes) ∷ runs_from (address + length bytes) cells
unfolding runs_from
run_then [] address cells some begins = absurd (omega (arith, some))
run_then (b ∷ []) address cells some begins = begins_run address b (runs_from (address + 1) cells) begins
run_then (b ∷ (c ∷ bytes)) address cells some begins =
    let e : address + length (b ∷ (c ∷ bytes)) ≡ address + 1 + length (c ∷ bytes) = omega arith in
    let next = subst (λ k. BeginsFrom (k + 1) (runs_from k cells)) e begins in
    ap (with_byte address b) (run_then (c ∷ bytes) (address + 1) cells (omega arith) next)
    ∙ goes_on address b (c ∷ bytes) (runs_from (address + 1 + length (c ∷ bytes)) cells)
    ∙ ap (λ k. (address, b ∷ (c ∷ bytes)) ∷ runs_from k cells) (sym e)
