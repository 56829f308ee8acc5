-- The pieces of runs: an ORG for each, and the lines of its bytes.
use Rattle.std.proofs.Common.{◌≡◌, ℕ, suc, ◌+◌, ◌<◌, ◌≤◌, List, [], ◌∷◌, ◌++◌, length, map, refl, sym, ap}
use Rattle.std.proofs.Common.{subst}
use Rattle.std.proofs.Common.{◌∙◌, arith, append_assoc}
use Rattle.std.proofs.lemmas.List.{length-append}
use Rattle.i80_dis.specs.Shown.{lines_of}
use Rattle.i80_dis.specs.Text.{origin_line}
use Rattle.i80_listings_laws.specs.Bytes.{image_from}
use Rattle.i80_dis.proofs.Lines.{listing_some}
use Rattle.i80_listings_laws.proofs.Relation.{listed_lines}
use Rattle.i80_listings_laws.proofs.Cells.{Given, AreGiven, text_given, bytes_given, lines_given}
use Rattle.i80_listings_laws.specs.Runs.{Run, image_of}
use Rattle.i80_listings_laws.specs.Text.{runs_text}
use Rattle.i80_listings_laws.proofs.Runs.{AreGood, RunsHaveBytes, later}
use Rattle.i80_listings_laws.proofs.Pieces.{Piece, gives, begins, text_by}
use Rattle.i80_listings_laws.proofs.Placed.{Fit, image_by}

-- ---- the lines of a run, before other pieces

abbrev with_given : List Given → List Piece → List Piece
with_given gs more = map gives gs ++ more

given_text : (gs : List Given) (more : List Piece)
    → text_by (with_given gs more) ≡ text_given gs ++ text_by more
given_text [] more = refl
given_text (g ∷ gs) more =
    ap (λ t. (g.text ++ 10 ∷ []) ++ t) (given_text gs more)
    ∙ sym (append_assoc (g.text ++ 10 ∷ []) (text_given gs) (text_by more))

given_length : (gs : List Given) → length (map gives gs) ≡ length gs
given_length [] = refl
given_length (g ∷ gs) = ap suc (given_length gs)

image_joined : (xs ys : List ℕ) (from : ℕ)
    → image_from from xs ++ image_from (from + length xs) ys ≡ image_from from (xs ++ ys)
image_joined [] ys from = ap (λ k. image_from k ys) (omega arith)
image_joined (x ∷ xs) ys from =
    let e : from + length (x ∷ xs) ≡ from + 1 + length xs = omega arith in
    ap (λ k. (from, x) ∷ (image_from (from + 1) xs ++ image_from k ys)) e
    ∙ ap (λ ps. (from, x) ∷ ps) (image_joined xs ys (from + 1))

given_image : (gs : List Given) (place : ℕ) (more : List Piece)
    → image_by place (with_given gs more)
    ≡ image_from place (bytes_given gs) ++ image_by (place + length (bytes_given gs)) more
given_image [] place more = ap (λ k. image_by k more) (omega arith)
given_image (g ∷ gs) place more =
    let both = length-append g.bytes (bytes_given gs) in
    let there :
    place + length g.bytes + length (bytes_given gs) ≡ place + length (g.bytes ++ bytes_given gs) =
    omega (arith, both) in
    let rest = image_by (place + length g.bytes + length (bytes_given gs)) more in
    ap (λ ps. image_from place g.bytes ++ ps) (given_image gs (place + length g.bytes) more)
    ∙ sym (append_assoc (image_from place g.bytes) (image_from (place + length g.bytes) (bytes_given gs))
    rest)
    ∙ ap (λ ps. ps ++ rest) (image_joined g.bytes (bytes_given gs) place)
    ∙ ap (λ k. image_from place (g.bytes ++ bytes_given gs) ++ image_by k more) there

given_fit : (gs : List Given) (place : ℕ) (more : List Piece) → Fit (place + length (bytes_given gs)) more
    → Fit place (with_given gs more)
given_fit [] place more fit = let e : place + 0 ≡ place = omega arith in subst (λ k. Fit k more) e fit
given_fit (g ∷ gs) place more fit =
    let both = length-append g.bytes (bytes_given gs) in
    let there :
    place + length (g.bytes ++ bytes_given gs) ≡ place + length g.bytes + length (bytes_given gs) =
    omega (arith, both) in
    (omega arith, given_fit gs (place + length g.bytes) more (subst (λ k. Fit k more) there fit))

-- ---- runs

pub record AreGivenRuns (place : ℕ) (runs : List Run) : Type 0 where
  pub pieces : List Piece
  pub text : runs_text runs ≡ text_by pieces
  pub image : image_by place pieces ≡ image_of runs
  pub fit : Fit place pieces
  pub few : length pieces ≤ length (image_of runs) + length runs

image_length : (bytes : List ℕ) (from : ℕ) → length (image_from from bytes) ≡ length bytes
image_length [] from = refl
image_length (b ∷ bytes) from = ap suc (image_length bytes (from + 1))

-- an ORG and the lines of a run, before the pieces of others
with_run : (address place : ℕ) (bytes : List ℕ) (runs : List Run) (g : AreGiven bytes (lines_of bytes))
    → 0 < length bytes → address < 65536 → place ≤ address → AreGivenRuns (address + length bytes) runs
    → AreGivenRuns place ((address, bytes) ∷ runs)
with_run address place bytes runs g some lt le more =
    let gs = g.given in
    let all : bytes_given gs ≡ bytes = g.all in
    let rest = with_given gs more.pieces in
    let behind : Fit (address + length (bytes_given gs)) more.pieces =
    subst (λ (bs : List ℕ). Fit (address + length bs) more.pieces) (sym all) more.fit in
    let most = g.most in
    let few = more.few in
    let long = length-append (map gives gs) more.pieces in
    let same = given_length gs in
    let both = length-append (image_from address bytes) (image_of runs) in
    let here = image_length bytes address in
    record {
      pieces = begins address lt ∷ rest;
      text =
          ap (λ t. t ++ runs_text runs)
          (listing_some address bytes some ∙ ap (λ t. origin_line address ++ t) g.text)
          ∙ ap (λ t. (origin_line address ++ text_given gs) ++ t) more.text
          ∙ append_assoc (origin_line address) (text_given gs) (text_by more.pieces)
          ∙ ap (λ t. origin_line address ++ t) (sym (given_text gs more.pieces));
      image =
          given_image gs address more.pieces
          ∙ ap (λ (bs : List ℕ). image_from address bs ++ image_by (address + length bs) more.pieces) all
          ∙ ap (λ ps. image_from address bytes ++ ps) more.image;
      fit = (omega (arith, le), given_fit gs address more.pieces behind);
      few = omega (arith, most, few, long, same, both, here);
    }

pub runs_given : (runs : List Run) (place : ℕ) → place ≤ 65536 → AreGood place 65536 runs → RunsHaveBytes runs
    → AreGivenRuns place runs
runs_given [] place le good are =
    record { pieces = []; text = refl; image = refl; fit = le; few = omega arith }
runs_given (r ∷ runs) place le good are =
    let some = good.apart.0 in
    let within = good.ends.0 in
    let behind : AreGood (r.0 + length r.1) 65536 runs = record {
      begins = later (r.0 + length r.1) (r.0 + length r.1 + 1) runs (omega arith) good.apart.1;
      apart = good.apart.2;
      ends = good.ends.1;
    } in
    with_run r.0 place r.1 runs (lines_given (lines_of r.1) r.1 are.0 (listed_lines r.1)) some
    (omega (arith, some, within)) good.begins (runs_given runs (r.0 + length r.1) within behind are.1)

-- a gap before each run but the first
pub room : (runs : List Run) (place end : ℕ) → place ≤ end + 1 → AreGood place end runs
    → length (image_of runs) + length runs + place ≤ end + 1
room [] place end le good = omega (arith, le)
room (r ∷ runs) place end le good =
    let begins = good.begins in
    let within = good.ends.0 in
    let behind : AreGood (r.0 + length r.1 + 1) end runs =
    record { begins = good.apart.1; apart = good.apart.2; ends = good.ends.1 } in
    let more = room runs (r.0 + length r.1 + 1) end (omega (arith, within)) behind in
    let both = length-append (image_from r.0 r.1) (image_of runs) in
    let here = image_length r.1 r.0 in
    omega (arith, begins, more, both, here)
