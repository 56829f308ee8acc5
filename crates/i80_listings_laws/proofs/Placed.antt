-- How the lines of a listing with several runs are laid out, and what they give.
use Rattle.std.proofs.Common.{◌≡◌, ℕ, ◌+◌, ◌%◌, ◌≤◌, inl, inr, List, [], ◌∷◌, ◌++◌, true, false}
use Rattle.std.proofs.Common.{length, Option, Some, None, Ok, refl, sym, ap, subst, ◌∙◌, arith, eqb}
use Rattle.std.proofs.Common.{append_assoc}
use Rattle.std.proofs.lemmas.Bool.{le-ltb, ne_eqb}
use Rattle.std.proofs.lemmas.List.{append-nil}
use Rattle.std.proofs.lemmas.List.Folds.{list_any-append}
use Rattle.asm_syntax.specs.declared.statement.Statement.{Statement}
use Rattle.asm_encode.specs.Bytes.{bytes_of}
use Rattle.asm_encode.specs.Lengths.{length_of}
use Rattle.asm_build.specs.declared.laid.Laid.{Laid}
use Rattle.asm_build.specs.declared.built.Row.{Row}
use Rattle.asm_build.specs.Images.{has}
use Rattle.asm_build.specs.Reading.{Entries, Lines, place_after, parts_after, has_ended, is_selected}
use Rattle.asm_build.specs.Reading.{late_value}
use Rattle.asm_build.specs.Layout.{past, laid_out, laid_after, layout}
use Rattle.asm_build.specs.Meaning.{Output, at_address, overlaps, rows_of, output_of, definitions}
use Rattle.i80_listings_laws.proofs.PlainLines.{does}
use Rattle.i80_listings_laws.specs.Bytes.{image_from}
use Rattle.i80_listings_laws.proofs.Instructions.{Giving, action_by}
use Rattle.i80_listings_laws.proofs.Statements.{origin}
use Rattle.i80_listings_laws.proofs.Pieces.{Piece, gives, begins, action_in, statements_by, end_action}
use Rattle.i80_listings_laws.proofs.Pieces.{end_statements}

-- ---- places

abbrev row : ℕ → ℕ → Laid
row place value = record { place = place; is_assembled = true; value = value }

abbrev pub bytes_in : Piece → List ℕ
bytes_in (gives g) = g.bytes
bytes_in (begins address lt) = []

-- how a piece is laid out at a place
abbrev row_at : ℕ → Piece → Laid
row_at place (gives g) = row place 0
row_at place (begins address lt) = row place address

-- the place after it
abbrev pub next_place : ℕ → Piece → ℕ
next_place place (gives g) = place + length g.bytes
next_place place (begins address lt) = address

abbrev line_at : ℕ → Piece → Statement × Laid
line_at place p = (does (action_in p), row_at place p)

-- the pieces stand one behind the other, within memory
abbrev pub Fit : ℕ → List Piece → Type 0
Fit place [] = place ≤ 65536
Fit place (p ∷ ps) = (place + length (bytes_in p) ≤ next_place place p) × Fit (next_place place p) ps

fit_within : (ps : List Piece) (place : ℕ) → Fit place ps → place ≤ 65536
fit_within [] place fit = fit
fit_within (p ∷ ps) place fit =
    let more = fit_within ps (next_place place p) fit.1 in let here = fit.0 in omega (arith, here, more)

-- behind these lines stands this place, outside of all IFs and before END, and no name was defined
record Behind (earlier : Lines) (place : ℕ) : Type 0 where
  place_is : place_after earlier ≡ place
  parts : parts_after earlier ≡ []
  ended : has_ended earlier ≡ false
  own : definitions earlier ≡ []

giving_behind : (a : Giving) (earlier : Lines) (place n : ℕ) → length_of (action_by a) 0 ≡ n
    → Behind earlier place → Behind ((does (action_by a), row place 0) ∷ earlier) (place + n)
giving_behind (inl i) earlier place n long b =
    record { place_is = ap (λ k. place + k) long; parts = b.parts; ended = b.ended; own = b.own }
giving_behind (inr ds) earlier place n long b =
    record { place_is = ap (λ k. place + k) long; parts = b.parts; ended = b.ended; own = b.own }

piece_behind : (p : Piece) (earlier : Lines) (place : ℕ) → Behind earlier place
    → Behind (line_at place p ∷ earlier) (next_place place p)
piece_behind (gives g) earlier place b =
    giving_behind g.line.acts earlier place (length g.bytes) (g.line.long 0) b
piece_behind (begins address lt) earlier place b =
    record { place_is = refl; parts = b.parts; ended = b.ended; own = b.own }

-- ---- the layout

-- a statement that is assembled wherever no IF is open
selected_at : (kept : Entries) (earlier : Lines) (place : ℕ) (s : Statement) (r : Laid) → Behind earlier place
    → is_selected false [] s ≡ true → laid_out (past kept earlier) place true s ≡ Ok r
    → laid_after kept earlier s ≡ Ok r
selected_at kept earlier place s r b selected is =
    let p = b.place_is in
    let q = b.parts in
    let e = b.ended in
    ap (λ k. laid_out (past kept earlier) k (is_selected (has_ended earlier) (parts_after earlier) s) s) p
    ∙ ap (λ k. laid_out (past kept earlier) place (is_selected k (parts_after earlier) s) s) e
    ∙ ap (λ k. laid_out (past kept earlier) place (is_selected false k s) s) q
    ∙ ap (λ k. laid_out (past kept earlier) place k s) selected ∙ is

giving_laid : (a : Giving) (kept : Entries) (earlier : Lines) (place : ℕ) → Behind earlier place
    → place + length_of (action_by a) 0 ≤ 65536
    → laid_after kept earlier (does (action_by a)) ≡ Ok (row place 0)
giving_laid (inl i) kept earlier place b le =
    selected_at kept earlier place (does (action_by (inl i))) (row place 0) b refl
    (rw (le-ltb 65536 (place + length_of (action_by (inl i)) 0) le) refl)
giving_laid (inr ds) kept earlier place b le =
    selected_at kept earlier place (does (action_by (inr ds))) (row place 0) b refl
    (rw (le-ltb 65536 (place + length_of (action_by (inr ds)) 0) le) refl)

origin_laid : (kept : Entries) (earlier : Lines) (place address : ℕ) → Behind earlier place → place ≤ 65536
    → laid_after kept earlier (origin address) ≡ Ok (row place address)
origin_laid kept earlier place address b le =
    selected_at kept earlier place (origin address) (row place address) b refl
    (rw (le-ltb 65536 (place + 0) (omega (arith, le))) refl)

piece_laid : (p : Piece) (kept : Entries) (earlier : Lines) (place : ℕ) → Behind earlier place
    → place + length (bytes_in p) ≤ 65536
    → laid_after kept earlier (does (action_in p)) ≡ Ok (row_at place p)
piece_laid (gives g) kept earlier place b le =
    let long = g.line.long 0 in giving_laid g.line.acts kept earlier place b (omega (arith, long, le))
piece_laid (begins address lt) kept earlier place b le =
    origin_laid kept earlier place address b (omega (arith, le))

-- the lines of pieces behind others, and the place behind them
abbrev pub lines_onto : Lines → ℕ → List Piece → Lines
lines_onto earlier place [] = earlier
lines_onto earlier place (p ∷ ps) = lines_onto (line_at place p ∷ earlier) (next_place place p) ps

abbrev last_place : ℕ → List Piece → ℕ
last_place place [] = place
last_place place (p ∷ ps) = last_place (next_place place p) ps

layout_goes : (kept : Entries) (earlier : Lines) (s : Statement) (r : Laid) (ss : List Statement)
    → laid_after kept earlier s ≡ Ok r
    → layout kept earlier (s ∷ ss) ≡ layout kept ((s, r) ∷ earlier) ss
unfolding layout
layout_goes kept earlier s r ss is = rw is refl

layout_ends : (kept : Entries) (earlier : Lines) → layout kept earlier [] ≡ Ok earlier
unfolding layout
layout_ends kept earlier = refl

pieces_laid : (ps : List Piece) (ss : List Statement) (kept : Entries) (earlier : Lines) (place : ℕ)
    → Behind earlier place → Fit place ps
    → layout kept earlier (statements_by ps ++ ss) ≡ layout kept (lines_onto earlier place ps) ss
pieces_laid [] ss kept earlier place b fit = refl
pieces_laid (p ∷ ps) ss kept earlier place b fit =
    let here = fit.0 in
    let more = fit_within ps (next_place place p) fit.1 in
    layout_goes kept earlier (does (action_in p)) (row_at place p) (statements_by ps ++ ss)
    (piece_laid p kept earlier place b (omega (arith, here, more)))
    ∙ pieces_laid ps ss kept (line_at place p ∷ earlier) (next_place place p) (piece_behind p earlier place b)
    fit.1

pieces_behind : (ps : List Piece) (earlier : Lines) (place : ℕ) → Behind earlier place
    → Behind (lines_onto earlier place ps) (last_place place ps)
pieces_behind [] earlier place b = b
pieces_behind (p ∷ ps) earlier place b =
    pieces_behind ps (line_at place p ∷ earlier) (next_place place p) (piece_behind p earlier place b)

last_within : (ps : List Piece) (place : ℕ) → Fit place ps → last_place place ps ≤ 65536
last_within [] place fit = fit
last_within (p ∷ ps) place fit = last_within ps (next_place place p) fit.1

-- ---- images

at_is : (bytes : List ℕ) (place : ℕ) → place + length bytes ≤ 65536
    → at_address (place % 65536) bytes ≡ image_from place bytes
at_is [] place le = refl
at_is (b ∷ bytes) place le =
    let low : place % 65536 ≡ place = omega (arith, le) in
    let next : (place + 1) % 65536 ≡ (place % 65536 + 1) % 65536 = omega (arith, le) in
    let more : place + 1 + length bytes ≤ 65536 = omega (arith, le) in
    ap (λ k. (k, b) ∷ at_address ((place % 65536 + 1) % 65536) bytes) low
    ∙ ap (λ ps. (place, b) ∷ ps) (ap (λ k. at_address k bytes) (sym next) ∙ at_is bytes (place + 1) more)

-- no byte stands at this address or above
abbrev Below : List (ℕ × ℕ) → ℕ → Type 0
Below image place = (address : ℕ) → place ≤ address → has image address ≡ false

bytes_below : (bytes : List ℕ) (from : ℕ) → Below (image_from from bytes) (from + length bytes)
bytes_below [] from address le = refl
bytes_below (b ∷ bytes) from address le =
    let other : eqb from address ≡ false = ne_eqb from address (λ e. absurd (omega (arith, le, e))) in
    rw other (bytes_below bytes (from + 1) address (omega (arith, le)))

apart : (more : List ℕ) (place : ℕ) (image : List (ℕ × ℕ)) → Below image place
    → overlaps image (image_from place more) ≡ false
apart [] place image below = refl
apart (b ∷ more) place image below =
    rw (below place (omega arith))
    (apart more (place + 1) image (λ address le. below address (omega (arith, le))))

below_next : (bytes : List ℕ) (place next : ℕ) (image : List (ℕ × ℕ)) → Below image place
    → place + length bytes ≤ next → Below (image ++ image_from place bytes) next
below_next bytes place next image below le address at =
    let first = below address (omega (arith, le, at)) in
    let second = bytes_below bytes place address (omega (arith, le, at)) in
    list_any-append (λ p. eqb p.0 address) image (image_from place bytes) ∙ rw (first, second) refl

-- the image of pieces from a place on
abbrev pub image_by : ℕ → List Piece → List (ℕ × ℕ)
image_by place [] = []
image_by place (p ∷ ps) = image_from place (bytes_in p) ++ image_by (next_place place p) ps

-- ---- what the lines give

abbrev output : List (ℕ × ℕ) → List Row → Option ℕ → Output
output image rows start = record { image = image; rows = rows; start = start }

giving_gives : (a : Giving) (kept : Entries) (all earlier : Lines) (place : ℕ) (image : List (ℕ × ℕ))
    (rows : List Row) (bytes : List ℕ)
    → bytes_of (late_value kept all earlier) (place % 65536) (action_by a) ≡ Ok bytes
    → overlaps image (at_address (place % 65536) bytes) ≡ false
    → output_of kept all earlier ≡ Ok (output image rows None)
    → output_of kept all ((does (action_by a), row place 0) ∷ earlier)
    ≡ Ok (output (image ++ at_address (place % 65536) bytes)
    (rows ++ rows_of (length earlier + 1) (place % 65536) bytes) None)
unfolding output_of
giving_gives (inl i) kept all earlier place image rows bytes is free before = rw (before, is, free) refl
giving_gives (inr ds) kept all earlier place image rows bytes is free before = rw (before, is, free) refl

origin_gives : (kept : Entries) (all earlier : Lines) (place address : ℕ) (image : List (ℕ × ℕ))
    (rows : List Row)
    → output_of kept all earlier ≡ Ok (output image rows None)
    → output_of kept all ((origin address, row place address) ∷ earlier)
    ≡ Ok (output (image ++ []) (rows ++ []) None)
unfolding output_of
origin_gives kept all earlier place address image rows before = rw before refl

end_gives : (kept : Entries) (all earlier : Lines) (place start : ℕ) (image : List (ℕ × ℕ)) (rows : List Row)
    → output_of kept all earlier ≡ Ok (output image rows None)
    → output_of kept all ((does (end_action start), row place 0) ∷ earlier)
    ≡ Ok (output (image ++ []) (rows ++ []) (Some start))
unfolding output_of
end_gives kept all earlier place start image rows before = rw before refl

-- the lines give this image and this start
pub record Gives (kept : Entries) (all lines : Lines) (image : List (ℕ × ℕ)) (start : Option ℕ) : Type 0 where
  pub rows : List Row
  pub out : output_of kept all lines ≡ Ok (output image rows start)

piece_gives : (p : Piece) (kept : Entries) (all earlier : Lines) (place : ℕ) (image : List (ℕ × ℕ))
    → Below image place → place + length (bytes_in p) ≤ 65536 → Gives kept all earlier image None
    → Gives kept all (line_at place p ∷ earlier) (image ++ image_from place (bytes_in p)) None
piece_gives (gives g) kept all earlier place image below le before =
    let at = at_is g.bytes place le in
    let free : overlaps image (at_address (place % 65536) g.bytes) ≡ false =
    ap (overlaps image) at ∙ apart g.bytes place image below in
    let more = before.rows ++ rows_of (length earlier + 1) (place % 65536) g.bytes in
    record {
      rows = more;
      out =
          giving_gives g.line.acts kept all earlier place image before.rows g.bytes
          (g.line.gives (late_value kept all earlier) (place % 65536)) free before.out
          ∙ ap (λ ps. Ok (output (image ++ ps) more None)) at;
    }
piece_gives (begins address lt) kept all earlier place image below le before =
    record {
      rows = before.rows ++ [];
      out = origin_gives kept all earlier place address image before.rows before.out;
    }

pieces_give : (ps : List Piece) (kept : Entries) (all earlier : Lines) (place : ℕ) (image : List (ℕ × ℕ))
    → Below image place → Fit place ps → Gives kept all earlier image None
    → Gives kept all (lines_onto earlier place ps) (image ++ image_by place ps) None
pieces_give [] kept all earlier place image below fit before =
    subst (λ (ps : List (ℕ × ℕ)). Gives kept all earlier ps None) (sym (append-nil image)) before
pieces_give (p ∷ ps) kept all earlier place image below fit before =
    let here = fit.0 in
    let more = fit_within ps (next_place place p) fit.1 in
    subst (λ (is : List (ℕ × ℕ)). Gives kept all (lines_onto earlier place (p ∷ ps)) is None)
    (append_assoc image (image_from place (bytes_in p)) (image_by (next_place place p) ps))
    (pieces_give ps kept all (line_at place p ∷ earlier) (next_place place p)
    (image ++ image_from place (bytes_in p))
    (below_next (bytes_in p) place (next_place place p) image below here)
    fit.1 (piece_gives p kept all earlier place image below (omega (arith, here, more)) before))

-- ---- all lines, with END

-- the lines of END behind others
abbrev end_onto : Lines → ℕ → Option ℕ → Lines
end_onto earlier place None = earlier
end_onto earlier place (Some start) = (does (end_action start), row place 0) ∷ earlier

end_laid : (start : Option ℕ) (kept : Entries) (earlier : Lines) (place : ℕ) → Behind earlier place
    → place ≤ 65536
    → layout kept earlier (end_statements start) ≡ Ok (end_onto earlier place start)
end_laid None kept earlier place b le = layout_ends kept earlier
end_laid (Some start) kept earlier place b le =
    layout_goes kept earlier (does (end_action start)) (row place 0) []
    (selected_at kept earlier place (does (end_action start)) (row place 0) b refl
    (rw (le-ltb 65536 (place + 0) (omega (arith, le))) refl))
    ∙ layout_ends kept ((does (end_action start), row place 0) ∷ earlier)

end_own : (start : Option ℕ) (earlier : Lines) (place : ℕ) → definitions earlier ≡ []
    → definitions (end_onto earlier place start) ≡ []
end_own None earlier place own = own
end_own (Some start) earlier place own = own

end_given : (start : Option ℕ) (kept : Entries) (all earlier : Lines) (place : ℕ) (image : List (ℕ × ℕ))
    → Gives kept all earlier image None → Gives kept all (end_onto earlier place start) image start
end_given None kept all earlier place image before = before
end_given (Some start) kept all earlier place image before = record {
  rows = before.rows ++ [];
  out =
      end_gives kept all earlier place start image before.rows before.out
      ∙ ap (λ ps. Ok (output ps (before.rows ++ []) (Some start))) (append-nil image);
}

abbrev pub lines_with : List Piece → Option ℕ → Lines
lines_with ps start = end_onto (lines_onto [] 0 ps) (last_place 0 ps) start

none_behind : Behind [] 0
none_behind = record { place_is = refl; parts = refl; ended = refl; own = refl }

none_gives : (kept : Entries) (all : Lines) → Gives kept all [] [] None
unfolding output_of
none_gives kept all = record { rows = []; out = refl }

pub all_laid : (ps : List Piece) (start : Option ℕ) (kept : Entries) → Fit 0 ps
    → layout kept [] (statements_by ps ++ end_statements start) ≡ Ok (lines_with ps start)
all_laid ps start kept fit =
    pieces_laid ps (end_statements start) kept [] 0 none_behind fit
    ∙ end_laid start kept (lines_onto [] 0 ps) (last_place 0 ps) (pieces_behind ps [] 0 none_behind)
    (last_within ps 0 fit)

pub all_own : (ps : List Piece) (start : Option ℕ) → definitions (lines_with ps start) ≡ []
all_own ps start =
    let b = pieces_behind ps [] 0 none_behind in end_own start (lines_onto [] 0 ps) (last_place 0 ps) b.own

pub all_given : (ps : List Piece) (start : Option ℕ) (kept : Entries) (all : Lines) → Fit 0 ps
    → Gives kept all (lines_with ps start) (image_by 0 ps) start
all_given ps start kept all fit =
    end_given start kept all (lines_onto [] 0 ps) (last_place 0 ps) (image_by 0 ps)
    (pieces_give ps kept all [] 0 [] (λ address le. refl) fit (none_gives kept all))
