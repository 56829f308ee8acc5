-- How a listing is laid out, and what it gives.
use Rattle.std.proofs.Common.{◌≡◌, ℕ, ◌+◌, ◌%◌, ◌<◌, ◌≤◌, inl, inr, List, [], ◌∷◌, ◌++◌, true, false, length}
use Rattle.std.proofs.Common.{None, Result, Ok, refl, sym, ap, subst, ◌∙◌, arith, eqb, append_assoc}
use Rattle.std.proofs.lemmas.Bool.{le-ltb, ne_eqb}
use Rattle.std.proofs.lemmas.List.{append-nil, length-append}
use Rattle.asm_syntax.specs.declared.statement.Statement.{Statement}
use Rattle.asm_syntax.specs.Outcome.{CellFault}
use Rattle.asm_encode.specs.Bytes.{bytes_of}
use Rattle.asm_encode.specs.Lengths.{length_of}
use Rattle.asm_build.specs.declared.laid.Laid.{Laid}
use Rattle.asm_build.specs.declared.built.Row.{Row}
use Rattle.asm_build.specs.Images.{has}
use Rattle.asm_build.specs.Reading.{Entries, Lines, place_after, parts_after, has_ended, is_selected}
use Rattle.asm_build.specs.Reading.{late_value}
use Rattle.asm_build.specs.Layout.{past, laid_out, laid_after, layout}
use Rattle.asm_build.specs.Meaning.{Output, Meaning, at_address, overlaps, rows_of, with_bytes}
use Rattle.asm_build.specs.Meaning.{output_of, definitions, meaning_of, built_of}
use Rattle.asm_build.proofs.ReadingLemmas as reading
use Rattle.asm_text.specs.Statements.{statements_of}
use Rattle.i80_dis.specs.Shown.{lines_of}
use Rattle.i80_dis.specs.Text.{origin_line, listing_of}
use Rattle.i80_listings_laws.specs.Bytes.{AreBytes, image_from, only_image, AssemblesTo}
use Rattle.i80_dis.proofs.Lines.{listing_some, listing_none}
use Rattle.i80_listings_laws.proofs.Relation.{listed_lines}
use Rattle.i80_listings_laws.proofs.PlainLines.{does}
use Rattle.i80_listings_laws.proofs.Instructions.{Giving, action_by}
use Rattle.i80_listings_laws.proofs.Cells.{Given, text_given, bytes_given, statements_given, lines_given}
use Rattle.i80_listings_laws.proofs.Statements.{origin, statements_are, nothing_said}

-- ---- places

abbrev at : ℕ → Laid
at place = record { place = place; is_assembled = true; value = 0 }

-- behind these lines stands this place, outside of all IFs, and no name was defined
record Behind (earlier : Lines) (place : ℕ) : Type 0 where
  place_is : place_after earlier ≡ place
  parts : parts_after earlier ≡ []
  ended : has_ended earlier ≡ false
  own : definitions earlier ≡ []

goes_on : (a : Giving) (earlier : Lines) (place n : ℕ) → length_of (action_by a) 0 ≡ n → Behind earlier place
    → Behind ((does (action_by a), at place) ∷ earlier) (place + n)
goes_on (inl i) earlier place n long b =
    record { place_is = ap (λ k. place + k) long; parts = b.parts; ended = b.ended; own = b.own }
goes_on (inr ds) earlier place n long b =
    record { place_is = ap (λ k. place + k) long; parts = b.parts; ended = b.ended; own = b.own }

selected : (a : Giving) → is_selected false [] (does (action_by a)) ≡ true
selected (inl i) = refl
selected (inr ds) = refl

laid : (a : Giving) (kept : Entries) (earlier : Lines) (place : ℕ) → place + length_of (action_by a) 0 ≤ 65536
    → laid_out (past kept earlier) place true (does (action_by a)) ≡ Ok (at place)
laid (inl i) kept earlier place le = rw (le-ltb 65536 (place + length_of (action_by (inl i)) 0) le) refl
laid (inr ds) kept earlier place le = rw (le-ltb 65536 (place + length_of (action_by (inr ds)) 0) le) refl

laid_at : (a : Giving) (kept : Entries) (earlier : Lines) (place : ℕ) → Behind earlier place
    → place + length_of (action_by a) 0 ≤ 65536
    → laid_after kept earlier (does (action_by a)) ≡ Ok (at place)
laid_at a kept earlier place b le =
    let s = does (action_by a) in
    let p = b.place_is in
    let q = b.parts in
    let e = b.ended in
    ap (λ k. laid_out (past kept earlier) k (is_selected (has_ended earlier) (parts_after earlier) s) s) p
    ∙ ap (λ k. laid_out (past kept earlier) place (is_selected k (parts_after earlier) s) s) e
    ∙ ap (λ k. laid_out (past kept earlier) place (is_selected false k s) s) q
    ∙ ap (λ k. laid_out (past kept earlier) place k s) (selected a)
    ∙ laid a kept earlier place le

-- the lines of a listing behind others
abbrev lines_onto : Lines → ℕ → List Given → Lines
lines_onto earlier place [] = earlier
lines_onto earlier place (g ∷ gs) =
    lines_onto ((does (action_by g.line.acts), at place) ∷ earlier) (place + length g.bytes) gs

layout_goes : (kept : Entries) (earlier : Lines) (s : Statement) (r : Laid) (ss : List Statement)
    → laid_after kept earlier s ≡ Ok r
    → layout kept earlier (s ∷ ss) ≡ layout kept ((s, r) ∷ earlier) ss
unfolding layout
layout_goes kept earlier s r ss is = rw is refl

layout_ends : (kept : Entries) (earlier : Lines) → layout kept earlier [] ≡ Ok earlier
unfolding layout
layout_ends kept earlier = refl

laid_given : (gs : List Given) (kept : Entries) (earlier : Lines) (place : ℕ) → Behind earlier place
    → place + length (bytes_given gs) ≤ 65536
    → layout kept earlier (statements_given gs) ≡ Ok (lines_onto earlier place gs)
laid_given [] kept earlier place b le = layout_ends kept earlier
laid_given (g ∷ gs) kept earlier place b le =
    let long = g.line.long 0 in
    let both = length-append g.bytes (bytes_given gs) in
    let here : place + length_of (action_by g.line.acts) 0 ≤ 65536 = omega (arith, long, both, le) in
    let next : place + length g.bytes + length (bytes_given gs) ≤ 65536 = omega (arith, both, le) in
    layout_goes kept earlier (does (action_by g.line.acts)) (at place) (statements_given gs)
    (laid_at g.line.acts kept earlier place b here)
    ∙ laid_given gs kept ((does (action_by g.line.acts), at place) ∷ earlier) (place + length g.bytes)
    (goes_on g.line.acts earlier place (length g.bytes) long b) next

behind_given : (gs : List Given) (earlier : Lines) (place : ℕ) → Behind earlier place
    → definitions (lines_onto earlier place gs) ≡ []
behind_given [] earlier place b = b.own
behind_given (g ∷ gs) earlier place b =
    behind_given gs ((does (action_by g.line.acts), at place) ∷ earlier) (place + length g.bytes)
    (goes_on g.line.acts earlier place (length g.bytes) (g.line.long 0) b)

-- ---- images

at_is : (bytes : List ℕ) (place : ℕ) → place + length bytes ≤ 65536
    → at_address (place % 65536) bytes ≡ image_from place bytes
at_is [] place le = refl
at_is (b ∷ bytes) place le =
    let low : place % 65536 ≡ place = omega (arith, le) in
    let next : (place + 1) % 65536 ≡ (place % 65536 + 1) % 65536 = omega (arith, le) in
    let more : place + 1 + length bytes ≤ 65536 = omega (arith, le) in
    ap (λ k. (k, b) ∷ at_address ((place % 65536 + 1) % 65536) bytes) low
    ∙ ap (λ ps. (place, b) ∷ ps) (ap (λ k. at_address k bytes) (sym next) ∙ at_is bytes (place + 1) more)

no_byte : (bytes : List ℕ) (from address : ℕ) → from + length bytes ≤ address
    → has (image_from from bytes) address ≡ false
no_byte [] from address le = refl
no_byte (b ∷ bytes) from address le =
    let other : eqb from address ≡ false = ne_eqb from address (λ e. absurd (omega (arith, le, e))) in
    rw other (no_byte bytes (from + 1) address (omega (arith, le)))

apart : (more : List ℕ) (place from : ℕ) (bytes : List ℕ) → from + length bytes ≤ place
    → overlaps (image_from from bytes) (image_from place more) ≡ false
apart [] place from bytes le = refl
apart (b ∷ more) place from bytes le =
    rw (no_byte bytes from place le) (apart more (place + 1) from bytes (omega (arith, le)))

image_joined : (xs ys : List ℕ) (from : ℕ)
    → image_from from xs ++ image_from (from + length xs) ys ≡ image_from from (xs ++ ys)
image_joined [] ys from = ap (λ k. image_from k ys) (omega arith)
image_joined (x ∷ xs) ys from =
    let e : from + length (x ∷ xs) ≡ from + 1 + length xs = omega arith in
    ap (λ k. (from, x) ∷ (image_from (from + 1) xs ++ image_from k ys)) e
    ∙ ap (λ ps. (from, x) ∷ ps) (image_joined xs ys (from + 1))

-- ---- what the lines give

abbrev output : List (ℕ × ℕ) → List Row → Output
output image rows = record { image = image; rows = rows; start = None }

abbrev given_output : List (ℕ × ℕ) → List Row → Result Output CellFault
given_output image rows = Ok (output image rows)

abbrev with_more : Output → ℕ → ℕ → List ℕ → Output
with_more out line address bytes = with_bytes out line address bytes None

line_gives : (a : Giving) (kept : Entries) (all earlier : Lines) (place : ℕ) (image : List (ℕ × ℕ))
    (rows : List Row) (bytes : List ℕ)
    → bytes_of (late_value kept all earlier) (place % 65536) (action_by a) ≡ Ok bytes
    → overlaps image (at_address (place % 65536) bytes) ≡ false
    → output_of kept all earlier ≡ Ok (output image rows)
    → output_of kept all ((does (action_by a), at place) ∷ earlier)
    ≡ Ok (with_more (output image rows) (length earlier + 1) (place % 65536) bytes)
unfolding output_of
line_gives (inl i) kept all earlier place image rows bytes gives free before = rw (before, gives, free) refl
line_gives (inr ds) kept all earlier place image rows bytes gives free before = rw (before, gives, free) refl

-- lines give these bytes from an address on, and no start
record Gives (kept : Entries) (all lines : Lines) (from : ℕ) (bytes : List ℕ) : Type 0 where
  rows : List Row
  out : output_of kept all lines ≡ Ok (output (image_from from bytes) rows)

given_gives : (gs : List Given) (kept : Entries) (all earlier : Lines) (place from : ℕ) (front : List ℕ)
    (rows : List Row)
    → output_of kept all earlier ≡ Ok (output (image_from from front) rows) → from + length front ≡ place
    → place + length (bytes_given gs) ≤ 65536
    → Gives kept all (lines_onto earlier place gs) from (front ++ bytes_given gs)
given_gives [] kept all earlier place from front rows before here le =
    subst (Gives kept all earlier from) (sym (append-nil front)) (record { rows = rows; out = before })
given_gives (g ∷ gs) kept all earlier place from front rows before here le =
    let both = length-append g.bytes (bytes_given gs) in
    let image = at_is g.bytes place (omega (arith, both, le)) in
    let free : overlaps (image_from from front) (at_address (place % 65536) g.bytes) ≡ false =
    ap (overlaps (image_from from front)) image ∙ apart g.bytes place from front (omega (arith, here)) in
    let one =
    line_gives g.line.acts kept all earlier place (image_from from front) rows g.bytes
    (g.line.gives (late_value kept all earlier) (place % 65536)) free before in
    let more = rows ++ rows_of (length earlier + 1) (place % 65536) g.bytes in
    let joined : image_from from front ++ at_address (place % 65536) g.bytes
    ≡ image_from from (front ++ g.bytes) =
    ap (λ ps. image_from from front ++ ps) (image ∙ ap (λ k. image_from k g.bytes) (sym here))
    ∙ image_joined front g.bytes from in
    let next : output_of kept all ((does (action_by g.line.acts), at place) ∷ earlier)
    ≡ Ok (output (image_from from (front ++ g.bytes)) more) =
    one ∙ ap (λ ps. given_output ps more) joined in
    let there : from + length (front ++ g.bytes) ≡ place + length g.bytes =
    (let e = length-append front g.bytes in omega (arith, e, here)) in
    let within : place + length g.bytes + length (bytes_given gs) ≤ 65536 = omega (arith, both, le) in
    subst (Gives kept all (lines_onto earlier place (g ∷ gs)) from)
    (append_assoc front g.bytes (bytes_given gs))
    (given_gives gs kept all ((does (action_by g.line.acts), at place) ∷ earlier) (place + length g.bytes)
    from (front ++ g.bytes) more next there within)

-- ---- ORG

abbrev origin_row : ℕ → Laid
origin_row address = record { place = 0; is_assembled = true; value = address }

abbrev origin_lines : ℕ → Lines
origin_lines address = (origin address, origin_row address) ∷ []

origin_laid : (kept : Entries) (address : ℕ) → laid_after kept [] (origin address) ≡ Ok (origin_row address)
origin_laid kept address = refl

origin_behind : (address : ℕ) → Behind (origin_lines address) address
origin_behind address = record { place_is = refl; parts = refl; ended = refl; own = refl }

origin_gives : (kept : Entries) (all : Lines) (address : ℕ)
    → output_of kept all (origin_lines address) ≡ Ok (output [] [])
unfolding output_of
origin_gives kept all address = refl

-- ---- the law

abbrev lines_in : ℕ → List Given → Lines
lines_in address gs = lines_onto (origin_lines address) address gs

given_layout : (kept : Entries) (address : ℕ) (gs : List Given) → address + length (bytes_given gs) ≤ 65536
    → layout kept [] (origin address ∷ statements_given gs) ≡ Ok (lines_in address gs)
given_layout kept address gs le =
    layout_goes kept [] (origin address) (origin_row address) (statements_given gs) (origin_laid kept address)
    ∙ laid_given gs kept (origin_lines address) address (origin_behind address) le

meaning_is : (kept : Entries) (all : Lines) (image : List (ℕ × ℕ)) (rows : List Row)
    → output_of kept all all ≡ Ok (output image rows) → definitions all ≡ []
    → meaning_of kept all ≡ Ok (only_image kept image rows)
meaning_is kept all image rows gives none = rw (gives, none) refl

built_is : (kept : Entries) (ss : List Statement) (all : Lines) (m : Meaning) → layout kept [] ss ≡ Ok all
    → meaning_of kept all ≡ Ok m → built_of kept ss ≡ Ok m
built_is kept ss all m lays gives = rw lays gives

assembles : (kept : Entries) (text : List ℕ) (ss : List Statement) (rows : List Row) (image : List (ℕ × ℕ))
    → statements_of text ≡ Ok ss
    → built_of kept ss ≡ Ok (only_image kept image rows) → AssemblesTo kept text image
assembles kept text ss rows image says built =
    let f = reading.found kept ss (only_image kept image rows) built in
    (ss, rows, says, built, (f.0, f.1), reading.only kept ss (only_image kept image rows) built)

given_assembles : (kept : Entries) (address : ℕ) (bytes : List ℕ) (gs : List Given) → bytes_given gs ≡ bytes
    → length gs ≤ length bytes → 0 < length bytes
    → address + length bytes ≤ 65536
    → AssemblesTo kept (origin_line address ++ text_given gs) (image_from address bytes)
given_assembles kept address bytes gs all few some le =
    let within : address + length (bytes_given gs) ≤ 65536 =
    subst (λ (bs : List ℕ). address + length bs ≤ 65536) (sym all) le in
    let lines = lines_in address gs in
    let gives =
    given_gives gs kept lines (origin_lines address) address address [] []
    (origin_gives kept lines address) (omega arith) within in
    let own = behind_given gs (origin_lines address) address (origin_behind address) in
    let means : meaning_of kept lines
    ≡ Ok (only_image kept (image_from address (bytes_given gs)) gives.rows) =
    meaning_is kept lines (image_from address (bytes_given gs)) gives.rows gives.out own in
    let ss = origin address ∷ statements_given gs in
    let says = statements_are address gs (omega (arith, some, le)) (omega (arith, few, le)) in
    let built =
    built_is kept ss lines (only_image kept (image_from address (bytes_given gs)) gives.rows)
    (given_layout kept address gs within) means in
    subst (λ (bs : List ℕ). AssemblesTo kept (origin_line address ++ text_given gs) (image_from address bs))
    all
    (assembles kept (origin_line address ++ text_given gs) ss gives.rows (image_from address (bytes_given gs))
    says built)

nothing_built : (kept : Entries) → built_of kept [] ≡ Ok (only_image kept [] [])
unfolding layout output_of
nothing_built kept = refl

pub listing_assembles : (kept : Entries) (address : ℕ) (bytes : List ℕ) → AreBytes bytes
    → address + length bytes ≤ 65536 → AssemblesTo kept (listing_of address bytes) (image_from address bytes)
listing_assembles kept address [] are le =
    subst (λ (t : List ℕ). AssemblesTo kept t []) (sym (listing_none address [] refl))
    (assembles kept [] [] [] [] nothing_said (nothing_built kept))
listing_assembles kept address (b ∷ bytes) are le =
    let g = lines_given (lines_of (b ∷ bytes)) (b ∷ bytes) are (listed_lines (b ∷ bytes)) in
    let some : 0 < length (b ∷ bytes) = omega arith in
    let text : listing_of address (b ∷ bytes) ≡ origin_line address ++ text_given g.given =
    listing_some address (b ∷ bytes) some ∙ ap (λ t. origin_line address ++ t) g.text in
    subst (λ (t : List ℕ). AssemblesTo kept t (image_from address (b ∷ bytes))) (sym text)
    (given_assembles kept address (b ∷ bytes) g.given g.all g.most some le)
