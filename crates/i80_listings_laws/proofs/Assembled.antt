-- What the listing of a memory with gaps is assembled to.
use Rattle.std.proofs.Common.{◌≡◌, ℕ, ◌+◌, ◌≤◌, ◌⊎◌, inl, inr, List, [], ◌++◌, length, Option, Some, None, Ok}
use Rattle.std.proofs.Common.{refl, sym, ap, subst, ◌∙◌, arith}
use Rattle.std.specs.Str.Lines.{lines}
use Rattle.std.proofs.lemmas.List.{length-append}
use Rattle.asm_syntax.specs.declared.statement.Statement.{Statement}
use Rattle.asm_text.specs.Statements.{statements_of}
use Rattle.asm_build.specs.declared.built.Row.{Row}
use Rattle.asm_build.specs.Reading.{Entries, Lines}
use Rattle.asm_build.specs.Layout.{layout}
use Rattle.asm_build.specs.Meaning.{Output, Meaning, output_of, definitions, meaning_of, built_of}
use Rattle.asm_build.proofs.ReadingLemmas as reading
use Rattle.i80_listings_laws.specs.Runs.{present, runs_of}
use Rattle.i80_listings_laws.specs.Text.{start_text, listings_of}
use Rattle.i80_listings_laws.specs.Law.{HaveBytes, IsStart, started_image, AssemblesWith}
use Rattle.i80_listings_laws.proofs.Runs.{runs_good, runs_bytes, runs_image}
use Rattle.i80_listings_laws.proofs.Pieces.{Piece, text_by, texts_by, texts_length, end_texts, statements_by}
use Rattle.i80_listings_laws.proofs.Pieces.{end_statements, all_lines, statements_are}
use Rattle.i80_listings_laws.proofs.Placed.{Fit, image_by, lines_with, all_laid, all_own, all_given}
use Rattle.i80_listings_laws.proofs.RunPieces.{AreGivenRuns, runs_given, room}

-- ---- pieces

abbrev output : List (ℕ × ℕ) → List Row → Option ℕ → Output
output image rows start = record { image = image; rows = rows; start = start }

meaning_is : (kept : Entries) (all : Lines) (image : List (ℕ × ℕ)) (start : Option ℕ) (rows : List Row)
    → output_of kept all all ≡ Ok (output image rows start) → definitions all ≡ []
    → meaning_of kept all ≡ Ok (started_image kept image start rows)
meaning_is kept all image start rows gives none = rw (gives, none) refl

built_is : (kept : Entries) (ss : List Statement) (all : Lines) (m : Meaning) → layout kept [] ss ≡ Ok all
    → meaning_of kept all ≡ Ok m → built_of kept ss ≡ Ok m
built_is kept ss all m lays gives = rw lays gives

assembles : (kept : Entries) (text : List ℕ) (ss : List Statement) (rows : List Row) (image : List (ℕ × ℕ))
    (start : Option ℕ)
    → statements_of text ≡ Ok ss → built_of kept ss ≡ Ok (started_image kept image start rows)
    → AssemblesWith kept text image start
assembles kept text ss rows image start says built =
    let f = reading.found kept ss (started_image kept image start rows) built in
    (ss, rows, says, built, (f.0, f.1), reading.only kept ss (started_image kept image start rows) built)

pieces_assemble : (kept : Entries) (ps : List Piece) (start : Option ℕ) → IsStart start → Fit 0 ps
    → length (lines (text_by ps ++ start_text start)) ≤ 65537
    → AssemblesWith kept (text_by ps ++ start_text start) (image_by 0 ps) start
pieces_assemble kept ps start lt fit few =
    let all = lines_with ps start in
    let g = all_given ps start kept all fit in
    let means = meaning_is kept all (image_by 0 ps) start g.rows g.out (all_own ps start) in
    let ss = statements_by ps ++ end_statements start in
    let built =
    built_is kept ss all (started_image kept (image_by 0 ps) start g.rows) (all_laid ps start kept fit)
    means in
    assembles kept (text_by ps ++ start_text start) ss g.rows (image_by 0 ps) start
    (statements_are ps start lt few) built

-- ---- cells

given : (cells : List (Option ℕ)) → HaveBytes cells → length cells ≤ 65536 → AreGivenRuns 0 (runs_of cells)
given cells are le =
    runs_given (runs_of cells) 0 (omega arith) (runs_good cells 0 65536 (omega (arith, le)))
    (runs_bytes cells 0 are)

text_is : (cells : List (Option ℕ)) (start : Option ℕ) (g : AreGivenRuns 0 (runs_of cells))
    → listings_of cells start ≡ text_by g.pieces ++ start_text start
unfolding listings_of
text_is cells start g = ap (λ t. t ++ start_text start) g.text

pub listings_assemble : (kept : Entries) (cells : List (Option ℕ)) (start : Option ℕ) → HaveBytes cells
    → IsStart start → length cells ≤ 65536 → length (lines (listings_of cells start)) ≤ 65537
    → AssemblesWith kept (listings_of cells start) (present cells) start
listings_assemble kept cells start are lt le few =
    let g = given cells are le in
    let text = text_is cells start g in
    let few' = subst (λ (t : List ℕ). length (lines t) ≤ 65537) text few in
    let image : image_by 0 g.pieces ≡ present cells = g.image ∙ runs_image cells 0 in
    subst (λ (t : List ℕ). AssemblesWith kept t (present cells) start) (sym text)
    (subst (λ (ps : List (ℕ × ℕ)). AssemblesWith kept (text_by g.pieces ++ start_text start) ps start) image
    (pieces_assemble kept g.pieces start lt g.fit few'))

-- ---- how many lines

end_count : (start : Option ℕ) → length (end_texts start) ≤ 1
end_count None = omega arith
end_count (Some start) = omega arith

no_end : (start : Option ℕ) → start ≡ None → length (end_texts start) ≡ 0
no_end start e = ap (λ (s : Option ℕ). length (end_texts s)) e

count_by : (start : Option ℕ) (n : ℕ) → n ≤ 65537 → (start ≡ None) ⊎ (n ≤ 65536)
    → n + length (end_texts start) ≤ 65537
count_by start n le (inl none) = let e = no_end start none in omega (arith, le, e)
count_by start n le (inr less) = let e = end_count start in omega (arith, less, e)

pub lines_are_few : (cells : List (Option ℕ)) (start : Option ℕ) → HaveBytes cells → IsStart start
    → length cells ≤ 65536 → (start ≡ None) ⊎ (length (present cells) + length (runs_of cells) ≤ 65536)
    → length (lines (listings_of cells start)) ≤ 65537
lines_are_few cells start are lt le either =
    let g = given cells are le in
    let n = length (present cells) + length (runs_of cells) in
    let image = runs_image cells 0 in
    let few : length g.pieces ≤ n =
    subst (λ (ps : List (ℕ × ℕ)). length g.pieces ≤ length ps + length (runs_of cells)) image g.few in
    let most = room (runs_of cells) 0 65536 (omega arith) (runs_good cells 0 65536 (omega (arith, le))) in
    let all : n ≤ 65537 =
    subst (λ (ps : List (ℕ × ℕ)). length ps + length (runs_of cells) ≤ 65537) image (omega (arith, most)) in
    let count = count_by start n all either in
    let ls = ap (λ t. lines t) (text_is cells start g) ∙ all_lines g.pieces start lt in
    let both = length-append (texts_by g.pieces) (end_texts start) in
    let long = texts_length g.pieces in
    let there : length (texts_by g.pieces ++ end_texts start) ≤ 65537 =
    omega (arith, both, long, few, count) in
    subst (λ (l : List (List ℕ)). length l ≤ 65537) (sym ls) there
