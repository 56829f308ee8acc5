-- The lines of an image, cell by cell.
use Rattle.std.proofs.Common.{◌≡◌, ℕ, zero, suc, ◌+◌, ◌-◌, ◌<◌, ◌≤◌, List, [], ◌∷◌, ◌++◌, length, take, drop}
use Rattle.std.proofs.Common.{replicate, true, false, Option, Some, None, is_some, get_or, slice_set, codes}
use Rattle.std.proofs.Common.{min, refl, ap, sym, ◌∙◌, arith, append_assoc, append-nil, drop-drop}
use Rattle.std.proofs.Math.ListN.{length-set, length-replicate}
use Rattle.std.proofs.Math.Seq.{take-nil}
use Rattle.std.proofs.lemmas.List.{take_min, drop_all}
use Rattle.cli_engines.specs.Image.{fill, cells_of, leading, spaced_bytes, image_line, lines_from}
use Rattle.base_text.specs.Hexadecimal.{upper_word}

pub length-filled : (image : List (ℕ × ℕ)) (cells : List (Option ℕ))
    → length (fill image cells) ≡ length cells
length-filled [] cells = refl
length-filled (p ∷ ps) cells =
    length-filled ps (slice_set cells p.0 (Some p.1)) ∙ length-set cells p.0 (Some p.1)

pub length-cells_of : (image : List (ℕ × ℕ)) → length (cells_of image) ≡ 65536
unfolding cells_of
length-cells_of image =
    length-filled image (replicate 65536 None) ∙ length-replicate {A = Option ℕ} 65536 None

-- cells that are made of none have no byte
pub cells_made : (image : List (ℕ × ℕ)) (none made : List (Option ℕ)) (n : ℕ) → none ≡ [] → n ≡ 0
    → made ≡ take 65536 none ++ replicate (65536 - n) None
    → (length made ≡ 65536) × (fill image made ≡ cells_of image)
unfolding cells_of
cells_made image none made n empty zero_is made_is =
    let all : made ≡ replicate 65536 None =
    made_is ∙ (rw (empty, zero_is) (ap (λ (xs : List (Option ℕ)). xs ++ replicate 65536 None)
    (take-nil 65536))) in
    (ap length all ∙ length-replicate {A = Option ℕ} 65536 None, ap (fill image) all)

-- a cell that stands on a line already
pub lines_printed : (address printed : ℕ) (cells : List (Option ℕ)) → 0 < printed → 0 < length cells
    → lines_from (address + 1) (printed - 1) (drop 1 cells) ≡ lines_from address printed cells
unfolding lines_from
lines_printed address zero cells p l = absurd (omega arith)
lines_printed address (suc printed) [] p l = absurd (omega arith)
lines_printed address (suc printed) (cell ∷ cells) p l =
    let one : suc printed - 1 ≡ printed = omega arith in
    ap (λ (n : ℕ). lines_from (address + 1) n cells) one

-- a cell without a byte
pub lines_gap : (address printed : ℕ) (cells : List (Option ℕ)) → printed ≤ 0 → 0 < length cells
    → is_some (get_or cells 0 None) ≡ false
    → lines_from (address + 1) 0 (drop 1 cells) ≡ lines_from address printed cells
unfolding lines_from
lines_gap address (suc printed) cells p l n = absurd (omega arith)
lines_gap address zero [] p l n = absurd (omega arith)
lines_gap address zero (None ∷ cells) p l n = refl
lines_gap address zero (Some byte ∷ cells) p l n = cc

-- a cell with whose byte a line begins
lines_begun : (address printed : ℕ) (cells : List (Option ℕ)) → printed ≤ 0 → 0 < length cells
    → is_some (get_or cells 0 None) ≡ true
    → lines_from address printed cells ≡ image_line address (leading (take 16 cells))
    ++ lines_from (address + 1) (length (leading (take 16 cells)) - 1) (drop 1 cells)
unfolding lines_from
lines_begun address (suc printed) cells p l n = absurd (omega arith)
lines_begun address zero [] p l n = absurd (omega arith)
lines_begun address zero (None ∷ cells) p l n = cc
lines_begun address zero (Some byte ∷ cells) p l n = refl

-- the line, added piece by piece
pub line_added : (text : List ℕ) (address printed : ℕ) (cells front : List (Option ℕ)) → printed ≤ 0
    → 0 < length cells → is_some (get_or cells 0 None) ≡ true
    → front ≡ take (min (length cells) 16) cells
    → text ++ upper_word address ++ codes ":" ++ spaced_bytes (leading front) ++ 10 ∷ []
    ++ lines_from (address + 1) (length (leading front) - 1) (drop 1 cells)
    ≡ text ++ lines_from address printed cells
line_added text address printed cells front p l some front_is =
    let whole : take 16 cells ≡ front =
    sym (front_is ∙ ap (λ (n : ℕ). take n cells) (min_swapped (length cells)) ∙ take_min 16 cells) in
    rw (lines_begun address printed cells p l some, whole)
    (joined text (upper_word address) (codes ":") (spaced_bytes (leading front)) (10 ∷ [])
    (lines_from (address + 1) (length (leading front) - 1) (drop 1 cells)))
  where
    joined : (t a b c d e : List ℕ) → t ++ a ++ b ++ c ++ d ++ e ≡ t ++ (a ++ b ++ c ++ d ++ e)
    joined t a b c d e = simp append_assoc

    min_swapped : (n : ℕ) → min n 16 ≡ min 16 n
    min_swapped n = omega arith

-- behind the last cell there are no lines
pub lines_done : (text whole : List ℕ) (address printed : ℕ) (cells : List (Option ℕ))
    → length cells ≤ address
    → text ++ lines_from address printed (drop address cells) ≡ whole → text ≡ whole
unfolding lines_from
lines_done text whole address printed cells past all =
    let none : drop address cells ≡ [] = drop_all address cells past in
    sym (append-nil text) ∙ (rw none at all)

-- one cell further
pub lines_next : (text text' whole : List ℕ) (rest cells : List (Option ℕ)) (address printed printed' : ℕ)
    → rest ≡ drop address cells
    → text' ++ lines_from (address + 1) printed' (drop 1 rest) ≡ text ++ lines_from address printed rest
    → text ++ lines_from address printed (drop address cells) ≡ whole
    → text' ++ lines_from (address + 1) printed' (drop (address + 1) cells) ≡ whole
lines_next text text' whole rest cells address printed printed' rest_is step all =
    let one : drop 1 (drop address cells) ≡ drop (address + 1) cells = drop-drop 1 address cells in
    ap (λ (cs : List (Option ℕ)). text' ++ lines_from (address + 1) printed' cs)
    (sym one ∙ ap (drop 1) (sym rest_is))
    ∙ step ∙ ap (λ (cs : List (Option ℕ)). text ++ lines_from address printed cs) rest_is ∙ all
