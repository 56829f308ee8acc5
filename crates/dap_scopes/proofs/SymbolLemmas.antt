-- Symbols by parts of their names, and lines one after another.
use Rattle.std.proofs.Common.{◌≡◌, ◌∙◌, ◌<◌, ◌≤◌, ◌+◌, ℕ, List, [], ◌∷◌, ◌++◌, length, drop, true, refl, sym}
use Rattle.std.proofs.Common.{ap, arith, append_assoc}
use Rattle.std.specs.Prelude.{◌||◌, ◌≢◌}
use Rattle.std.specs.List.{All, filter}
use Rattle.std.proofs.lemmas.List.{drop_more, length-take}
use Rattle.std.proofs.lemmas.List.Elements.{All-take, filter_passes}
use Rattle.base_text.specs.Bytes.{Text}
use Rattle.asm_build.specs.Reading.{Entries}
use Rattle.dap_scopes.specs.Completions.{begins_with}
use Rattle.dap_scopes.specs.Symbols.{entries_with, has_part, joined_lines, line_feed}

-- ---- the part

-- the part is at the start of what is left of a name, or further on
pub part_further : (name part : Text) (i : ℕ) → i < length name
    → has_part (drop i name) part ≡ (begins_with (drop i name) part || has_part (drop (i + 1) name) part)
part_further name part i inside = rw (drop_more name i 0 inside) refl

-- ---- the first 256

pub all_have_part : (symbols : Entries) (part : Text)
    → All (λ e. has_part e.0 part ≡ true) (entries_with symbols part)
all_have_part symbols part =
    All-take (λ e. has_part e.0 part ≡ true) 256 (filter (λ e. has_part e.0 part) symbols)
    (filter_passes (λ e. has_part e.0 part) symbols)

pub few_entries : (symbols : Entries) (part : Text) → length (entries_with symbols part) ≤ 256
few_entries symbols part = omega (arith, length-take 256 (filter (λ e. has_part e.0 part) symbols))

-- ---- lines

line_after : (first : Text) (lines : List Text) (line : Text)
    → joined_lines (first ∷ (lines ++ line ∷ [])) ≡ joined_lines (first ∷ lines) ++ line_feed ∷ line
line_after first [] line = refl
line_after first (l ∷ ls) line =
    ap (λ (more : Text). first ++ line_feed ∷ more) (line_after l ls line)
    ∙ sym (append_assoc first (line_feed ∷ joined_lines (l ∷ ls)) (line_feed ∷ line))

-- a line alone
pub first_line : (lines : List Text) (text line : Text) → length lines ≡ 0 → text ≡ joined_lines lines
    → text ++ line ≡ joined_lines (lines ++ line ∷ [])
first_line [] text line none is = rw is refl
first_line (l ∷ ls) text line none is = absurd (omega (arith, none))

-- and one below others
pub next_line : (lines : List Text) (text line : Text) → length lines ≢ 0 → text ≡ joined_lines lines
    → (text ++ line_feed ∷ []) ++ line ≡ joined_lines (lines ++ line ∷ [])
next_line [] text line some is = absurd (some refl)
next_line (l ∷ ls) text line some is =
    append_assoc text (line_feed ∷ []) line
    ∙ ap (λ (t : Text). t ++ line_feed ∷ line) is
    ∙ sym (line_after l ls line)
