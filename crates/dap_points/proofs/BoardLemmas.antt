-- The lines at which a board is to stop.
use Rattle.std.proofs.Common.{◌≡◌, ℕ, zero, List, [], ◌∷◌, ◌++◌, Bool, true, false, if◌then◌else◌}
use Rattle.std.proofs.Common.{◌≤◌, Option, Some, None, ap, ◌∙◌, ⊎_elim, arith, length, take}
use Rattle.std.proofs.lemmas.List.{length-take}
use Rattle.std.specs.List.{cons_option, Contains}
use Rattle.std.proofs.lemmas.List.Elements.{Contains-append_left, Contains-append_right}
use Rattle.std.proofs.lemmas.List.Elements.{Contains-append_cases, Contains-push_cases}
use Rattle.dap_messages.specs.declared.message.PlacedBreakpoint.{PlacedBreakpoint}
use Rattle.dap_points.specs.Boards.{is_plain, plain_line, plain_lines, wanted_lines}

at_head : (found : Option ℕ) (others : List ℕ) (line : ℕ) → found ≡ Some line
    → Contains (cons_option found others) line
at_head None others line is = absurd cc
at_head (Some l) others line is = let same : l ≡ line = cc in (zero, omega arith, same)

later : (found : Option ℕ) (others : List ℕ) (line : ℕ) → Contains others line
    → Contains (cons_option found others) line
later None others line has = has
later (Some l) others line has = Contains-append_right (l ∷ []) others line has

has_line : (ps : List PlacedBreakpoint) (p : PlacedBreakpoint) (line : ℕ) → Contains ps p
    → plain_line p ≡ Some line → Contains (plain_lines ps) line
has_line [] p line has is = absurd (omega (arith, has.1))
has_line (q ∷ ps) p line has is =
    ⊎_elim
    (λ alone. ⊎_elim
    (λ none. absurd (omega (arith, none.1)))
    (λ same. at_head (plain_line q) (plain_lines ps) line (ap plain_line same ∙ is))
    (Contains-push_cases [] q p alone))
    (λ has_later. later (plain_line q) (plain_lines ps) line (has_line ps p line has_later is))
    (Contains-append_cases (q ∷ []) ps p has)

line_of : (is_verified is_plain : Bool) (found : Option ℕ) (line : ℕ)
    → is_verified ≡ true → is_plain ≡ true → found ≡ Some line
    → (if is_plain then (if is_verified then found else None) else None) ≡ Some line
line_of true true found line verified plain is = is
line_of true false found line verified plain is = absurd cc
line_of false is_plain found line verified plain is = absurd cc

pub verified_is_wanted : (lines labels : List PlacedBreakpoint) (p : PlacedBreakpoint) (line : ℕ)
    → Contains (lines ++ labels) p → p.is_verified ≡ true → is_plain p.options ≡ true → p.line ≡ Some line
    → Contains (wanted_lines lines labels) line
verified_is_wanted lines labels p line has verified plain is =
    let here = line_of p.is_verified (is_plain p.options) p.line line verified plain is in
    ⊎_elim
    (λ on_line. Contains-append_left (plain_lines lines) (plain_lines labels) line
    (has_line lines p line on_line here))
    (λ at_label. Contains-append_right (plain_lines lines) (plain_lines labels) line
    (has_line labels p line at_label here))
    (Contains-append_cases lines labels p has)

-- it takes no more
pub few : (lines : List ℕ) → length (take 256 lines) ≤ 256
few lines = let e = length-take 256 lines in omega (arith, e)
