-- On each line that has code a statement begins.
use Rattle.std.proofs.Common.{◌≡◌, ◌<◌, ℕ, zero, suc, List, [], ◌∷◌, Option, Some, None}
use Rattle.std.proofs.Common.{◌⊎◌, inl, inr, ⊎_elim}
use Rattle.std.proofs.Common.{ap, arith}
use Rattle.std.specs.List.{Contains}
use Rattle.std.specs.Ordering.{nat_cmp, match_ordering}
use Rattle.std.specs.declared.cmp.Ordering.{Ordering}
use Rattle.std.specs.declared.cmp.Ordering.TheVariants.{Less, Equal, Greater}
use Rattle.std.specs.BTreeSet.{insert_key}
use Rattle.std.proofs.lemmas.List.Elements.{Contains-append_left, Contains-append_right}
use Rattle.std.proofs.lemmas.List.Elements.{Contains-append_cases, Contains-push_cases}
use Rattle.lab_core.specs.Board.{Board}
use Rattle.dap_disassembly.specs.CodeLines.{line_at, with_line, lines_among, code_lines}

only : (k x : ℕ) → Contains (k ∷ []) x → k ≡ x
only k x has = ⊎_elim (λ none. absurd (omega (arith, none.1))) (λ same. same) (Contains-push_cases [] k x has)

by_order : (o : Ordering) (y : ℕ) (ys : List ℕ) (k x : ℕ)
    → (Contains (insert_key nat_cmp ys k) x → Contains ys x ⊎ (k ≡ x))
    → Contains (match_ordering o (k ∷ y ∷ ys) (y ∷ ys) (y ∷ insert_key nat_cmp ys k)) x
    → Contains (y ∷ ys) x ⊎ (k ≡ x)
by_order Less y ys k x later has =
    ⊎_elim (λ first. inr (only k x first)) (λ other. inl other)
    (Contains-append_cases (k ∷ []) (y ∷ ys) x has)
by_order Equal y ys k x later has = inl has
by_order Greater y ys k x later has =
    ⊎_elim
    (λ first. inl (Contains-append_left (y ∷ []) ys x first))
    (λ other. ⊎_elim (λ old. inl (Contains-append_right (y ∷ []) ys x old)) (λ same. inr same) (later other))
    (Contains-append_cases (y ∷ []) (insert_key nat_cmp ys k) x has)

in_inserted : (ys : List ℕ) (k x : ℕ) → Contains (insert_key nat_cmp ys k) x → Contains ys x ⊎ (k ≡ x)
in_inserted [] k x has = inr (only k x has)
in_inserted (y ∷ ys) k x has = by_order (nat_cmp k y) y ys k x (in_inserted ys k x) has

in_lines : (line : Option ℕ) (lines : List ℕ) (x : ℕ) → Contains (with_line line lines) x
    → Contains lines x ⊎ (line ≡ Some x)
in_lines None lines x has = inl has
in_lines (Some k) lines x has =
    ⊎_elim (λ old. inl old) (λ same. inr (ap Some same)) (in_inserted lines k x has)

begins_among : (n : ℕ) (b : Board) (line : ℕ) → Contains (lines_among n b) line
    → (address : ℕ) × (address < n) × (line_at b address ≡ Some line)
unfolding lines_among
begins_among zero b line has = absurd (omega (arith, has.1))
begins_among (suc n) b line has =
    ⊎_elim
    (λ old. let found = begins_among n b line old in (found.0, omega (arith, found.1), found.2))
    (λ is. (n, omega arith, is))
    (in_lines (line_at b n) (lines_among n b) line has)

pub statement_begins : (b : Board) (line : ℕ) → Contains (code_lines b) line
    → (address : ℕ) × (address < 65536) × (line_at b address ≡ Some line)
unfolding code_lines
statement_begins b line has = begins_among 65536 b line has
