use Rattle.std.proofs.Common.{◌≡◌, ◌∙◌, ◌∷◌, ◌++◌, ◌+◌, ◌≤◌, [], List, ℕ, true, false, ap, sym, map, take}
use Rattle.std.proofs.Common.{length, arith}
use Rattle.std.proofs.lemmas.List.{map-append, length-append, length-map}
use Rattle.base_text.specs.Bytes.{Text}
use Rattle.asm_build.specs.declared.symbols.Symbol.{Symbol}
use Rattle.dap_scopes.specs.Symbols.{entries_with, has_part, joined_lines, lines_with, symbol_line}
use Rattle.dap_scopes.proofs.ListLemmas.{first_all, first_fails, first_passes, one_taken}
use Rattle.dap_scopes.proofs.symbols.text_with.Goals as goal

pub loop-index-preserved-then-not-has_part : goal.loop-index-preserved-then-not-has_part
loop-index-preserved-then-not-has_part c =
    let symbols = c.args.symbols.now in
    let part = c.args.part.now in
    let i = c.loop-index.index in
    let e : List ℕ × Symbol = (c.symbol_at.result.0.now, c.symbol_at.result.1) in
    let other : has_part e.0 part ≡ false =
    ap (λ (name : Text). has_part name part) (sym c.as_bytes.ensures.value) ∙ sym c.if-not-has_part.ensures in
    let same : entries_with (take (i + 1) symbols) part ≡ entries_with (take i symbols) part =
    ap (λ es. entries_with es part) (one_taken symbols i e c.symbol_at.ensures)
    ∙ first_fails (λ e. has_part e.0 part) (take i symbols) e other in
    rw same c.loop-index.invariant

pub returns-then-count-eq-MOST : goal.returns-then-count-eq-MOST
returns-then-count-eq-MOST c =
    let symbols = c.args.symbols.now in
    let part = c.args.part.now in
    let i = c.loop-index.index in
    let many = c.loop-index.invariant.1 in
    let full : 256 ≤ length (entries_with (take i symbols) part) = omega (arith, many) in
    c.from.ensures
    ∙ c.loop-index.invariant.0
    ∙ ap (λ es. joined_lines (map symbol_line es)) (first_all (λ e. has_part e.0 part) symbols i full)

pub loop-index-preserved : goal.loop-index-preserved
loop-index-preserved c =
    let symbols = c.args.symbols.now in
    let part = c.args.part.now in
    let i = c.loop-index.index in
    let e : List ℕ × Symbol = (c.symbol_at.result.0.now, c.symbol_at.result.1) in
    let before = entries_with (take i symbols) part in
    let many = c.loop-index.invariant.1 in
    let most = c.loop-index.invariant.2 in
    let has : has_part e.0 part ≡ true =
    ap (λ (name : Text). has_part name part) (sym c.as_bytes.ensures.value) ∙ sym c.if-not-has_part.ensures in
    let one : entries_with (take (i + 1) symbols) part ≡ before ++ e ∷ [] =
    ap (λ es. entries_with es part) (one_taken symbols i e c.symbol_at.ensures)
    ∙ first_passes (λ e. has_part e.0 part) (take i symbols) e has (omega (arith, many, most)) in
    let lines : map symbol_line before ++ symbol_line e ∷ [] ≡ lines_with (take (i + 1) symbols) part =
    sym (ap (map symbol_line) one ∙ map-append symbol_line before (e ∷ [])) in (
      c.in_ok-push_line.ensures (map symbol_line before) (many ∙ sym (length-map before symbol_line))
          c.loop-index.invariant.0
          ∙ ap joined_lines lines,
      rw one (omega (arith, many, length-append before (e ∷ []))),
      omega (arith, most),
    )
