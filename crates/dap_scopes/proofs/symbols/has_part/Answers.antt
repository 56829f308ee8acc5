use Rattle.std.proofs.Common.{◌≡◌, ◌∙◌, true, false, drop, sym, ap, refl, arith}
use Rattle.dap_scopes.specs.Completions.{begins_with}
use Rattle.dap_scopes.proofs.SymbolLemmas.{part_further}
use Rattle.dap_scopes.proofs.symbols.has_part.Goals as goal

pub returns-then-begins_with : goal.returns-then-begins_with
returns-then-begins_with c =
    let name = c.args.name.now in
    let part = c.args.part.now in
    let i = c.loop-start.start in
    let begins : begins_with (drop i name) part ≡ true =
    ap (λ end. begins_with end part) (sym c.split_at.ensures.back)
    ∙ sym c.begins_with.ensures
    ∙ c.if-begins_with.true in
    sym (sym c.loop-start.invariant ∙ part_further name part i (omega arith) ∙ rw begins refl)

pub loop-start-preserved : goal.loop-start-preserved
loop-start-preserved c =
    let name = c.args.name.now in
    let part = c.args.part.now in
    let i = c.loop-start.start in
    let other : begins_with (drop i name) part ≡ false =
    ap (λ end. begins_with end part) (sym c.split_at.ensures.back)
    ∙ sym c.begins_with.ensures
    ∙ c.if-begins_with.false in
    sym (part_further name part i (omega arith) ∙ rw other refl) ∙ c.loop-start.invariant
