use Rattle.std.proofs.Common.{◌≡◌, ◌∙◌, ◌+◌, Some, true, false, cond, refl, get_or, length, drop, ap, sym}
use Rattle.std.proofs.Common.{arith}
use Rattle.std.specs.Str.{bytes_eq}
use Rattle.lab_image.specs.Sources.{source_from, source_at}
use Rattle.lab_image.proofs.SourceLemmas.{source_from-next, source_from-end}
use Rattle.lab_image.proofs.sources.Sources.find.Goals as goal
use Rattle.lab_image.proofs.sources.Sources.find.Goals.{After-eq}

-- the look-up, from the source that is looked at
looks_at : (c : After-eq) → source_at c.args.self.now c.args.path.now
    ≡ cond (bytes_eq c.source-item.result.path c.args.path.now)
    (Some (c.loop-number.number, c.source-item.result.text))
    (source_from (c.loop-number.number + 1) (drop (c.loop-number.number + 1) c.args.self.now) c.args.path.now)
looks_at c =
    let xs = c.args.self.now in
    let n = c.loop-number.number in
    let s = c.source-item.result in
    let same = c.deref-source-items.ensures.value ∙ c.self.view_is in
    let item : s ≡ get_or xs n s = c.source-item.is ∙ ap (λ l. get_or l n s) same in
    c.loop-number.invariant ∙ source_from-next xs n s c.args.path.now (omega (arith, ap length same)) item

pub returns-then-eq-clause-found : goal.returns-then-eq-clause-found
returns-then-eq-clause-found c =
    let found : bytes_eq c.source-item.result.path c.args.path.now ≡ true =
    rw (← c.as_str.ensures) (sym c.eq.ensures ∙ c.if-eq.true) in
    sym (looks_at (goal.at.returns-then-eq-clause-found c).After-eq
    ∙ rw found (ap (λ t. Some (c.loop-number.number, t)) (sym c.as_str-then-eq.ensures)))

pub loop-number-preserved : goal.loop-number-preserved
loop-number-preserved c =
    let other : bytes_eq c.source-item.result.path c.args.path.now ≡ false =
    rw (← c.as_str.ensures) (sym c.eq.ensures ∙ c.if-eq.false) in
    looks_at (goal.at.loop-number-preserved c).After-eq ∙ rw other refl

pub returns-clause-found : goal.returns-clause-found
returns-clause-found c =
    let same = c.deref-source-items.ensures.value ∙ c.self.view_is in
    sym (c.loop-number.invariant ∙ source_from-end c.args.self.now c.loop-number.number c.args.path.now
    (omega (arith, ap length same)))
