use Rattle.std.proofs.Common.{◌∙◌, ◌+◌, drop, ap, sym, arith}
use Rattle.std.specs.Prelude.{fold}
use Rattle.asm_build.proofs.NameLemmas.{defines, fold_goes, fold_ends, some_there}
use Rattle.asm_build.proofs.symbols.Symbols.define_all.Goals as goal
use Rattle.asm_build.proofs.symbols.Symbols.define_all.Goals.{in-Some+in_ok-define, in_default}

pub loop-index-preserved : goal.loop-index-preserved
loop-index-preserved c =
    let others = c.args.others.now in
    let i = c.loop-index.index in
    elim c.match-at.branch [
      | in-Some+in_ok-define w ↦
          ap (λ es. fold defines es (drop (i + 1) others)) (w.self-is ∙ w.in_ok-define.ensures.ok)
          ∙ fold_goes others c.loop-index.self _ i (w.in-Some.name.now, w.in-Some.symbol)
          (sym w.in-Some.ensures) c.loop-index.invariant
      | in_default w ↦ absurd (some_there others i (omega (arith, c.len-index-end.ensures))
          w.in_default.ensures)
    ]

pub returns : goal.returns
returns c =
    fold_ends c.args.others.now c.loop-index.self _ c.loop-index.index
    (omega (arith, c.len-index-end.ensures)) c.loop-index.invariant
