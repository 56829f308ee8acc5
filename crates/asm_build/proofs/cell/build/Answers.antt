use Rattle.std.proofs.Common.{List, subst}
use Rattle.asm_syntax.specs.declared.statement.Statement.{Statement}
use Rattle.asm_syntax.specs.Outcome.{Gives}
use Rattle.asm_build.specs.Meaning.{built_of, meaning_in}
use Rattle.asm_build.proofs.ReadingLemmas.{found_in, only_in}
use Rattle.asm_build.proofs.cell.build.Goals as goal

pub returns-clause-found : goal.returns-clause-found
returns-clause-found c =
    found_in c.args.kept.now c.args.statements.now c.both_rounds.result
    (subst (λ (ss : List Statement). Gives meaning_in c.both_rounds.result (built_of c.args.kept.now ss))
    c.as_slice.ensures.items c.both_rounds.ensures)

pub returns-clause-only : goal.returns-clause-only
returns-clause-only c =
    only_in c.args.kept.now c.args.statements.now c.both_rounds.result
    (subst (λ (ss : List Statement). Gives meaning_in c.both_rounds.result (built_of c.args.kept.now ss))
    c.as_slice.ensures.items c.both_rounds.ensures)
