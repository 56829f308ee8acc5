use Rattle.std.proofs.Common.{ℕ, List, ◌||◌, drop}
use Rattle.std.specs.List.{flat_map}
use Rattle.asm_build.specs.Layout.{is_among}
use Rattle.asm_build.proofs.UseLemmas.{IsRest}
use Rattle.asm_build.proofs.layout.note_all.Given as goal

abbrev pub invariant-loop-operand : goal.invariant-loop-operand
invariant-loop-operand g l = (x : List ℕ) →
    IsRest g.T.Naming.names (drop l.operand-index l.operands) l.used x
    (is_among x (flat_map g.T.Naming.names l.operands) || is_among x l.initial.used)
