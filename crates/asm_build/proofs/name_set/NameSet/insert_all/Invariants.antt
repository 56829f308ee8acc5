use Rattle.std.proofs.Common.{ℕ, List, ◌∷◌, [], ◌||◌, drop}
use Rattle.std.specs.List.{flat_map}
use Rattle.asm_build.specs.Layout.{is_among}
use Rattle.asm_build.proofs.UseLemmas.{IsRest}
use Rattle.asm_build.proofs.name_set.NameSet.insert_all.Given as goal

abbrev pub invariant-loop-name : goal.invariant-loop-name
invariant-loop-name l = (x : List ℕ) →
    IsRest (λ n. n.now ∷ []) (drop l.name-index l.name-items) l.self x
    (is_among x (flat_map (λ n. n.now ∷ []) l.name-items) || is_among x l.initial.self)
