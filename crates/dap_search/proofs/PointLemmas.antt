-- Breakpoints with conditions: what they ask of a board is its machine and its symbols.
use Rattle.std.proofs.Common.{◌≡◌, List, [], ◌∷◌, Bool, true, false, ◌||◌, ◌&&◌, is_none, refl}
use Rattle.std.specs.List.{list_any}
use Rattle.lab_core.specs.Board.{Board}
use Rattle.dap_slice.specs.declared.conditions.ConditionalBreakpoint.{ConditionalBreakpoint}
use Rattle.dap_slice.specs.Conditions.{is_there, is_any_at, stops_back}
use Rattle.dap_slice.specs.Hits.{is_wanted}
use Rattle.dap_slice.proofs.ValueLemmas.{SameMachine, same_condition}

same_stop : (b b' : Board) (p : ConditionalBreakpoint) → SameMachine b b' → stops_back b p ≡ stops_back b' p
same_stop b b' p same = rw (same_condition b b' p.condition same, same.machine) refl

pub same_stops : (b b' : Board) (points : List ConditionalBreakpoint) → SameMachine b b'
    → list_any (stops_back b) points ≡ list_any (stops_back b') points
same_stops b b' [] same = refl
same_stops b b' (p ∷ ps) same = rw (same_stop b b' p same, same_stops b b' ps same) refl

pub both_false : (x y : Bool) → (x || y) ≡ false → (x ≡ false) × (y ≡ false)
both_false false y is = (refl, is)
both_false true y is = absurd cc

not_there : (b : Board) (p : ConditionalBreakpoint) → is_there b.machine.regs.pc p ≡ false
    → stops_back b p ≡ false
not_there b p isn't = rw isn't (none_of (is_none p.hits) (is_none p.log) (is_wanted p.hits))
  where
    none_of : (x y z : Bool) → (x && (y && (z && false))) ≡ false
    none_of false y z = refl
    none_of true false z = refl
    none_of true true false = refl
    none_of true true true = refl

-- where no breakpoint is, none stops the run
pub none_stops : (b : Board) (points : List ConditionalBreakpoint)
    → is_any_at points b.machine.regs.pc ≡ false → list_any (stops_back b) points ≡ false
none_stops b [] none = refl
none_stops b (p ∷ ps) none =
    let apart = both_false _ _ none in
    rw (not_there b p apart.0, none_stops b ps apart.1) refl
