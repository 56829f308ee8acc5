use Rattle.std.proofs.Common.{◌≡◌, ◌∙◌, true, false, refl, sym}
use Rattle.lab_core.specs.Stops.{meets_breakpoint, completes}
use Rattle.lab_core.proofs.lab.Context.debug_stop.Goals as goal

pub returns-then-is_at_breakpoint : goal.returns-then-is_at_breakpoint
returns-then-is_at_breakpoint c = λ lab b traffic s.
    let met : meets_breakpoint b ≡ true =
    sym (c.is_at_breakpoint.ensures lab b traffic s) ∙ c.if-is_at_breakpoint.true in
    rw met refl

pub returns-then-is_complete : goal.returns-then-is_complete
returns-then-is_complete c = λ lab b traffic s.
    let none : meets_breakpoint b ≡ false =
    sym (c.is_at_breakpoint.ensures lab b traffic s) ∙ c.if-is_at_breakpoint.false in
    let done : completes b.request b ≡ true =
    sym (c.is_complete.ensures lab b traffic s) ∙ c.if-is_complete.true in
    rw (none, done) refl

pub returns-else-is_complete : goal.returns-else-is_complete
returns-else-is_complete c = λ lab b traffic s.
    let none : meets_breakpoint b ≡ false =
    sym (c.is_at_breakpoint.ensures lab b traffic s) ∙ c.if-is_at_breakpoint.false in
    let not_done : completes b.request b ≡ false =
    sym (c.is_complete.ensures lab b traffic s) ∙ c.if-is_complete.false in
    rw (none, not_done) refl
