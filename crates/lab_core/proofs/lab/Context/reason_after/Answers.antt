use Rattle.std.proofs.Common.{◌≡◌, ◌∙◌, Some, None, false, sym, refl}
use Rattle.lab_core.specs.Slices.{end_by_halt}
use Rattle.lab_core.proofs.lab.Context.reason_after.Goals as goal

pub returns-in-Some : goal.returns-in-Some
returns-in-Some c = λ lab b traffic s.
    let some : end_by_halt b ≡ Some c.in-Some.outcome = sym (c.halt_end.ensures lab b traffic s)
    ∙ c.in-Some.is in
    rw some refl

pub returns-then-is_watched : goal.returns-then-is_watched
returns-then-is_watched c = λ lab b traffic s.
    let none : end_by_halt b ≡ None = sym (c.halt_end.ensures lab b traffic s) ∙ c.in-None.is in
    rw none (c.debug_stop.ensures lab b traffic s)

pub returns-else-is_watched : goal.returns-else-is_watched
returns-else-is_watched c = λ lab b traffic s.
    let none : end_by_halt b ≡ None = sym (c.halt_end.ensures lab b traffic s) ∙ c.in-None.is in
    let off = rw c.if-is_watched.false at c.requires in
    let attached : b.is_attached ≡ false = sym s.attached ∙ off.0 in
    let request : b.request ≡ None = sym s.request ∙ off.1 in
    rw (none, attached, request) refl
