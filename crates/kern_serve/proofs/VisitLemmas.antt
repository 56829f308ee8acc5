-- One visit after the other.
use Rattle.std.specs.Prelude.{Some}
use Rattle.std.proofs.Common.{◌≡◌, Option, ◌∙◌, subst}
use Rattle.jup_wire.specs.declared.channel.Channel.{Channel}
use Rattle.lab_turn.specs.History.{TurnstileState}
use Rattle.kern_host.specs.declared.guest.Passes.{Passes}
use Rattle.kern_host.specs.Guests.{AreOf}
use Rattle.kern_host.specs.Visits.{House, VisitsOne, VisitsEach, NoVisit, OneVisit, VisitedWith, VisitedFrom}

-- visits after visits
pub visits_on : (house : House) (channel : Channel) (a b d : Passes) → VisitsEach house channel a b
    → VisitsEach house channel b d → VisitsEach house channel a d
visits_on house channel a b d v NoVisit = v
visits_on house channel a b d1 v (OneVisit mid d w x) = OneVisit mid d (visits_on house channel a b mid v w) x

own_one : (house : House) (channel : Channel) (desk : TurnstileState) (a b : Passes) → AreOf desk (Some a)
    → VisitsOne house channel a b → AreOf desk (Some b)
own_one house channel desk a b o v =
    let W : Option Passes → Type 0 = λ q. VisitedWith house v.old v.new q v.new.passes in
    let X : Option Passes → Type 0 = λ q. VisitedWith house v.old v.new (Some a) q in
    let f : VisitedFrom house v.old v.new a b = subst X v.passes.1 (subst W v.passes.0 v.visited) in
    (f.reading.0 ∙ o.0, f.writing.0 ∙ o.1)

-- after visits the passes are of the same desk
pub own_each : (house : House) (channel : Channel) (desk : TurnstileState) (a b : Passes)
    → AreOf desk (Some a) → VisitsEach house channel a b → AreOf desk (Some b)
own_each house channel desk a b o NoVisit = o
own_each house channel desk a b1 o (OneVisit mid b w x) =
    own_one house channel desk mid b (own_each house channel desk a mid o w) x

-- one visit, seen from where it was asked for
pub one_visit : (house at : House) (channel on : Channel) (a b : Passes) → at ≡ house → on ≡ channel
    → VisitsOne at on a b → VisitsEach house channel a b
one_visit house at channel on a b s t v =
    let H : House → Type 0 = λ h. VisitsOne h on a b in
    let C : Channel → Type 0 = λ i. VisitsOne house i a b in
    OneVisit a b NoVisit (subst C t (subst H s v))

pub ruleset visits = (NoVisit, visits_on, own_each)
