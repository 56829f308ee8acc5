-- The results of accepted events.
use Rattle.std.proofs.Common.{◌≡◌, ℕ, ◌<◌, List, [], ◌∷◌, Option, Some, None, Ok, Err, cond, false, refl, sym}
use Rattle.std.proofs.Common.{arith, ◌++◌, Result}
use Rattle.std.specs.Option.{is_some, IsSome}
use Rattle.std.specs.Prelude.{nat_lt}
use Rattle.std.proofs.lemmas.Bool.Decides.{nat_tests}
use Rattle.i80_exec.specs.State.{MachineState, with_byte, with_image_bytes}
use Rattle.i80_devs.specs.Past.{Press, panel_after}
use Rattle.lab_shown.specs.declared.place.Place.{Place}
use Rattle.lab_views.specs.Places.{place_named}
use Rattle.lab_views.specs.Values.{value_spelled, text_at}
use Rattle.lab_views.specs.Changes.{machine_with}
use Rattle.lab_core.specs.declared.run_state.RunState.TheVariants.{NoRun, Running, Stopped}
use Rattle.lab_core.specs.declared.answer.Answer.{Answer}
use Rattle.lab_core.specs.declared.answer.Answer.TheVariants.{Accepted, Poked}
use Rattle.lab_core.specs.declared.event.Event.{Event}
use Rattle.lab_core.specs.declared.fault.EventFault.{EventFault}
use Rattle.lab_core.specs.declared.fault.EventFault.TheVariants.{Latched}
use Rattle.lab_core.specs.Board.{Board}
use Rattle.lab_core.specs.Events.{EventResult, Gives, Applies, Runs, without_run, with_run, while_stopped}
use Rattle.lab_core.specs.Events.{press_result}
use Rattle.lab_core.specs.Events.{with_operation, poke_result, changed_to}

pub gives_without : (b new : Board) (a : Answer) → b.run ≡ NoRun
    → Gives b (without_run b.run (Ok (a, new))) (Ok a) new
gives_without b new a none = rw none (refl, refl)

pub gives_with : (b new : Board) (a : Answer) → b.run ≡ Running
    → Gives b (with_run b.run (Ok (a, new))) (Ok a) new
gives_with b new a running = rw running (refl, refl)

by_request : (latched : Option ℕ) (given : EventResult) → (IsSome latched → ⊥)
    → cond (is_some latched) (Err Latched) given ≡ given
by_request None given free = refl
by_request (Some n) given free = absurd (free refl)

-- a button from 0 to 7 latches its request if none is latched
pub pressed_is : (n : ℕ) (b : Board) → n < 8 → (IsSome (panel_after b.past).latched → ⊥)
    → press_result n b ≡ Ok (Accepted, with_operation (Press n) b)
pressed_is n b few free =
    let is_few : nat_lt 7 n ≡ false = grind (arith, nat_tests) in
    rw is_few (by_request (panel_after b.past).latched (Ok (Accepted, with_operation (Press n) b)) free)

pub gives : (b new : Board) (given : EventResult) (a : Answer) → given ≡ Ok (a, new)
    → Gives b given (Ok a) new
gives b new given a is = rw is (refl, refl)

-- a place and a value that exist
pub gives_poked : (b : Board) (reference : ℕ) (name value text : List ℕ) (place : Place) (n : ℕ)
    → b.run ≡ Stopped
    → place_named reference name ≡ Ok place → value_spelled place value ≡ Ok n → text ≡ text_at place n
    → Gives b (while_stopped b.run (poke_result reference name value b)) (Ok (Poked text))
    (changed_to (machine_with place n b.machine) b)
gives_poked b reference name value text place n stopped found spelled text-is =
    rw (stopped, found, spelled, text-is) (refl, refl)

-- a load only writes to memory
pub loaded-regs : (m : MachineState) (image : List (ℕ × ℕ)) → (with_image_bytes m image).regs ≡ m.regs
loaded-regs m [] = refl
loaded-regs m (p ∷ image) = loaded-regs (with_byte m p.0 p.1) image

-- one more event
pub Runs-append : (b mid new : Board) (events : List Event) (replies : List (Result Answer EventFault))
    (event : Event) (reply : Result Answer EventFault)
    → Runs b events replies mid → Applies mid event reply new
    → Runs b (events ++ event ∷ []) (replies ++ reply ∷ []) new
Runs-append b mid new [] [] event reply runs applies = (new, rw (sym runs) applies, refl)
Runs-append b mid new (e ∷ events) (r ∷ replies) event reply runs applies =
    (runs.0, runs.1, Runs-append runs.0 mid new events replies event reply runs.2 applies)
Runs-append b mid new [] (r ∷ replies) event reply runs applies = absurd runs
Runs-append b mid new (e ∷ events) [] event reply runs applies = absurd runs
