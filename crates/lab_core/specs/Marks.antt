-- Marks: addresses that PC reaches, and places that a step changes. A slice may end at the first mark.
use Rattle.std.specs.Prelude.{◌≡◌, ◌≢◌, ◌≤◌, ◌<◌, ℕ, zero, suc, ◌+◌, ◌-◌, List, [], map, Bool, true, false}
use Rattle.std.specs.Prelude.{not, ◌&&◌}
use Rattle.std.specs.Prelude.{◌||◌, ◌==◌, nat_lt, Result, Err, IfOk, length, if◌then◌else◌}
use Rattle.std.specs.List.{list_any}
use Rattle.i80_base.specs.declared.ports.PortOperation.{PortOperation}
use Rattle.i80_exec.specs.declared.registers.Registers.{Registers}
use Rattle.i80_exec.specs.State.{MachineState, byte_at}
use Rattle.lab_image.specs.Addresses.{has, IsEmpty}
use Rattle.lab_shown.specs.declared.place.Place.{Place}
use Rattle.lab_shown.specs.declared.place.Place.TheVariants as place
use Rattle.lab_core.specs.declared.answer.Answer.{Answer}
use Rattle.lab_core.specs.declared.answer.Answer.TheVariants as answer
use Rattle.lab_core.specs.declared.event.Event.TheVariants.{Slice}
use Rattle.lab_core.specs.declared.fault.EventFault.{EventFault}
use Rattle.lab_core.specs.declared.fault.EventFault.TheVariants.{OutOfMemory}
use Rattle.lab_core.specs.declared.lab.Context.{Context}
use Rattle.lab_core.specs.declared.marks.Watch.{Watch}
use Rattle.lab_core.specs.Board.{Board}
use Rattle.lab_core.specs.Slices.{after_steps}
use Rattle.lab_core.specs.Events.{Applies}
use Rattle.lab_core.specs.SliceEnds.{traffic_in}
use Rattle.lab_core.specs.Labs.{LabState, RepresentsDuringSlice, RepresentsBoard, in_slice}

-- what a contract sees of marks: whether each address is marked, the watched places, and of the last slice
-- whether it ended at a mark, and where PC was before its last step
pub record MarksState : Type 0 where
  pub addresses : List Bool
  pub watches : List Watch
  pub is_met : Bool
  pub stepped_from : ℕ

-- there are no marks
pub record IsClear (marks : MarksState) : Type 0 where
  pub addresses : IsEmpty marks.addresses
  pub watches : marks.watches ≡ []
  pub is_met : marks.is_met ≡ false
  pub stepped_from : marks.stepped_from ≡ 0

-- ---- where a mark is

-- the value of a register; 0 for a byte of memory
abbrev pub register_at : Place → Registers → ℕ
register_at place.A r = r.a
register_at place.B r = r.b
register_at place.C r = r.c
register_at place.D r = r.d
register_at place.E r = r.e
register_at place.H r = r.h
register_at place.L r = r.l
register_at place.Sp r = r.sp
register_at place.Pc r = r.pc
register_at (place.Memory address) r = 0

abbrev pub value_at : Place → MachineState → ℕ
value_at (place.Memory address) m = byte_at m address
value_at register m = register_at register m.regs

-- whether the place has another value in the second machine
abbrev pub is_changed : MachineState → MachineState → Watch → Bool
is_changed m m' w = not (value_at w.place m == value_at w.place m')

-- whether a step from the first machine to the second reaches a mark: PC is at a marked address, or a watched
-- place has changed
abbrev pub is_marked : MarksState → MachineState → MachineState → Bool
is_marked marks m m' = has marks.addresses m'.regs.pc || list_any (is_changed m m') marks.watches

-- whether the last of j steps reaches a mark
abbrev pub marked_at : MarksState → Board → ℕ → Bool
marked_at marks b j = is_marked marks (after_steps (j - 1) b).machine (after_steps j b).machine

-- the first of the next counts after k that passes the test, or the last of them
unfoldable pub first_after : (ℕ → Bool) → ℕ → ℕ → ℕ
first_after test zero k = k
first_after test (suc more) k = if test (k + 1) then k + 1 else first_after test more (k + 1)

-- the first count from 1 to n at which there is a mark, or n
abbrev pub first_mark : MarksState → ℕ → Board → ℕ
first_mark marks n b = first_after (marked_at marks b) n 0

-- k is the least count from 1 to n at which there is a mark, or n if there is none below it
pub record IsFirstMark (marks : MarksState) (n : ℕ) (b : Board) (k : ℕ) : Type 0 where
  pub some : 1 ≤ k
  pub within : k ≤ n
  pub none_before : (j : ℕ) → 1 ≤ j → j < k → marked_at marks b j ≡ false
  pub there : k < n → marked_at marks b k ≡ true

-- ---- slices

abbrev pub steps_in : Answer → ℕ
steps_in (answer.Sliced k traffic ending) = k
steps_in _ = 0

-- From every board the old lab represents, this is the slice of as many steps as reach the first mark.
abbrev pub SlicesTo : MarksState → ℕ → LabState → Result Answer EventFault → LabState → Type 0
SlicesTo marks n old reply new =
    (b : Board) → RepresentsBoard old b → reply ≢ Err OutOfMemory
    → (b' : Board) × Applies b (Slice (first_mark marks n b)) reply b' × RepresentsBoard new b'

-- a watched place, with its values in two machines
abbrev pub watch_of : MachineState → MachineState → Watch → Watch
watch_of m m' w = record { place = w.place; before = value_at w.place m; after = value_at w.place m' }

-- the marks after k steps: the values before and after the last one, whether it reached a mark, and where PC
-- was before it; after no step, where PC is
abbrev pub marks_after : ℕ → Board → MarksState → MarksState
marks_after k b marks = record marks {
  watches = map (watch_of (after_steps (k - 1) b).machine (after_steps k b).machine) marks.watches;
  is_met = nat_lt 0 k && marked_at marks b k;
  stepped_from = (after_steps (k - 1) b).machine.regs.pc;
}

-- From every board, the slice leaves these marks, and its answer has at most n port operations.
abbrev pub Leaves : ℕ → LabState → Result Answer EventFault → MarksState → MarksState → Type 0
Leaves n old reply marks marks' =
    (b : Board) → RepresentsBoard old b → IfOk reply
    (λ answer. (marks' ≡ marks_after (steps_in answer) b marks) × (length (traffic_in answer) ≤ n))

-- ---- during a slice

-- whether the place's value in the machine differs from the recorded one
abbrev pub differs : MachineState → Watch → Bool
differs m w = not (w.before == value_at w.place m)

-- the recorded values are the machine's
abbrev pub IsKept : MachineState → MarksState → Type 0
IsKept m marks = list_any (differs m) marks.watches ≡ false

-- whether the last step reached a mark, if the recorded values are those before it
abbrev pub is_at : MachineState → MarksState → Bool
is_at m marks = has marks.addresses m.regs.pc || list_any (differs m) marks.watches

-- the marks at the beginning of a slice
abbrev pub with_values : MachineState → MarksState → MarksState
with_values m marks = record marks { watches = map (watch_of m m) marks.watches; is_met = false }

abbrev pub with_after : MachineState → Watch → Watch
with_after m w = record w { after = value_at w.place m }

-- the marks at its end, after k steps, the last of them with PC at `site` before
abbrev pub with_end : ℕ → ℕ → MachineState → MarksState → MarksState
with_end k site m marks = record marks {
  watches = map (with_after m) marks.watches;
  is_met = nat_lt 0 k && is_at m marks;
  stepped_from = site;
}

-- where PC was before the last of k steps from this board, or `site` if there was none
abbrev pub last_site : ℕ → ℕ → Board → ℕ
last_site zero site b = site
last_site (suc k) site b = (after_steps k b).machine.regs.pc

-- only the last of these steps may have reached a mark, and the recorded values are those before it
pub record Passes (marks : MarksState) (made : ℕ) (b : Board) : Type 0 where
  pub none : (j : ℕ) → 1 ≤ j → j < made → marked_at marks b j ≡ false
  pub kept : IsKept (after_steps (made - 1) b).machine marks

-- the same from every board that the lab represents
abbrev pub PassesIn : MarksState → ℕ → MachineState → Context → Type 0
PassesIn marks made machine context =
    (lab : LabState) (b : Board) (traffic : List PortOperation)
    → RepresentsDuringSlice (in_slice lab machine context) b traffic → Passes marks made b
