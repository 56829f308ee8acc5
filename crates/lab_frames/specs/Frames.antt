-- What one more step makes of the live frames, and how their slots lie on the stack.
use Rattle.std.specs.Prelude.{◌≡◌, ℕ, ◌+◌, ◌<◌, ◌≤◌, List, [], ◌∷◌, ◌++◌, length, min, not}
use Rattle.std.specs.Prelude.{Bool, false, nat_lt, Option, Some, None}
use Rattle.std.specs.List.{filter}
use Rattle.i80_exec.specs.declared.registers.Stepped.{Stepped}
use Rattle.i80_exec.specs.declared.registers.Stepped.TheVariants.{Called, Returned, Undefined}
use Rattle.lab_frames.specs.declared.frame.Frame.{Frame}
use Rattle.lab_frames.specs.Live.{BoardStep, Entry, Step, change_of, ended_by, live, made_by}

-- the frames that are left by a step that reported this answer and left SP there
abbrev pub survivors : Stepped → ℕ → List Frame → List Frame
survivors answer sp frames = filter (λ f. not (ended_by answer sp f.slot)) frames

-- the step reported this answer, at this PC, and left SP there
pub record IsStep (step : BoardStep) (answer : Stepped) (site sp : ℕ) : Type 0 where
  pub answer_is : (change_of step).answer ≡ answer
  pub site_is : (change_of step).before.regs.pc ≡ site
  pub sp_is : (change_of step).after.regs.sp ≡ sp

-- Whatever run has the old frames as its live ones: with one such step more, the new ones are live.
abbrev pub Advances : Stepped → ℕ → ℕ → List Frame → List Frame → Type 0
Advances answer site sp old new =
    (trace : List Entry) (step : BoardStep) → IsStep step answer site sp → old ≡ live trace
    → new ≡ live (trace ++ Step step ∷ [])

-- the slots fall strictly, from below a bound
abbrev pub Falls : ℕ → List Frame → Type 0
Falls bound [] = Unit {0}
Falls bound (f ∷ fs) = (f.slot < bound) × Falls f.slot fs

-- no slot is below this
abbrev pub AtLeast : ℕ → List Frame → Type 0
AtLeast low [] = Unit {0}
AtLeast low (f ∷ fs) = (low ≤ f.slot) × AtLeast low fs

-- One above the slot of the newest frame, or 65536 if there is none: no slot is below an SP that is below
-- this.
abbrev pub frame_floor_of : Option Frame → ℕ
frame_floor_of None = 65536
frame_floor_of (Some newest) = newest.slot + 1

-- a return is from a slot at or below those of the frames
abbrev pub ReturnsBelow : Stepped → List Frame → Type 0
ReturnsBelow answer frames = (from : ℕ) → answer ≡ Returned from → AtLeast from frames

-- However the old frames are cut in two, a step that leaves this many of all leaves as many of the older
-- ones, or all of them if they are fewer. Returns from above a newer frame are left out.
abbrev pub LeavesOldest : Stepped → ℕ → List Frame → ℕ → Type 0
LeavesOldest answer sp old left =
    (older newer : List Frame) → old ≡ older ++ newer → ReturnsBelow answer newer
    → length (survivors answer sp older) ≡ min (length older) left

-- a return from above this slot, which happens at a live frame's slot only if SP was changed by hand
abbrev pub is_from_above : Stepped → ℕ → Bool
is_from_above (Returned from) slot = nat_lt slot from
is_from_above answer slot = false

-- a call leaves SP at its slot
abbrev pub CallsAt : Stepped → ℕ → Type 0
CallsAt answer sp = (slot target : ℕ) → answer ≡ Called slot target → slot ≡ sp

-- What a step makes of the live frames, old and new, and how many of the old ones it leaves. It reported this
-- answer, with PC at the site before it, and left SP there.
pub record FollowsStep (answer : Stepped) (site sp : ℕ) (lists : List Frame × List Frame) (count : ℕ)
    : Type 0 where
  pub live : Advances answer site sp lists.0 lists.1
  pub frames : lists.1 ≡ survivors answer sp lists.0 ++ made_by answer site
  pub left : count ≡ length (survivors answer sp lists.0)
  pub oldest : LeavesOldest answer sp lists.0 count
  pub falls : Falls 65536 lists.1
  pub above : AtLeast sp lists.1

-- a return is from this SP, the one before the step
abbrev pub ReturnsFrom : Stepped → ℕ → Type 0
ReturnsFrom answer sp = (from : ℕ) → answer ≡ Returned from → from ≡ sp

-- an undefined opcode leaves SP as it was
abbrev pub KeepsSp : Stepped → ℕ → ℕ → Type 0
KeepsSp answer before after = (opcode : ℕ) → answer ≡ Undefined opcode → after ≡ before

-- SP before a step and after it, as its answer has them
pub record TellsSp (answer : Stepped) (before after : ℕ) : Type 0 where
  pub returns : ReturnsFrom answer before
  pub calls : CallsAt answer after
  pub keeps : KeepsSp answer before after
