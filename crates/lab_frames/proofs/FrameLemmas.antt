-- Popping frames whose slots fall leaves those that the step doesn't end.
use Rattle.std.proofs.Common.{◌≡◌, ℕ, ◌-◌, ◌<◌, ◌≤◌, List, [], ◌∷◌, ◌++◌, ◌+◌, true, false, not, Some, suc}
use Rattle.std.proofs.Common.{length, take, min, refl, sym, ap, ◌∙◌, subst, arith, append-nil, length-append}
use Rattle.std.proofs.Common.{inl, inr}
use Rattle.std.proofs.lemmas.Bool.{cases_Bool, cond_both, both_ways}
use Rattle.std.proofs.lemmas.Bool.Decides.{nat_tests}
use Rattle.std.proofs.lemmas.Grind.{common_steps}
use Rattle.std.specs.List.{slice_get}
use Rattle.i80_exec.specs.declared.registers.Stepped.{Stepped}
use Rattle.i80_exec.specs.declared.registers.Stepped.TheVariants.{Called, Done, Returned}
use Rattle.lab_frames.specs.declared.frame.Frame.{Frame}
use Rattle.lab_frames.specs.Live.{BoardStep, Entry, Step, live, made_by, ended_by}
use Rattle.lab_frames.specs.Frames.{survivors, Advances, LeavesOldest, Falls, AtLeast, ReturnsBelow, CallsAt}
use Rattle.lab_frames.specs.Frames.{IsStep, FollowsStep, is_from_above}
use Rattle.lab_frames.proofs.LiveLemmas.{advances}

falls-more : (low high : ℕ) (fs : List Frame) → low ≤ high → Falls low fs → Falls high fs
falls-more low high [] h falls = tt
falls-more low high (f ∷ fs) h falls = let below : f.slot < low = falls.0 in (omega arith, falls.1)

falls-last : (bound : ℕ) (rest : List Frame) (top : Frame) → Falls bound (rest ++ top ∷ []) → top.slot < bound
falls-last bound [] top falls = falls.0
falls-last bound (f ∷ rest) top falls =
    let h : f.slot < bound = falls.0 in
    let below : top.slot < f.slot = falls-last f.slot rest top falls.1 in
    omega arith

falls-front : (bound : ℕ) (rest : List Frame) (top : Frame) → Falls bound (rest ++ top ∷ [])
    → Falls bound rest
falls-front bound [] top falls = tt
falls-front bound (f ∷ rest) top falls = (falls.0, falls-front f.slot rest top falls.1)

-- at most as many frames as there are slots below the bound
pub falls-length : (bound : ℕ) (fs : List Frame) → Falls bound fs → length fs ≤ bound
falls-length bound [] falls = omega arith
falls-length bound (f ∷ fs) falls =
    let below : f.slot < bound = falls.0 in
    let fewer = falls-length f.slot fs falls.1 in
    omega arith

at_least-front : (low : ℕ) (rest : List Frame) (top : Frame) → AtLeast low (rest ++ top ∷ [])
    → AtLeast low rest
at_least-front low [] top h = tt
at_least-front low (f ∷ rest) top h = (h.0, at_least-front low rest top h.1)

at_least-last : (low : ℕ) (rest : List Frame) (top : Frame) → AtLeast low (rest ++ top ∷ []) → low ≤ top.slot
at_least-last low [] top h = h.0
at_least-last low (f ∷ rest) top h = at_least-last low rest top h.1

at_least-push : (low : ℕ) (fs : List Frame) (g : Frame) → AtLeast low fs → low ≤ g.slot
    → AtLeast low (fs ++ g ∷ [])
at_least-push low [] g h b = (b, tt)
at_least-push low (f ∷ fs) g h b = (h.0, at_least-push low fs g h.1 b)

-- a return is from a slot at or below this one
abbrev ReturnsBelowSlot : Stepped → ℕ → Type 0
ReturnsBelowSlot answer slot = (from : ℕ) → answer ≡ Returned from → from ≤ slot

returns-first : (answer : Stepped) (f : Frame) (fs : List Frame) → ReturnsBelow answer (f ∷ fs)
    → ReturnsBelowSlot answer f.slot
returns-first answer f fs h = λ from is. (h from is).0

returns-rest : (answer : Stepped) (f : Frame) (fs : List Frame) → ReturnsBelow answer (f ∷ fs)
    → ReturnsBelow answer fs
returns-rest answer f fs h = λ from is. (h from is).1

-- a return isn't from above this slot
not-above-from : (answer : Stepped) (slot from : ℕ) → answer ≡ Returned from
    → is_from_above answer slot ≡ false → from ≤ slot
not-above-from answer slot from is e =
    let other : is_from_above (Returned from) slot ≡ false = rw is at e in grind (arith, nat_tests)

not-above : (answer : Stepped) (slot : ℕ) → is_from_above answer slot ≡ false → ReturnsBelowSlot answer slot
not-above answer slot e = λ from is. not-above-from answer slot from is e

-- a frame at or above one that stays does too
stays-up : (answer : Stepped) (sp slot higher : ℕ) → slot ≤ higher → ReturnsBelowSlot answer slot
    → ended_by answer sp slot ≡ false → ended_by answer sp higher ≡ false
stays-up (Returned from) sp slot higher h below e =
    let from-below : from ≤ slot = below from refl in
    grind (arith, nat_tests)
stays-up answer sp slot higher h below e = grind (arith, nat_tests)

-- where the newest of falling frames stays, all do
survivors-all : (answer : Stepped) (sp bound : ℕ) (rest : List Frame) (top : Frame)
    → Falls bound (rest ++ top ∷ []) → ReturnsBelowSlot answer top.slot
    → ended_by answer sp top.slot ≡ false → survivors answer sp (rest ++ top ∷ []) ≡ rest ++ top ∷ []
survivors-all answer sp bound [] top falls below e = rw e refl
survivors-all answer sp bound (f ∷ rest) top falls below e =
    let under : top.slot < f.slot = falls-last f.slot rest top falls.1 in
    let stays : ended_by answer sp f.slot ≡ false =
    stays-up answer sp top.slot f.slot (omega arith) below e in
    rw stays (ap (λ r. f ∷ r) (survivors-all answer sp f.slot rest top falls.1 below e))

-- where the newest is ended, it goes
survivors-pop : (answer : Stepped) (sp : ℕ) (rest : List Frame) (top : Frame)
    → ended_by answer sp top.slot ≡ true → survivors answer sp (rest ++ top ∷ []) ≡ survivors answer sp rest
survivors-pop answer sp [] top e = rw e refl
survivors-pop answer sp (f ∷ rest) top e = rw (survivors-pop answer sp rest top e) refl

-- a list that has a newest element
split-last : (fs : List Frame) (top : Frame) → slice_get fs (length fs - 1) ≡ Some top
    → fs ≡ take (length fs - 1) fs ++ top ∷ []
split-last [] top e = cc
split-last (f ∷ []) top e = grind (arith, common_steps)
split-last (f ∷ g ∷ fs) top e =
    let two : suc (suc (length fs)) - 1 ≡ suc (length fs) = omega arith in
    let one : suc (length fs) - 1 ≡ length fs = omega arith in
    let shorter : slice_get (g ∷ fs) (length fs) ≡ Some top → g ∷ fs ≡ take (length fs) (g ∷ fs) ++ top ∷ [] =
    rw one at (split-last (g ∷ fs) top) in
    rw two (ap (λ r. f ∷ r) (shorter (rw two at e)))

-- the loop of the pops, where it ends
pub survivors-last : (answer : Stepped) (sp bound : ℕ) (fs : List Frame) (top : Frame)
    → slice_get fs (length fs - 1) ≡ Some top → Falls bound fs → is_from_above answer top.slot ≡ false
    → ended_by answer sp top.slot ≡ false → survivors answer sp fs ≡ fs
survivors-last answer sp bound fs top is falls below e =
    let rest : List Frame = take (length fs - 1) fs in
    let split : fs ≡ rest ++ top ∷ [] = split-last fs top is in
    let P : List Frame → Type 0 = λ xs. survivors answer sp xs ≡ xs in
    let F : List Frame → Type 0 = λ xs. Falls bound xs in
    subst P (sym split) (survivors-all answer sp bound rest top (subst F split falls)
    (not-above answer top.slot below) e)

-- the frames without the newest one, which is ended
pub record Popped (answer : Stepped) (sp bound : ℕ) (fs rest : List Frame) : Type 0 where
  pub same : survivors answer sp rest ≡ survivors answer sp fs
  pub falls : Falls bound rest

-- the loop of the pops, where it goes on
pub popped : (answer : Stepped) (sp bound : ℕ) (fs rest : List Frame) (top : Frame)
    → slice_get fs (length fs - 1) ≡ Some top → rest ≡ take (length fs - 1) fs → Falls bound fs
    → ended_by answer sp top.slot ≡ true → Popped answer sp bound fs rest
popped answer sp bound fs rest top is rest-is falls e =
    let split : fs ≡ rest ++ top ∷ [] = rw rest-is (split-last fs top is) in
    let F : List Frame → Type 0 = λ xs. Falls bound xs in
    record {
      same = rw split (sym (survivors-pop answer sp rest top e));
      falls = falls-front bound rest top (subst F split falls);
    }

-- whatever the step was, what it leaves isn't below SP
survivors-at_least : (answer : Stepped) (sp : ℕ) (fs : List Frame) → AtLeast sp (survivors answer sp fs)
survivors-at_least answer sp [] = tt
survivors-at_least answer sp (f ∷ fs) =
    let P : List Frame → Type 0 = λ xs. AtLeast sp xs in
    cond_both (not (ended_by answer sp f.slot)) (f ∷ survivors answer sp fs) (survivors answer sp fs) P
    (λ e. (grind (arith, nat_tests), survivors-at_least answer sp fs))
    (λ e. survivors-at_least answer sp fs)

survivors-falls : (answer : Stepped) (sp bound : ℕ) (fs : List Frame) → Falls bound fs
    → Falls bound (survivors answer sp fs)
survivors-falls answer sp bound [] falls = tt
survivors-falls answer sp bound (f ∷ fs) falls =
    let below : f.slot < bound = falls.0 in
    let P : List Frame → Type 0 = λ xs. Falls bound xs in
    cond_both (not (ended_by answer sp f.slot)) (f ∷ survivors answer sp fs) (survivors answer sp fs) P
    (λ e. (below, survivors-falls answer sp f.slot fs falls.1))
    (λ e. falls-more f.slot bound (survivors answer sp fs) (omega arith)
    (survivors-falls answer sp f.slot fs falls.1))

-- a call's slot is below each that the call leaves
falls-call : (sp slot target bound : ℕ) (fs : List Frame) (g : Frame) → g.slot ≡ slot → slot < bound
    → Falls bound fs → Falls bound (survivors (Called slot target) sp fs ++ g ∷ [])
falls-call sp slot target bound [] g is h falls = (rw is h, tt)
falls-call sp slot target bound (f ∷ fs) g is h falls =
    let P : List Frame → Type 0 = λ xs. Falls bound (xs ++ g ∷ []) in
    let below : f.slot < bound = falls.0 in
    cond_both (not (ended_by (Called slot target) sp f.slot)) (f ∷ survivors (Called slot target) sp fs)
    (survivors (Called slot target) sp fs) P
    (λ e. (below, falls-call sp slot target f.slot fs g is (grind (arith, nat_tests)) falls.1))
    (λ e. falls-call sp slot target bound fs g is h (falls-more f.slot bound fs (omega arith) falls.1))

-- the frames after a step still fall, and none is below SP
advanced-falls : (answer : Stepped) (site sp : ℕ) (fs : List Frame) → sp < 65536 → CallsAt answer sp
    → Falls 65536 fs → Falls 65536 (survivors answer sp fs ++ made_by answer site)
advanced-falls (Called slot target) site sp fs h calls falls =
    let is : slot ≡ sp = calls slot target refl in
    falls-call sp slot target 65536 fs (record { slot = slot; target = target; site = site }) refl
    (omega arith) falls
advanced-falls answer site sp fs h calls falls =
    rw (append-nil (survivors answer sp fs)) (survivors-falls answer sp 65536 fs falls)

advanced-above : (answer : Stepped) (site sp : ℕ) (fs : List Frame) → CallsAt answer sp
    → AtLeast sp (survivors answer sp fs ++ made_by answer site)
advanced-above (Called slot target) site sp fs calls =
    let is : slot ≡ sp = calls slot target refl in
    at_least-push sp (survivors (Called slot target) sp fs)
    (record { slot = slot; target = target; site = site }) (survivors-at_least (Called slot target) sp fs)
    (omega arith)
advanced-above answer site sp fs calls =
    rw (append-nil (survivors answer sp fs)) (survivors-at_least answer sp fs)

-- below a frame that is ended, all are
ended-down : (answer : Stepped) (sp : ℕ) (f : Frame) (fs : List Frame) → Falls f.slot fs
    → ReturnsBelow answer fs → ended_by answer sp f.slot ≡ true → survivors answer sp fs ≡ []
ended-down answer sp f [] falls returns e = refl
ended-down answer sp f (g ∷ gs) falls returns e =
    let below : g.slot < f.slot = falls.0 in
    let ended : ended_by answer sp g.slot ≡ true =
    elim (cases_Bool (ended_by answer sp g.slot)) [
      | inl t ↦ t
      | inr n ↦
          absurd (both_ways (ended_by answer sp f.slot) (stays-up answer sp g.slot f.slot (omega arith)
          (returns-first answer g gs returns) n) e)
    ] in
    rw ended (ended-down answer sp f gs (falls-more g.slot f.slot gs (omega arith) falls.1)
    (returns-rest answer g gs returns) e)

-- how many of the older frames are left, from how many are left of all
older-left : (answer : Stepped) (sp bound : ℕ) (older newer : List Frame) → Falls bound (older ++ newer)
    → ReturnsBelow answer (older ++ newer)
    → length (survivors answer sp older) ≡ min (length older) (length (survivors answer sp (older ++ newer)))
older-left answer sp bound [] newer falls returns = omega arith
older-left answer sp bound (f ∷ older) newer falls returns =
    let shorter =
    older-left answer sp f.slot older newer falls.1 (returns-rest answer f (older ++ newer) returns) in
    elim (cases_Bool (ended_by answer sp f.slot)) [
      | inr n ↦ rw n (omega (arith, shorter))
      | inl t ↦
          let none : survivors answer sp (older ++ newer) ≡ [] =
          ended-down answer sp f (older ++ newer) falls.1 (returns-rest answer f (older ++ newer) returns)
          t in
          let left : length (survivors answer sp older) ≡ min (length older) 0 = rw none at shorter in
          rw (t, none) (omega arith)
    ]

-- those above a frame lie above its slot
falls-middle : (bound : ℕ) (older : List Frame) (g : Frame) (newer : List Frame)
    → Falls bound (older ++ g ∷ newer) → g.slot < bound
falls-middle bound [] g newer falls = falls.0
falls-middle bound (f ∷ older) g newer falls =
    let h : f.slot < bound = falls.0 in
    let below : g.slot < f.slot = falls-middle f.slot older g newer falls.1 in
    omega arith

-- a return from at or below some frames is so from the older ones too
at_least-all : (low bound : ℕ) (older : List Frame) (g : Frame) (newer : List Frame)
    → Falls bound (older ++ g ∷ newer) → AtLeast low (g ∷ newer) → AtLeast low (older ++ g ∷ newer)
at_least-all low bound [] g newer falls h = h
at_least-all low bound (f ∷ older) g newer falls h =
    let under : g.slot < f.slot = falls-middle f.slot older g newer falls.1 in
    let first : low ≤ g.slot = h.0 in
    (omega arith, at_least-all low f.slot older g newer falls.1 h)

survivors-fewer : (answer : Stepped) (sp : ℕ) (fs : List Frame) → length (survivors answer sp fs) ≤ length fs
survivors-fewer answer sp [] = omega arith
survivors-fewer answer sp (f ∷ fs) =
    let fewer = survivors-fewer answer sp fs in
    elim (cases_Bool (ended_by answer sp f.slot)) [
      | inr n ↦ rw n (omega arith)
      | inl t ↦ rw t (omega arith)
    ]

-- where no frame is newer, as many are left as are left of all; else each return is from below all
older-of-all : (answer : Stepped) (sp bound : ℕ) (older newer : List Frame) → Falls bound (older ++ newer)
    → ReturnsBelow answer newer
    → length (survivors answer sp older) ≡ min (length older) (length (survivors answer sp (older ++ newer)))
older-of-all answer sp bound older [] falls returns =
    let fewer = survivors-fewer answer sp older in
    rw (append-nil older) (omega arith)
older-of-all answer sp bound older (g ∷ newer) falls returns =
    older-left answer sp bound older (g ∷ newer) falls
    (λ from is. at_least-all from bound older g newer falls (returns from is))

leaves_oldest : (answer : Stepped) (sp bound : ℕ) (fs : List Frame) → Falls bound fs
    → LeavesOldest answer sp fs (length (survivors answer sp fs))
leaves_oldest answer sp bound fs falls older newer split returns =
    let F : List Frame → Type 0 = λ xs. Falls bound xs in
    rw split (older-of-all answer sp bound older newer (subst F split falls) returns)

-- what following a step makes of the frames, from those that were popped and pushed
pub advanced : (answer : Stepped) (site sp : ℕ) (old inside popped new : List Frame) → inside ≡ old
    → sp < 65536 → CallsAt answer sp → Falls 65536 inside
    → popped ≡ survivors answer sp inside → new ≡ popped ++ made_by answer site
    → FollowsStep answer site sp (old, new) (length popped)
advanced answer site sp old inside popped new view-is h calls falls popped-is new-is =
    let F : List Frame → Type 0 = λ xs. Falls 65536 xs in
    let A : List Frame → Type 0 = λ xs. AtLeast sp xs in
    let L : ℕ → Type 0 = λ n. LeavesOldest answer sp old n in
    let left : popped ≡ survivors answer sp old = rw (← view-is) popped-is in
    let now : survivors answer sp old ++ made_by answer site ≡ new =
    sym (new-is ∙ ap (λ xs. xs ++ made_by answer site) left) in
    let falls-old : Falls 65536 old = subst F view-is falls in
    let falls-new : Falls 65536 new = subst F now (advanced-falls answer site sp old h calls falls-old) in
    let count : length popped ≡ length (survivors answer sp old) = ap (λ (xs : List Frame). length xs) left in
    record {
      live = advances answer site sp old new (sym now);
      frames = sym now;
      left = count;
      oldest = subst L (sym count) (leaves_oldest answer sp 65536 old falls-old);
      falls = falls-new;
      above = subst A now (advanced-above answer site sp old calls);
    }

-- of the frames that a stretch of a run makes, none lies below SP after a step that ends it, wherever SP
-- was before
pub live-above : (trace : List Entry) (step : BoardStep) (answer : Stepped) (site sp : ℕ)
    → IsStep step answer site sp → CallsAt answer sp → AtLeast sp (live (trace ++ Step step ∷ []))
live-above trace step answer site sp is calls =
    let A : List Frame → Type 0 = λ xs. AtLeast sp xs in
    subst A (advances answer site sp (live trace) (survivors answer sp (live trace) ++ made_by answer site)
    refl trace step is refl) (advanced-above answer site sp (live trace) calls)

-- ---- a step that ends none

survivors-quiet : (sp : ℕ) (fs : List Frame) → AtLeast sp fs → survivors Done sp fs ≡ fs
survivors-quiet sp [] above = refl
survivors-quiet sp (f ∷ fs) above =
    let low : sp ≤ f.slot = above.0 in
    let stays : ended_by Done sp f.slot ≡ false = grind (arith, nat_tests) in
    rw stays (ap (λ r. f ∷ r) (survivors-quiet sp fs above.1))

-- a step that answers Done and leaves SP above no slot leaves the frames as they are
pub quiet-advances : (site sp : ℕ) (fs : List Frame) → AtLeast sp fs → Advances Done site sp fs fs
quiet-advances site sp fs above =
    advances Done site sp fs fs (sym (append-nil (survivors Done sp fs) ∙ survivors-quiet sp fs above))

at_least-older : (low : ℕ) (older newer : List Frame) → AtLeast low (older ++ newer) → AtLeast low older
at_least-older low [] newer h = tt
at_least-older low (f ∷ older) newer h = (h.0, at_least-older low older newer h.1)

pub quiet-oldest : (sp : ℕ) (fs : List Frame) → AtLeast sp fs → LeavesOldest Done sp fs (length fs)
quiet-oldest sp fs above older newer split returns =
    let A : List Frame → Type 0 = λ xs. AtLeast sp xs in
    let stay : survivors Done sp older ≡ older =
    survivors-quiet sp older (at_least-older sp older newer (subst A split above)) in
    let counts : length fs ≡ length older + length newer = rw split (length-append older newer) in
    rw stay (omega arith)

-- no slot is below the newest one of falling frames
at_least-newest : (sp bound : ℕ) (rest : List Frame) (top : Frame) → Falls bound (rest ++ top ∷ [])
    → sp ≤ top.slot → AtLeast sp (rest ++ top ∷ [])
at_least-newest sp bound [] top falls low = (low, tt)
at_least-newest sp bound (f ∷ rest) top falls low =
    let under : top.slot < f.slot = falls-last f.slot rest top falls.1 in
    (omega arith, at_least-newest sp f.slot rest top falls.1 low)

-- no slot is below an SP below the frame floor
pub last-above : (bound sp : ℕ) (inside fs : List Frame) (top : Frame)
    → slice_get inside (length inside - 1) ≡ Some top → inside ≡ fs → Falls bound inside → sp < top.slot + 1
    → AtLeast sp fs
last-above bound sp inside fs top is view-is falls low =
    let rest : List Frame = take (length inside - 1) inside in
    let split : inside ≡ rest ++ top ∷ [] = split-last inside top is in
    let A : List Frame → Type 0 = λ xs. AtLeast sp xs in
    let F : List Frame → Type 0 = λ xs. Falls bound xs in
    subst A view-is (subst A (sym split) (at_least-newest sp bound rest top (subst F split falls)
    (omega arith)))
