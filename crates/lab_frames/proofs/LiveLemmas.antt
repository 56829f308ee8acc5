-- Live frames of longer runs: one more step, a change by hand, and a run in two stretches.
use Rattle.std.proofs.Common.{◌≡◌, ℕ, List, [], ◌∷◌, ◌++◌, not, ◌&&◌, refl, sym, ap, ◌∙◌, append_assoc, arith}
use Rattle.std.proofs.Common.{append-nil}
use Rattle.std.proofs.lemmas.Grind.{common_steps}
use Rattle.std.proofs.lemmas.List.Elements.{filter-append}
use Rattle.std.specs.List.{filter}
use Rattle.i80_exec.specs.declared.registers.Stepped.{Stepped}
use Rattle.i80_exec.specs.State.{MachineState}
use Rattle.lab_frames.specs.declared.frame.Frame.{Frame}
use Rattle.lab_frames.specs.Live.{BoardStep, Entry, Step, Poke, change_of, ends, frames_by_entry, made_by}
use Rattle.lab_frames.specs.Live.{stays, live}
use Rattle.lab_frames.specs.Frames.{survivors, Advances}

-- those of the frames that one more entry leaves
abbrev spared : Entry → List Frame → List Frame
spared entry frames = filter (λ f. not (ends entry f)) frames

-- a frame stays over one more entry where it stayed so far and the entry doesn't end it
pub stays-step : (later : List Entry) (entry : Entry) (f : Frame)
    → stays (later ++ entry ∷ []) f ≡ (not (ends entry f) && stays later f)
stays-step [] entry f = refl
stays-step (first ∷ later) entry f = grind (arith, stays-step later entry f)

filter-stays-entry : (later : List Entry) (entry : Entry) (fs : List Frame)
    → filter (stays (later ++ entry ∷ [])) fs ≡ spared entry (filter (stays later) fs)
filter-stays-entry later entry [] = refl
filter-stays-entry later entry (f ∷ fs) =
    rw (stays-step later entry f) (grind (arith, filter-stays-entry later entry fs))

pub filter-stays-step : (later : List Entry) (step : BoardStep) (fs : List Frame)
    → filter (stays (later ++ Step step ∷ [])) fs ≡ survivors (change_of step).answer
    (change_of step).after.regs.sp (filter (stays later) fs)
filter-stays-step later step fs = filter-stays-entry later (Step step) fs

-- over no step every frame stays
pub filter-stays-none : (fs : List Frame) → filter (stays []) fs ≡ fs
filter-stays-none [] = refl
filter-stays-none (f ∷ fs) = ap (λ r. f ∷ r) (filter-stays-none fs)

-- one more entry: the live frames that it leaves, and the one that it makes
live-entry : (trace : List Entry) (entry : Entry)
    → live (trace ++ entry ∷ []) ≡ spared entry (live trace) ++ frames_by_entry entry
live-entry [] entry = rw (filter-stays-none (frames_by_entry entry)) (grind (arith, common_steps))
live-entry (first ∷ later) entry =
    rw (
      filter-stays-entry later entry (frames_by_entry first),
      live-entry later entry,
      filter-append (λ f. not (ends entry f)) (filter (stays later) (frames_by_entry first)) (live later),
    )
    (sym (append_assoc (spared entry (filter (stays later) (frames_by_entry first))) (spared entry (live
    later))
    (frames_by_entry entry)))

-- one more step
pub live-step : (trace : List Entry) (step : BoardStep)
    → live (trace ++ Step step ∷ []) ≡ survivors (change_of step).answer (change_of step).after.regs.sp
    (live trace) ++ frames_by_entry (Step step)
live-step trace step = live-entry trace (Step step)

spared-poke : (before after : MachineState) (fs : List Frame) → spared (Poke before after) fs ≡ fs
spared-poke before after [] = refl
spared-poke before after (f ∷ fs) = ap (λ r. f ∷ r) (spared-poke before after fs)

-- a change by hand leaves the live frames as they are
pub live-poke : (trace : List Entry) (before after : MachineState)
    → live (trace ++ Poke before after ∷ []) ≡ live trace
live-poke trace before after =
    live-entry trace (Poke before after) ∙ append-nil (spared (Poke before after) (live trace))
    ∙ spared-poke before after (live trace)

stays-append : (first later : List Entry) (f : Frame)
    → stays (first ++ later) f ≡ (stays first f && stays later f)
stays-append [] later f = refl
stays-append (x ∷ first) later f = grind (arith, stays-append first later f)

pub filter-stays-append : (first later : List Entry) (fs : List Frame)
    → filter (stays (first ++ later)) fs ≡ filter (stays later) (filter (stays first) fs)
filter-stays-append first later [] = refl
filter-stays-append first later (f ∷ fs) =
    rw (stays-append first later f) (grind (arith, filter-stays-append first later fs))

-- two stretches: the live frames of the first that the later one leaves, and those that this makes
pub live-append : (first later : List Entry)
    → live (first ++ later) ≡ filter (stays later) (live first) ++ live later
live-append [] later = refl
live-append (x ∷ first) later =
    rw (
      filter-stays-append first later (frames_by_entry x),
      live-append first later,
      filter-append (stays later) (filter (stays first) (frames_by_entry x)) (live first),
    )
    (sym (append_assoc (filter (stays later) (filter (stays first) (frames_by_entry x)))
    (filter (stays later) (live first)) (live later)))

-- what the code makes of the frames is what the filter over one step more gives
pub advances : (answer : Stepped) (site sp : ℕ) (old new : List Frame)
    → new ≡ survivors answer sp old ++ made_by answer site → Advances answer site sp old new
advances answer site sp old new new-is trace step is old-is =
    new-is ∙ sym (live-step trace step ∙ rw (is.answer_is, is.site_is, is.sp_is, ← old-is) refl)
