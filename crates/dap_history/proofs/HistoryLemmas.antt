-- Histories whose log grows or is cut, or that save a moment.
use Rattle.std.proofs.Common.{◌≡◌, ◌∙◌, ◌<◌, ◌≤◌, ℕ, List, [], ◌∷◌, ◌++◌, Bool, true, false, nat_le}
use Rattle.std.proofs.Common.{nat_lt, get_or, Option, Some, None, if◌then◌else◌}
use Rattle.std.proofs.Common.{refl, ap, sym, subst, arith}
use Rattle.std.specs.List.{All, filter}
use Rattle.std.specs.Option.{IfSome}
use Rattle.std.proofs.lemmas.Bool.Decides.{nat_tests}
use Rattle.std.proofs.lemmas.List.Elements.{All-filter, All-push, filter_passes}
use Rattle.lab_core.specs.Board.{Board}
use Rattle.lab_core.specs.Labs.{LabState}
use Rattle.i80_devs.specs.Past.{RepresentsPast}
use Rattle.lab_frames.specs.Live.{live}
use Rattle.lab_core.specs.Slices.{ends_in_halt}
use Rattle.lab_core.specs.Moments.{MomentState, IsMomentOf}
use Rattle.dap_history.specs.declared.input.Recorded.{Recorded}
use Rattle.dap_history.specs.declared.saved.SavedMoment.{SavedMoment}
use Rattle.dap_history.specs.Logs.{Ascends, latest, up_to}
use Rattle.dap_history.specs.Runs.{board_at, at_from, detached_run, RunsDetached, OnlyRunChanges}
use Rattle.dap_history.specs.Histories.{HistoryState, IsHistoryOf, IsSavedOf, HasRunOf, KeepsHistory}
use Rattle.dap_history.specs.Histories.{KeepsRestAndHistory, only_if}
use Rattle.dap_history.proofs.LogLemmas.{ascends-up_to, ascends-push, up_to-push, up_to-up_to}
use Rattle.dap_history.proofs.RunLemmas.{at_up_to}
use Rattle.dap_history.proofs.ReplayLemmas.{rest_then, rest_on}

-- the board after m steps is the same with another log that has the same inputs until then
same_board : (start : Board) (m : ℕ) (log log' : List Recorded) → Ascends 0 log → Ascends 0 log'
    → up_to m log ≡ up_to m log' → board_at start log m ≡ board_at start log' m
same_board start m log log' asc asc' same =
    at_up_to 0 m start log asc ∙ ap (λ xs. at_from 0 start xs m) same ∙ sym (at_up_to 0 m start log' asc')

-- what a filter keeps of saved moments that have the same boards with another log
moments_kept : (start : Board) (log log' : List Recorded) (p : SavedMoment → Bool)
    (moments : List SavedMoment)
    → ((saved : SavedMoment) → p saved ≡ true
    → board_at start log saved.count ≡ board_at start log' saved.count)
    → All (IsSavedOf start log) moments → All (IsSavedOf start log') (filter p moments)
moments_kept start log log' p moments same all =
    λ k d within.
    let saved : SavedMoment = get_or (filter p moments) k d in
    subst (λ b. IsMomentOf saved.moment b) (same saved (filter_passes p moments k d within))
    (All-filter p (IsSavedOf start log) moments all k d within)

-- the same of one moment
near_if : (start : Board) (log log' : List Recorded) (saved : SavedMoment) (test : Bool)
    → (test ≡ true → board_at start log saved.count ≡ board_at start log' saved.count)
    → IsSavedOf start log saved → IfSome (if test then Some saved else None) (IsSavedOf start log')
near_if start log log' saved true same is = subst (λ b. IsMomentOf saved.moment b) (same refl) is
near_if start log log' saved false same is = tt

near_kept : (start : Board) (log log' : List Recorded) (p : SavedMoment → Bool) (near : Option SavedMoment)
    → ((saved : SavedMoment) → p saved ≡ true
    → board_at start log saved.count ≡ board_at start log' saved.count)
    → IfSome near (IsSavedOf start log) → IfSome (only_if p near) (IsSavedOf start log')
near_kept start log log' p None same is = tt
near_kept start log log' p (Some saved) same is = near_if start log log' saved (p saved) (same saved) is

pub history_cut : (start : Board) (h h' : HistoryState) (n : ℕ) → IsHistoryOf start h
    → h'.start ≡ h.start → h'.log ≡ up_to n h.log
    → h'.moments ≡ filter (λ saved. nat_le saved.count n) h.moments
    → h'.near ≡ only_if (λ saved. nat_le saved.count n) h.near → IsHistoryOf start h'
history_cut start h h' n is begins log moments near =
    let asc = is.ascends in
    let asc' = ascends-up_to n 0 h.log asc in
    let test : SavedMoment → Bool = λ saved. nat_le saved.count n in
    let same : (saved : SavedMoment) → test saved ≡ true
    → board_at start h.log saved.count ≡ board_at start (up_to n h.log) saved.count =
    λ saved passes.
    let within : saved.count ≤ n = grind (arith, nat_tests, passes) in
    same_board start saved.count h.log (up_to n h.log) asc asc'
    (sym (up_to-up_to saved.count n h.log within)) in
    record {
      begins = subst (λ m. IsMomentOf m start) (sym begins) is.begins;
      ascends = subst (λ xs. Ascends 0 xs) (sym log) asc';
      moments = rw (log, moments) (moments_kept start h.log (up_to n h.log) test h.moments same is.moments);
      near = rw (log, near) (near_kept start h.log (up_to n h.log) test h.near same is.near);
    }

pub history_longer : (start : Board) (h h' : HistoryState) (r : Recorded) → IsHistoryOf start h
    → latest h.log ≤ r.count → h'.start ≡ h.start → h'.log ≡ h.log ++ r ∷ []
    → h'.moments ≡ filter (λ saved. nat_lt saved.count r.count) h.moments
    → h'.near ≡ only_if (λ saved. nat_lt saved.count r.count) h.near → IsHistoryOf start h'
history_longer start h h' r is within begins log moments near =
    let asc = is.ascends in
    let longer : List Recorded = h.log ++ r ∷ [] in
    let asc' = ascends-push 0 h.log r asc within in
    let test : SavedMoment → Bool = λ saved. nat_lt saved.count r.count in
    let same : (saved : SavedMoment) → test saved ≡ true
    → board_at start h.log saved.count ≡ board_at start longer saved.count =
    λ saved passes.
    let before : saved.count < r.count = grind (arith, nat_tests, passes) in
    same_board start saved.count h.log longer asc asc' (sym (up_to-push saved.count h.log r before)) in
    record {
      begins = subst (λ m. IsMomentOf m start) (sym begins) is.begins;
      ascends = subst (λ xs. Ascends 0 xs) (sym log) asc';
      moments = rw (log, moments) (moments_kept start h.log longer test h.moments same is.moments);
      near = rw (log, near) (near_kept start h.log longer test h.near same is.near);
    }

-- a moment depends on the run alone
pub same_moment : (m : MomentState) (b b' : Board) → IsMomentOf m b → b.machine ≡ b'.machine
    → b.past ≡ b'.past → b.trace ≡ b'.trace → IsMomentOf m b'
same_moment m b b' is machine past trace = record {
  machine = is.machine ∙ machine;
  devices = subst (λ past. RepresentsPast m.devices past) past is.devices;
  taken = is.taken;
  frames = is.frames ∙ ap live trace;
  is_halted = is.is_halted ∙ ap ends_in_halt trace;
}

-- some of the saved moments, and the present one
pub history_saved : (start : Board) (h h' : HistoryState) (p : SavedMoment → Bool) (saved : SavedMoment)
    → IsHistoryOf start h → h'.start ≡ h.start → h'.log ≡ h.log
    → h'.moments ≡ filter p h.moments ++ saved ∷ [] → h'.near ≡ h.near
    → IsSavedOf start h.log saved → IsHistoryOf start h'
history_saved start h h' p saved is begins log moments near now =
    let P = IsSavedOf start h.log in
    record {
      begins = subst (λ m. IsMomentOf m start) (sym begins) is.begins;
      ascends = subst (λ xs. Ascends 0 xs) (sym log) is.ascends;
      moments = rw (log, moments)
          (All-push P (filter p h.moments) saved (All-filter p P h.moments is.moments) now);
      near = rw (log, near) is.near;
    }

-- the present moment as the near one
pub near_saved : (start : Board) (h h' : HistoryState) (saved : SavedMoment) (lab : LabState)
    → IsHistoryOf start h → (has : HasRunOf (board_at start h.log saved.count) lab)
    → IsMomentOf saved.moment has.now → h' ≡ record h { near = Some saved } → KeepsHistory start h h'
near_saved start h h' saved lab is has moment same =
    subst (λ x. KeepsHistory start h x) (sym same) (record {
      history = record {
        begins = is.begins;
        ascends = is.ascends;
        moments = is.moments;
        near = same_moment saved.moment has.now _ moment has.machine has.past has.trace;
      };
      log = refl;
    })

-- a run with no debugger is that of the board that it represents
pub has_run_of : (was now : Board) (lab : LabState) → RunsDetached was now lab → HasRunOf was lab
has_run_of was now lab runs = record {
  now = detached_run runs.0 was now;
  represents = runs.1;
  machine = refl;
  past = refl;
  trace = refl;
}

-- what keeps all but the run, in turn
pub on_the_way : (start now : Board) (old h : HistoryState) (mid new : LabState)
    → KeepsRestAndHistory old h mid start now → OnlyRunChanges mid new
    → KeepsRestAndHistory old h new start now
on_the_way start now old h mid new x changes = (rest_on mid new now x.0 changes, x.1)

pub and_then : (start now : Board) (old h h' : HistoryState) (mid new : LabState)
    (x : KeepsRestAndHistory old h mid start now) → KeepsRestAndHistory h h' new start x.0.now
    → KeepsRestAndHistory old h' new start now
and_then start now old h h' mid new x y = (
  rest_then mid new now x.0 y.0,
  record { history = y.1.history; log = y.1.log ∙ x.1.log },
)
